use Rattle.std.proofs.Common.{rules, ◌≡◌, ◌+◌, ◌∙◌, sym, arith, length, vec_len}
use Rattle.squall_blocks.proofs.Undoing.{traded}
use Rattle.squall_blocks.proofs.steps.trade.Goals as goal

pub returns-clause-step : goal.returns-clause-step
returns-clause-step g c =
    let first = c.args.first in
    let stop = c.args.first + c.len.result in
    let ends_len : vec_len c.args.ends ≡ length c.args.ends.items = search rules in
    let fresh_len : vec_len c.args.fresh ≡ length c.args.fresh.items = search rules in
    let n : c.len.result ≡ length c.args.fresh.items = search rules in
    let lasts =
    traded c.args.lasts.now.items c.swap_in-old.new.items.items c.args.ends.items c.swap_in-old.result.items first (vec_len c.args.ends) stop ends_len (omega (arith, ends_len, c.requires.lasts))
    (omega (arith, n, c.requires.same)) c.swap_in-old.ensures.items c.swap_in-old.ensures.gone in
    let blocks =
    traded c.args.blocks.now.items c.swap_in-gone.new.items.items c.args.fresh.items c.swap_in-gone.result.items first (vec_len c.args.fresh) stop fresh_len (omega (arith, fresh_len, c.requires.blocks))
    (omega (arith, n)) c.swap_in-gone.ensures.items c.swap_in-gone.ensures.gone in
    record {
      within = record { order = omega arith; lasts = lasts.within; blocks = blocks.within; same = lasts.len ∙ c.requires.same ∙ sym blocks.len };
      lasts = lasts.back;
      blocks = blocks.back;
    }
