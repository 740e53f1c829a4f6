use Rattle.std.proofs.Common.{rules, ◌≡◌, ◌+◌, ◌-◌, ◌∙◌, ap, sym, arith, length, take, drop}
use Rattle.std.specs.List.{splice}
use Rattle.squall_blocks.proofs.Undoing.{spliced_back, spliced_as, length_spliced, length_part}
use Rattle.squall_blocks.proofs.steps.exchange_other.Goals as goal

pub returns-clause-blocks : goal.returns-clause-blocks
returns-clause-blocks g c =
    c.exchange_ready.ensures.items
    ∙ spliced_as c.args.blocks.now.items c.take_out.new.blocks.items c.args.fresh.items c.args.first c.args.end c.in_ok-gone.ensures.front c.in_ok-gone.ensures.behind

pub returns-clause-step : goal.returns-clause-step
returns-clause-step g c =
    let first = c.args.first in
    let end = c.args.end in
    let stop = c.args.first + c.len.result in
    let n : c.len.result ≡ length c.args.fresh.items = search rules in
    let ends : stop ≡ first + length c.args.ends.now = omega (arith, n, c.requires.same) in
    let old : c.in_ok-old.old.items ≡ take (end - first) (drop first c.args.lasts.now.items) = c.in_ok-old.ensures.items ∙ ap (λ l. take (end - first) (drop first l)) c.deref.ensures.value in
    let blocks_are : c.exchange_ready.new.items.items ≡ splice c.args.blocks.now.items first end c.args.fresh.items =
    c.exchange_ready.ensures.items ∙ spliced_as c.args.blocks.now.items c.take_out.new.blocks.items c.args.fresh.items first end c.in_ok-gone.ensures.front c.in_ok-gone.ensures.behind in
    let lasts_len = ap length c.replace_ready.ensures.items in
    let blocks_len = ap length blocks_are in
    let a = length_spliced c.args.lasts.now.items c.args.ends.now first end c.requires.order c.requires.lasts in
    let b = length_spliced c.args.blocks.now.items c.args.fresh.items first end c.requires.order c.requires.blocks in
    let k : length c.in_ok-old.old.items ≡ end - first = ap length old ∙ length_part c.args.lasts.now.items first end c.requires.order c.requires.lasts in
    let m : length c.in_ok-gone.gone.items ≡ end - first = ap length c.in_ok-gone.ensures.gone ∙ length_part c.args.blocks.now.items first end c.requires.order c.requires.blocks in
    record {
      within = record {
        order = omega arith;
        lasts = omega (arith, lasts_len, a, ends, c.requires.lasts, c.requires.order);
        blocks = omega (arith, blocks_len, b, n, c.requires.blocks, c.requires.order);
        same = k ∙ sym m;
      };
      lasts =
          ap (λ l. splice l first stop c.in_ok-old.old.items) c.replace_ready.ensures.items
          ∙ spliced_back c.args.lasts.now.items c.args.ends.now c.in_ok-old.old.items first end stop c.requires.order c.requires.lasts ends old;
      blocks =
          ap (λ l. splice l first stop c.in_ok-gone.gone.items) blocks_are
          ∙ spliced_back c.args.blocks.now.items c.args.fresh.items c.in_ok-gone.gone.items first end stop c.requires.order c.requires.blocks (omega (arith, n)) c.in_ok-gone.ensures.gone;
    }
