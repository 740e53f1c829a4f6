use Rattle.std.proofs.Common.{rules, ◌≡◌, ◌+◌, ◌-◌, ◌∙◌, ap, refl, length, vec_len, arith}
use Rattle.std.specs.List.{splice}
use Rattle.squall_blocks.proofs.Turned.{shrunk}
use Rattle.squall_blocks.proofs.ready.put_fewer.Goals as goal

pub returns-then-stop-end-clause-items : goal.returns-then-stop-end-clause-items
returns-then-stop-end-clause-items g c =
    let xs = c.args.items.now.items in
    let stop = c.args.first + c.len.result in
    let m : c.len.result ≡ length c.args.fresh.items = search rules in
    let k : vec_len c.args.fresh ≡ length c.args.fresh.items = search rules in
    let n : c.len-2.result ≡ length xs = search rules in
    let same : c.args.first + vec_len c.args.fresh ≡ stop = omega (arith, m, k) in
    c.truncate.ensures.items
    ∙ shrunk xs c.args.fresh.items c.swap_in-gone.new.items.items c.turn_from.new.items.items c.args.first c.args.end stop (c.args.end - stop) (c.len-2.result - (c.args.end - stop))
    c.requires.order c.requires.within (omega (arith, m)) (omega (arith, c.if-stop-end.true)) refl (omega (arith, n)) (c.swap_in-gone.ensures.items ∙ ap (λ e. splice xs c.args.first e c.args.fresh.items) same) c.turn_from.ensures.items
