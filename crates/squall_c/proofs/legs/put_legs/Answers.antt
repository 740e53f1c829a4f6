use Rattle.std.specs.Prelude.{◌≡◌, ◌≤◌, List, length}
use Rattle.std.proofs.Common.{ap, ◌∙◌, ℕ, arith}
use Rattle.squall_key.specs.Keys.{top}
use Rattle.squall_c_values.specs.declared.legs.CLeg.{CLeg}
use Rattle.squall_c_values.specs.Rooms.{over}
use Rattle.squall_c.proofs.CutLegs.{put_some}
use Rattle.squall_c.proofs.legs.put_legs.Goals as goal

pub returns-clause-legs : goal.returns-clause-legs
returns-clause-legs c =
    let from : c.in-Some-of_rank.from ≡ c.args.lo = grind (arith, c.in-Some-of_rank.ensures) in
    let high : c.args.hi ≤ top = grind (arith, c.in-Some.ensures) in
    c.cut_into.ensures.legs ∙ ap (λ (xs : List CLeg). over xs c.args.room.now)
    (put_some c.args.lo c.args.hi c.in-Some-of_rank.from c.args.table.now c.entries_from.result c.args.room.now c.if-lo-hi.false high from c.entries_from.ensures.legs c.entries_from.ensures.canonical)

pub returns-clause-count : goal.returns-clause-count
returns-clause-count c =
    let from : c.in-Some-of_rank.from ≡ c.args.lo = grind (arith, c.in-Some-of_rank.ensures) in
    let high : c.args.hi ≤ top = grind (arith, c.in-Some.ensures) in
    c.cut_into.ensures.count ∙ ap (λ (xs : List CLeg). length xs)
    (put_some c.args.lo c.args.hi c.in-Some-of_rank.from c.args.table.now c.entries_from.result c.args.room.now c.if-lo-hi.false high from c.entries_from.ensures.legs c.entries_from.ensures.canonical)
