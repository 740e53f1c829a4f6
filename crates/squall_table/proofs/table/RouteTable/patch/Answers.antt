use Rattle.std.proofs.Common.{sym, ap, ◌∙◌, arith}
use Rattle.squall_key.specs.Keys.{top}
use Rattle.squall_plan.specs.Ranges.{owner_of}
use Rattle.squall_course.specs.Moves.{moves_of}
use Rattle.squall_board.specs.Boards.{says}
use Rattle.squall_board.specs.MovesRoute.{route_by_moves}
use Rattle.squall_blocks.specs.Entries.{replaced}
use Rattle.squall_table.specs.LegLaws.{are_legs, canonical_of_legs}
use Rattle.squall_table.specs.LegEntries.{legs_from}
use Rattle.squall_table.proofs.Built.{made_ranges}
use Rattle.squall_table.proofs.Renewed.{few_in, none_in, patched_legs, others_keep, renewed_legs}
use Rattle.squall_table.proofs.table.RouteTable.patch.Goals as goal

pub returns-then-is_empty-clause-at_least : goal.returns-then-is_empty-clause-at_least
returns-then-is_empty-clause-at_least c =
    let none = none_in c.args.set.now (moves_of c.args.course.now.old c.args.course.now.new) (c.is_empty.ensures.value.0 c.if-is_empty.true) in
    omega (arith, none)

pub overflow_add-meter : goal.overflow_add-meter
overflow_add-meter c =
    let moves = few_in c.spans.result.now (moves_of c.args.course.now.old c.args.course.now.new) in
    omega (arith, moves, c.know_moves.ensures.few, c.in_ok-made.ensures.moves, c.requires.room, c.meter.view_is)

pub invariant_of-self-2 : goal.invariant_of-self-2
invariant_of-self-2 c =
    let l = patched_legs c.args.course.now c.args.board.now c.args.set.now c.args.self.now (legs_from 0 c.replace.new.self) (moves_of c.args.course.now.old c.args.course.now.new) c.know_moves.ensures.meaning c.requires.was
    (renewed_legs c.args.course.now (says c.args.board.now) c.args.set.now c.spans.result.now c.args.self.now c.lent-table.result c.replace.new.self (replaced c.in_ok-made.made.lo c.in_ok-made.made.hi c.in_ok-made.made.fresh c.lent-table.result) (c.spans.ensures.value ∙ c.in_ok-list.ensures) (ap (legs_from 0) c.lent-table.ensures ∙ c.self.view_is)
    (c.in_ok-replace.ensures.ok ∙ ap (replaced c.in_ok-made.made.lo c.in_ok-made.made.hi c.in_ok-made.made.fresh) (sym c.lent-table.ensures)) c.in_ok-made.ensures.legs) in
    (canonical_of_legs _ _ l, made_ranges c.args.course.now (says c.args.board.now) _ c.know_moves.ensures.plans l)

pub returns-clause-table : goal.returns-clause-table
returns-clause-table c = are_legs _ 0 top _ (patched_legs c.args.course.now c.args.board.now c.args.set.now c.args.self.now (legs_from 0 c.replace.new.self) (moves_of c.args.course.now.old c.args.course.now.new) c.know_moves.ensures.meaning c.requires.was
    (renewed_legs c.args.course.now (says c.args.board.now) c.args.set.now c.spans.result.now c.args.self.now c.lent-table.result c.replace.new.self (replaced c.in_ok-made.made.lo c.in_ok-made.made.hi c.in_ok-made.made.fresh c.lent-table.result) (c.spans.ensures.value ∙ c.in_ok-list.ensures) (ap (legs_from 0) c.lent-table.ensures ∙ c.self.view_is)
    (c.in_ok-replace.ensures.ok ∙ ap (replaced c.in_ok-made.made.lo c.in_ok-made.made.hi c.in_ok-made.made.fresh) (sym c.lent-table.ensures)) c.in_ok-made.ensures.legs))

pub returns-clause-others : goal.returns-clause-others
returns-clause-others c k lt out = others_keep (route_by_moves c.args.course.now.number c.args.course.now.old (moves_of c.args.course.now.old c.args.course.now.new) (says c.args.board.now)) (owner_of c.args.self.now) c.args.set.now (legs_from 0 c.replace.new.self) k
    (renewed_legs c.args.course.now (says c.args.board.now) c.args.set.now c.spans.result.now c.args.self.now c.lent-table.result c.replace.new.self (replaced c.in_ok-made.made.lo c.in_ok-made.made.hi c.in_ok-made.made.fresh c.lent-table.result) (c.spans.ensures.value ∙ c.in_ok-list.ensures) (ap (legs_from 0) c.lent-table.ensures ∙ c.self.view_is)
    (c.in_ok-replace.ensures.ok ∙ ap (replaced c.in_ok-made.made.lo c.in_ok-made.made.hi c.in_ok-made.made.fresh) (sym c.lent-table.ensures)) c.in_ok-made.ensures.legs) lt out
