use Rattle.std.proofs.Common.{sym, ap, ◌∙◌, arith}
use Rattle.squall_plan.specs.Ranges.{owner_of}
use Rattle.squall_table.proofs.Walked.{found_owner, some_owner}
use Rattle.squall_table.proofs.table.RouteTable.owner.Goals as goal

pub unreachable-requires : goal.unreachable-requires
unreachable-requires c = some_owner c.self.inside.legs c.of_key.result c.self.invariant.0 (omega (arith, c.of_key.ensures)) (sym c.in_default.is ∙ c.above.ensures)

pub returns : goal.returns
returns c =
    found_owner c.self.inside.legs c.of_key.result c.args.key c.in-Some.entry c.self.invariant.0 c.of_key.ensures (omega arith) (sym c.in-Some.is ∙ c.above.ensures) ∙ ap (λ ls. owner_of ls c.args.key) c.self.view_is
