use Rattle.std.proofs.Common.{ap, ◌+◌, ◌*◌, ◌∙◌, length}
use Rattle.squall_delta.specs.PieceStepLaws.{plan_length}
use Rattle.squall_delta.proofs.cut.sizes.plan_bytes.Goals as goal

pub returns-clause-bytes : goal.returns-clause-bytes
returns-clause-bytes c = ap (λ l. 4 + 12 * length l) c.ranges-2.ensures.value ∙ plan_length c.args.plan.now
