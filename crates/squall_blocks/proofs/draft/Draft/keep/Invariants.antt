use Rattle.std.proofs.Common.{◌≡◌}
use Rattle.squall_blocks.specs.Blocks.{flat, AreBlocks}
use Rattle.squall_blocks.proofs.draft.Draft.keep.Given as goal

abbrev pub invariant-loop-step : goal.invariant-loop-step
invariant-loop-step g l = AreBlocks l.lasts.items l.blocks.items × (flat l.blocks.items ≡ l.fn.self.1)

abbrev pub decreases-loop-step : goal.decreases-loop-step
decreases-loop-step g l = goal.left-loop-step g l
