use Rattle.std.proofs.Common.{◌≡◌, ◌+◌, ◌≤◌, vec_len, vec_capacity}
use Rattle.squall_blocks.specs.Blocks.{flat, AreBlocks}
use Rattle.squall_blocks.specs.Drafts.{undone_lasts, undone, kept_in, AreWithin}
use Rattle.squall_blocks.proofs.draft.Draft.undo.Given as goal

abbrev pub invariant-loop-step : goal.invariant-loop-step
invariant-loop-step g l =
    AreBlocks (undone_lasts l.steps.items l.lasts.items) (undone l.steps.items l.blocks.items) × (flat (undone l.steps.items l.blocks.items) ≡ l.fn.self.0)
    × AreWithin l.steps.items l.lasts.items l.blocks.items
    × (vec_len l.lasts + kept_in l.steps.items ≤ vec_capacity l.lasts) × (vec_len l.blocks + kept_in l.steps.items ≤ vec_capacity l.blocks)

abbrev pub decreases-loop-step : goal.decreases-loop-step
decreases-loop-step g l = goal.left-loop-step g l
