use Rattle.std.proofs.Common.{◌+◌, ◌-◌, ◌≤◌, vec_len, vec_capacity}
use Rattle.squall_blocks.proofs.Undoing.{TakenOut}
use Rattle.squall_blocks.proofs.steps.take_out.Given as goal

abbrev pub invariant-loop-at : goal.invariant-loop-at
invariant-loop-at g l =
    TakenOut l.fn.blocks.items l.blocks.items l.gone.items l.fn.first l.at × (vec_len l.gone + (l.end - l.at) ≤ vec_capacity l.gone)
    × (vec_capacity l.fn.blocks ≤ vec_capacity l.blocks)
