use Rattle.std.proofs.Common.{◌≡◌, take, length}
use Rattle.squall_blocks.specs.Blocks.{flat}
use Rattle.squall_blocks.proofs.blocks.Blocks.len.Given as goal

abbrev pub invariant-loop-block : goal.invariant-loop-block
invariant-loop-block g l = l.len ≡ length (flat (take l.block-index l.block-items))
