use Rattle.std.proofs.Common.{◌≡◌, take}
use Rattle.squall_blocks.specs.Blocks.{flat}
use Rattle.squall_blocks.proofs.blocks.Blocks.copied.Given as goal

abbrev pub invariant-loop-block : goal.invariant-loop-block
invariant-loop-block g l = l.all ≡ flat (take l.block-index l.block-items)
