use Rattle.std.proofs.Common.{refl}
use Rattle.squall_blocks.proofs.Blocked.{rises_by}
use Rattle.squall_blocks.proofs.lent.BlocksRef.block_end.Goals as goal

pub ended-at-requires : goal.ended-at-requires
ended-at-requires g c = rises_by c.self.inside.lasts.now c.self.inside.lasts.now c.self.inside.blocks.now c.self.invariant refl
