use Rattle.std.proofs.Common.{arith}
use Rattle.squall_blocks.proofs.Joining.{no_blocks, some_entries}
use Rattle.squall_blocks.proofs.lent.BlocksRef.is_empty.Goals as goal

pub returns-then-count-eq0 : goal.returns-then-count-eq0
returns-then-count-eq0 g c = no_blocks c.self.inside.blocks.now c.args.self.now c.self.view_is (omega (arith, c.if-count-eq0.true))

pub returns : goal.returns
returns g c = some_entries c.self.inside.blocks.now c.args.self.now c.self.invariant.full c.self.view_is (omega (arith, c.if-count-eq0.false))
