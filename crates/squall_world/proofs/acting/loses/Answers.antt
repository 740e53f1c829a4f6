use Rattle.std.proofs.Common.{rules}
use Rattle.squall_world.proofs.Losing.{loses_is}
use Rattle.squall_world.proofs.acting.loses.Goals as goal

pub returns : goal.returns
returns c = rw c.any_takes.ensures (loses_is c.args.course.now c.args.range.now c.moves.result.now c.moves.ensures.meaning (search rules))
