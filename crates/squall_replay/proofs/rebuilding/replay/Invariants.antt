use Rattle.std.proofs.Common.{take}
use Rattle.squall_replay.specs.Calls.{Leads}
use Rattle.squall_replay.proofs.rebuilding.replay.Given as goal

abbrev pub invariant-loop-call : goal.invariant-loop-call
invariant-loop-call l = Leads l.fn.part (take l.call-index l.calls) l.part
