use Rattle.std.proofs.Common.{take}
use Rattle.squall_protocol.specs.Promises.{IsReached}
use Rattle.squall_world.specs.Runs.{IsRun}
use Rattle.squall_world.specs.Views.{view}
use Rattle.squall_world.proofs.world.World.run.Given as goal

abbrev pub invariant-loop-event : goal.invariant-loop-event
invariant-loop-event l = record { run : IsRun (view l.fn.self) (take l.event-index l.fn.events) l.fn.answers.items (view l.self) l.answers.items; reached : IsReached (view l.self) }
