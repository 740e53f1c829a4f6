use Rattle.std.proofs.Common.{◌≡◌, ◌++◌, drop}
use Rattle.std.specs.List.{AllByRecursion}
use Rattle.squall_wire.specs.Messages.{IsMessage, spell_all}
use Rattle.squall_test_nodes.proofs.router.ways.frames.Given as goal

-- the frames so far, and those to come, are all
abbrev pub invariant-loop-message : goal.invariant-loop-message
invariant-loop-message l = (l.bytes.items ++ spell_all (drop l.message-index l.messages) ≡ spell_all l.messages) × (AllByRecursion IsMessage (drop l.message-index l.messages) → AllByRecursion IsMessage l.messages)
