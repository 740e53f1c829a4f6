use Rattle.std.proofs.Common.{◌≡◌, ◌++◌, ℕ, List, drop}
use Rattle.std.specs.Prelude.{map}
use Rattle.std.specs.List.{concat}
use Rattle.squall_wire.specs.Messages.{body_of}
use Rattle.squall_cli_watch.specs.Taken.{ShowsNewest, plays}
use Rattle.squall_cli_watch.specs.Drawing.{makes}
use Rattle.squall_cli_watch.proofs.Begun.{Begun, Joining}
use Rattle.squall_cli_watch.proofs.watcher.Watcher.take_messages.Given as goal

-- texts are added, which are the first answers to all messages if what answers those that are left comes after them
abbrev pub invariant-loop-message : goal.invariant-loop-message
invariant-loop-message l = record {
  answered : (texts : List (List ℕ)) × (l.out.items ≡ l.fn.out.items ++ concat texts)
      × Begun (plays l.fn.self) (plays l.self) texts (map body_of (drop l.message-index l.messages)) (map body_of l.messages);
  joined : Joining (makes l.fn.self) (makes l.self) (map body_of (drop l.message-index l.messages)) (map body_of l.messages);
  first : l.self.first ≡ l.fn.self.first;
  current : ShowsNewest l.self;
}
