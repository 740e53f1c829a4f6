use Rattle.std.proofs.Common.{◌≡◌, false, take}
use Rattle.std.specs.List.{list_any}
use Rattle.squall_leader.specs.Waiting.{awaits}
use Rattle.squall_leader.proofs.waiting.waited_for.Given as goal

abbrev pub invariant-loop-one : goal.invariant-loop-one
invariant-loop-one l = list_any (λ m. awaits l.board l.number l.sub m.dest) (take l.one-index l.one-items) ≡ false
