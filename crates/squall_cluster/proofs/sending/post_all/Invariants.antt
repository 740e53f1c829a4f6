use Rattle.std.proofs.Common.{◌≡◌, take}
use Rattle.squall_cluster.specs.Race.{Bring}
use Rattle.squall_cluster.proofs.sending.post_all.Given as goal

abbrev pub invariant-loop-report : goal.invariant-loop-report
invariant-loop-report g l = (l.sender.inbox ≡ l.initial.sender.inbox) × (l.sender.from ≡ l.initial.sender.from) × Bring l.sender.posted (take l.report-index l.list)
