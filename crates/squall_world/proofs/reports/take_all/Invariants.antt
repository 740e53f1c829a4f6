use Rattle.std.proofs.Common.{◌≡◌, drop}
use Rattle.squall_world.specs.Nets.{reports_to}
use Rattle.squall_world.proofs.reports.take_all.Given as goal

-- what is taken so far and the reports to come make all
abbrev pub invariant-loop-report : goal.invariant-loop-report
invariant-loop-report l = reports_to l.board (drop l.report-index l.reports) ≡ reports_to l.initial.board l.reports
