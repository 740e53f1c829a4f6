use Rattle.std.specs.Prelude.{map}
use Rattle.std.proofs.Common.{◌≡◌, drop}
use Rattle.squall_board.specs.Boards.{BoardValue}
use Rattle.squall_headline.specs.Ways.{ByTake, LeadOn}
use Rattle.squall_test_acceptance.proofs.tests.routes.take_each.Given as goal

-- what the reports that are left lead to is what all of them lead to
abbrev pub invariant-loop-report : goal.invariant-loop-report
invariant-loop-report l = (l.router.first ≡ l.fn.router.first) × ((after : BoardValue) → LeadOn (map ByTake (drop l.report-index l.reports)) l.router.board after → LeadOn (map ByTake l.reports) l.fn.router.board after)
