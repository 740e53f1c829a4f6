-- Small logs: of a leader that opened a sub-plan, and of a router that heard of it (this project).
use Rattle.std.specs.Prelude.{◌≢◌, List, [], ◌∷◌}
use Rattle.squall_plan.specs.declared.range.PlanRange.{PlanRange}
use Rattle.squall_course.specs.Subplans.{subplan_count}
use Rattle.squall_report.specs.Queries.{opened_queries}
use Rattle.squall_protocol.specs.declared.event.Node.{Node}
use Rattle.squall_protocol.specs.declared.event.Node.TheVariants.{Leader, Router}
use Rattle.squall_protocol.specs.declared.event.Event.TheVariants.{OpenNext}
use Rattle.squall_protocol.specs.declared.answer.Answer.TheVariants.{Opened}
use Rattle.squall_protocol.specs.Worlds.{WorldValue, start}
use Rattle.squall_protocol.specs.Steps.{IsPlan}
use Rattle.squall_audit.specs.Lines.{Line, Own, Hearing}
use Rattle.squall_audit.specs.Logs.{with_lines, HasLogs, NoRunHasMore}

-- the leader opened the first sub-plan of the first course, and a router heard of it
abbrev pub opening : Line
opening = Own OpenNext (Opened 0)

abbrev pub hearsay : Line
hearsay = Hearing (opened_queries 1 0)

-- logs without lines, the leader's with its line, and the router's with its own
abbrev pub no_lines : Node → List Line
no_lines m = []

abbrev pub leader_log : Node → List Line
leader_log = with_lines no_lines Leader (opening ∷ [])

abbrev pub both_logs : Node → List Line
both_logs = with_lines leader_log (Router 0) (hearsay ∷ [])

abbrev pub router_log : Node → List Line
router_log = with_lines no_lines (Router 0) (hearsay ∷ [])

-- if keys move, a run has both logs
abbrev pub OpeningIsHeard : Type 0
OpeningIsHeard = (old new : List PlanRange) → IsPlan old → IsPlan new → subplan_count old new ≢ 0 → (u : WorldValue) × HasLogs (start old new 1) both_logs u

-- no run has the router's log alone
abbrev pub HearsayIsRefused : Type 0
HearsayIsRefused = (old new : List PlanRange) → IsPlan old → IsPlan new → NoRunHasMore (start old new 1) router_log no_lines
