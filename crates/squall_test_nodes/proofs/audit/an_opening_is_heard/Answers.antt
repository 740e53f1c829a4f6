use Rattle.std.proofs.Common.{◌≡◌, ◌≢◌, ℕ, ◌+◌, List, [], refl, sym, inl, arith, true≢false}
use Rattle.squall_plan.specs.declared.range.PlanRange.{PlanRange}
use Rattle.squall_course.specs.Subplans.{subplan_count}
use Rattle.squall_report.specs.declared.report.ReportKind.TheVariants.{Opened as OpenedReport}
use Rattle.squall_report.specs.Queries.{opened_queries}
use Rattle.squall_protocol.specs.declared.event.Node.TheVariants.{Leader, Router}
use Rattle.squall_protocol.specs.declared.event.Event.TheVariants.{OpenNext}
use Rattle.squall_protocol.specs.declared.answer.Answer.TheVariants.{Opened}
use Rattle.squall_protocol.specs.Worlds.{WorldValue, start}
use Rattle.squall_protocol.specs.Steps.{after_open, OpenStep}
use Rattle.squall_protocol.specs.WorldLaws.{same_as_itself, reached_start}
use Rattle.squall_protocol.specs.Promises.{IsReached}
use Rattle.squall_audit.specs.Lines.{Happens}
use Rattle.squall_audit.specs.Logs.{CanBeHeard, after_heard, HasLogs}
use Rattle.squall_test_nodes.specs.Audits.{opening, hearsay, no_lines, leader_log}
use Rattle.squall_test_nodes.proofs.audit.an_opening_is_heard.Goals as goal

-- the leader waits for nobody, and may open the first sub-plan
opens : (old new : List PlanRange) → subplan_count old new ≢ 0 → OpenStep (start old new 1) (Opened 0) (after_open (start old new 1))
opens old new some = (refl, (λ s q h. absurd (none s h.last)), (λ e. some (sym e)), same_as_itself (after_open (start old new 1)))
  where
    none : (s : ℕ) → s + 1 ≡ 0 → ⊥
    none s e = omega (arith, e)

known : (old new : List PlanRange) → CanBeHeard (after_open (start old new 1)) (opened_queries 1 0)
known old new =
    record {
      loaded = λ c k h. absurd (true≢false (sym h));
      done = λ c h. absurd (true≢false (sym h));
      opened = λ n h. (Leader, refl, omega arith);
      issued = λ n. inl refl;
    }

pub returns : goal.returns
returns c old new old_plan new_plan some =
    let s : WorldValue = start old new 1 in
    let v : WorldValue = after_open s in
    let u : WorldValue = after_heard v (Router 0) (opened_queries 1 0) in
    let reached : IsReached s = reached_start old new 1 s old_plan new_plan (same_as_itself s) in
    let none : HasLogs s no_lines s = record { run = []; trace = refl; written = λ m. refl } in
    let first : Happens s Leader opening v = record { event = OpenNext; answer = Opened 0; step = opens old new some; there = λ no. no; here = refl; line = refl } in
    let one : HasLogs s leader_log v = c.what_comes_happens.ensures.line s s v no_lines Leader opening reached none (refl, first) tt in
    (u, c.what_comes_happens.ensures.line s v u leader_log (Router 0) hearsay reached one (refl, known old new, same_as_itself u) (OpenedReport 1 0, refl))
