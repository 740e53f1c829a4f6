-- A partition that is to report that it has all keys of a sub-plan has an answer.
use Rattle.std.proofs.Common.{◌≡◌, ℕ, ◌<◌, not, true, refl, inl, inr}
use Rattle.std.proofs.lemmas.Bool.{cases_Bool, cases_lt, and_parts}
use Rattle.squall_key.specs.Keys.{top}
use Rattle.squall_course.specs.Change.{Change}
use Rattle.squall_report.specs.declared.report.ReportKind.TheVariants.{Done as DoneReport}
use Rattle.squall_report.specs.Cells.{place_at}
use Rattle.squall_report.specs.Queries.{done_queries}
use Rattle.squall_protocol.specs.declared.event.Node.TheVariants.{Part}
use Rattle.squall_protocol.specs.declared.event.Event.TheVariants.{Finish}
use Rattle.squall_protocol.specs.declared.answer.Answer.TheVariants.{Finished, Refused}
use Rattle.squall_protocol.specs.declared.answer.Refusal.TheVariants.{NoSuch, NotOpen, NotAll, NothingDue}
use Rattle.squall_protocol.specs.Worlds.{WorldValue, is_part}
use Rattle.squall_protocol.specs.Knowledge.{part_in, comes_in, is_missing}
use Rattle.squall_protocol.specs.Steps.{IsPlan, after_told, IsOpenAt}
use Rattle.squall_protocol.specs.Acts.{HasAnswer}
use Rattle.squall_protocol.proofs.Kept.{Kept}
use Rattle.squall_protocol.specs.WorldLaws.{same_as_itself}
use Rattle.squall_protocol.proofs.Search.{LeastTrue, least_true, some_run}
use Rattle.squall_protocol.proofs.SomeCourse.{some_course, course_plans}
use Rattle.squall_protocol.proofs.SomeLead.{incoming_key}

-- a missing key comes in
missing_key : (w : WorldValue) (p s : ℕ) (c : Change) → IsPlan c.old → IsPlan c.new → (k : ℕ) → is_missing (part_in w p) c s k ≡ true → k < top
missing_key w p s c a b k is = incoming_key c.old c.new s p k a b (and_parts (comes_in (part_in w p) c s k) (not (w.loaded c.number p k)) is).0

-- a sub-plan in which keys come in
finish_due : (w : WorldValue) (p s : ℕ) (c : Change) → IsPlan c.old → IsPlan c.new → is_part w p ≡ true → IsOpenAt w p s c → LeastTrue (comes_in (part_in w p) c s) → HasAnswer w (Finish p s)
finish_due w p s c a b there at due = elim (least_true (is_missing (part_in w p) c s) top (missing_key w p s c a b)) [
  | inl f ↦
      let run = some_run (is_missing (part_in w p) c s) top (missing_key w p s c a b) f in
      (Refused (NotAll run.0), w, (there, (c, at, run.1), same_as_itself w))
  | inr none ↦
      let v = after_told w (Part p) (done_queries (place_at c.number s p)) in
      (Finished (DoneReport c.number s p), v, (there, (c, at, none, (due.0, due.1), refl, same_as_itself v)))
]

-- a partition is to finish a sub-plan
pub some_finish : (w : WorldValue) → Kept w → (p s : ℕ) → HasAnswer w (Finish p s)
some_finish w kept p s = elim (cases_Bool (is_part w p)) [
  | inr none ↦ (Refused NoSuch, w, (none, same_as_itself w))
  | inl there ↦
      let n = some_course w (w.facts (Part p)) kept.first (kept.facts (Part p)) in
      let plans = course_plans w kept (w.facts (Part p)) n.course n.known in
      elim (cases_lt s ((w.facts (Part p)).opened n.course.number)) [
        | inr early ↦ (Refused NotOpen, w, (there, (n.course, n.by, early), same_as_itself w))
        | inl opened ↦ elim (least_true (comes_in (part_in w p) n.course s) top (λ k is. incoming_key n.course.old n.course.new s p k plans.0 plans.1 is)) [
          | inr none ↦ (Refused NothingDue, w, (there, (n.course, (n.by, opened), none), same_as_itself w))
          | inl due ↦ finish_due w p s n.course plans.0 plans.1 there (n.by, opened) due
        ]
      ]
]
