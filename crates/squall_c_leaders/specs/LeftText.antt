-- The text of the plan of where a course leaves the keys, by the spans that C names (this project).
use Rattle.std.specs.Prelude.{◌≡◌, ◌<◌, ◌≤◌, ℕ, Bool, nat_le, List, map, Option, None, Ok, if◌then◌else◌}
use Rattle.std.specs.List.{AllByRecursion, list_any}
use Rattle.squall_key.specs.Keys.{top}
use Rattle.squall_span.specs.Spans.{Interval, span_at, span_has}
use Rattle.squall_plan.specs.declared.range.PlanRange.{PlanRange}
use Rattle.squall_plan.specs.Form.{plan_of_text}
use Rattle.squall_plan.specs.PlanText.{text_of_plan}
use Rattle.squall_course.specs.Change.{Change}
use Rattle.squall_leader.specs.Left.{AreLeft}
use Rattle.squall_leader.specs.declared.fault.LeftFault.{LeftFault}
use Rattle.squall_leader.specs.declared.fault.LeftFault.TheVariants.{TooMany as TooManyLeft, NoMemory as NoMemoryLeft}
use Rattle.squall_c_values.specs.declared.spans.CSpan.{CSpan}
use Rattle.squall_c_leaders.specs.declared.fault.LeftTextFault.{LeftTextFault}
use Rattle.squall_c_leaders.specs.declared.fault.LeftTextFault.TheVariants.{TooMany, NoMemory}

-- the keys between two ranks
abbrev pub span_of : CSpan → Interval
span_of s = record { lo = s.lo; hi = s.hi }

-- the same of each span
abbrev pub spans_of : List CSpan → List Interval
spans_of spans = map span_of spans

-- the span has a key, and does not end above all keys
abbrev pub IsSpan : CSpan → Type 0
IsSpan s = (s.lo < s.hi) × (s.hi ≤ top)

-- each span is so
abbrev pub AreSpans : List CSpan → Type 0
AreSpans spans = AllByRecursion IsSpan spans

-- the key lies in one of the spans
abbrev pub lies_in : ℕ → List CSpan → Bool
lies_in k spans = list_any (λ s. span_has (span_of s) k) spans

-- the span of two ranks, if it is one
abbrev pub span_in : CSpan → Option Interval
span_in s = if nat_le s.hi top then span_at s.lo s.hi else None

-- the text is that of the plan which has each key where the course leaves it if those of the spans are loaded, and reads as it
pub record IsLeftText (c : Change) (loaded : List Interval) (text : List ℕ) : Type 0 where
  pub plan : List PlanRange
  pub left : AreLeft c loaded plan
  pub spelled : text ≡ text_of_plan plan
  pub reads : plan_of_text text ≡ Ok plan

-- why there is no such text, if the spans are right
abbrev pub left_text_fault : LeftFault → LeftTextFault
left_text_fault TooManyLeft = TooMany
left_text_fault NoMemoryLeft = NoMemory
