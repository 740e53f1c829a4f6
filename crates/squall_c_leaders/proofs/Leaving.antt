-- The plan of where a course leaves the keys, by the spans that C names.
use Rattle.std.proofs.Common.{◌≡◌, ℕ, ◌<◌, Bool, List, [], ◌∷◌, length, Result, Err, refl, sym, ap, subst, ◌∙◌}
use Rattle.std.specs.Prelude.{◌||◌, if◌then◌else◌}
use Rattle.std.specs.Result.{IsErrAnd}
use Rattle.squall_span.specs.Spans.{Interval, has, span_has}
use Rattle.squall_plan.specs.declared.range.PlanRange.{PlanRange}
use Rattle.squall_plan.specs.Ranges.{owner_of}
use Rattle.squall_plan.specs.Arranged.{range_limit}
use Rattle.squall_course.specs.Change.{Change}
use Rattle.squall_leader.specs.Left.{AreLeft}
use Rattle.squall_leader.specs.declared.fault.LeftFault.{LeftFault}
use Rattle.squall_leader.specs.declared.fault.LeftFault.TheVariants.{TooMany as TooManyLeft, NoMemory as NoMemoryLeft}
use Rattle.squall_c_values.specs.declared.spans.CSpan.{CSpan}
use Rattle.squall_c_leaders.specs.declared.fault.LeftTextFault.{LeftTextFault}
use Rattle.squall_c_leaders.specs.declared.fault.LeftTextFault.TheVariants.{TooMany}
use Rattle.squall_c_leaders.specs.LeftText.{span_of, spans_of, lies_in, left_text_fault}

lies_has : (spans : List CSpan) (k : ℕ) → lies_in k spans ≡ has (spans_of spans) k
lies_has [] k = refl
lies_has (s ∷ ss) k = ap (λ b. span_has (span_of s) k || b) (lies_has ss k)

left_of : (c : Change) (a b : List Interval) (plan : List PlanRange) → ((k : ℕ) → has a k ≡ has b k) → AreLeft c a plan → AreLeft c b plan
left_of c a b plan same left = record {
  canonical = left.canonical;
  ranges = left.ranges;
  owners = λ k below. left.owners k below ∙ ap (λ (h : Bool). if h then owner_of c.new k else owner_of c.old k) (same k);
}

-- a set of the keys of the spans leaves each key where the spans do
pub left_by_spans : (c : Change) (set : List Interval) (spans : List CSpan) (plan : List PlanRange) → ((k : ℕ) → has set k ≡ lies_in k spans) → AreLeft c set plan → AreLeft c (spans_of spans) plan
left_by_spans c set spans plan keys = left_of c set (spans_of spans) plan (λ k. keys k ∙ lies_has spans k)

-- and if so many ranges are too many for the set, they are for the spans
pub many_by_spans : (c : Change) (set : List Interval) (spans : List CSpan) (plan : List PlanRange) → ((k : ℕ) → has set k ≡ lies_in k spans) → ((p : List PlanRange) → AreLeft c set p → range_limit < length p) → AreLeft c (spans_of spans) plan → range_limit < length plan
many_by_spans c set spans plan keys many left = many plan (left_of c (spans_of spans) set plan (λ k. sym (keys k ∙ lies_has spans k)) left)

too_many : (fault : LeftFault) → TooMany ≡ left_text_fault fault → fault ≡ TooManyLeft
too_many TooManyLeft same = refl
too_many NoMemoryLeft same = absurd cc

-- a fault that is passed on as too many ranges was that
pub passed_on : {X : Type 0} (answer : Result X LeftTextFault) (fault : LeftFault) → IsErrAnd answer (λ e. e ≡ left_text_fault fault) → answer ≡ Err TooMany → fault ≡ TooManyLeft
passed_on answer fault is same = too_many fault (subst (λ a. IsErrAnd a (λ e. e ≡ left_text_fault fault)) same is)
