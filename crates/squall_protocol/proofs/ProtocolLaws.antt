-- Laws of the protocol: what other crates may cite of these proofs. Files beside this one prove them.
use Rattle.std.proofs.Common.{◌≡◌, ◌≢◌, ℕ, ◌<◌, ◌≤◌, ◌==◌, ◌||◌, true, List, ◌++◌}
use Rattle.std.specs.Prelude.{Some}
use Rattle.std.specs.List.{slice_get, list_any}
use Rattle.squall_key.specs.Keys.{top}
use Rattle.squall_span.specs.Spans.{span_has}
use Rattle.squall_plan.specs.declared.range.PlanRange.{PlanRange}
use Rattle.squall_plan.specs.Ranges.{owner_of, names}
use Rattle.squall_course.specs.Subplans.{moves}
use Rattle.squall_protocol.specs.declared.event.Event.{Event}
use Rattle.squall_protocol.specs.declared.answer.Answer.{Answer}
use Rattle.squall_protocol.specs.Chunks.{ChunkValue}
use Rattle.squall_protocol.specs.Worlds.{WorldValue, SameWorld, is_part, first_parts, last_course}
use Rattle.squall_protocol.specs.Steps.{IsPlan, IsOver, LeavesAt, IsWhereLeft, HoldsOwn, Step, new_parts}
use Rattle.squall_protocol.specs.Promises.{IsReached, OneCarrier, TrueReports}
use Rattle.squall_protocol.proofs.Carriers
use Rattle.squall_protocol.proofs.Courses
use Rattle.squall_protocol.proofs.Left
use Rattle.squall_protocol.proofs.OneStep
use Rattle.squall_protocol.proofs.Parts
use Rattle.squall_protocol.proofs.Reached
use Rattle.squall_protocol.proofs.Runs.{later_step}
use Rattle.squall_protocol.proofs.Start.{kept_always}

-- ---- each world that is reached

-- a course was begun
pub course_begun : (w : WorldValue) → IsReached w → 1 ≤ w.last
course_begun w reached = (kept_always w reached).first

-- each key has exactly one carrier: a partition that holds it, or a chunk on its way
pub one_carrier : (w : WorldValue) → IsReached w → OneCarrier w
one_carrier w reached = Carriers.one_carrier w (kept_always w reached)

-- all that a node was told did happen
pub true_reports : (w : WorldValue) → IsReached w → TrueReports w
true_reports w reached = Carriers.true_reports w (kept_always w reached)

-- a partition that holds a key is there
pub holder_there : (w : WorldValue) → IsReached w → (p k : ℕ) → k < top → w.held p k ≡ true → is_part w p ≡ true
holder_there w reached = Reached.holder_there w (kept_always w reached)

-- a key that is loaded in a course is in a chunk of it
pub loaded_chunk : (w : WorldValue) → IsReached w → (n p k : ℕ) → w.loaded n p k ≡ true → (i : ℕ) × (x : ChunkValue) × (slice_get w.chunks i ≡ Some x) × (x.number ≡ n) × (span_has x.span k ≡ true)
loaded_chunk w reached = Reached.loaded_chunk w (kept_always w reached)

-- in a course a key is in one chunk at most
pub one_chunk : (w : WorldValue) → IsReached w → (i j k : ℕ) (x y : ChunkValue) → slice_get w.chunks i ≡ Some x → slice_get w.chunks j ≡ Some y → x.number ≡ y.number → span_has x.span k ≡ true → span_has y.span k ≡ true → i ≡ j
one_chunk w reached = Reached.one_chunk w (kept_always w reached)

-- a key that is loaded stays loaded
pub loaded_stays : (w v : WorldValue) (e : Event) (r : Answer) → IsReached w → Step w e r v → (n p k : ℕ) → w.loaded n p k ≡ true → v.loaded n p k ≡ true
loaded_stays w v e r reached step = (later_step w v e r (kept_always w reached) step).loaded

-- ---- where a course leaves keys, in a world that is reached

-- the partition at which the course begun last leaves a key holds it
pub left_held : (w : WorldValue) → IsReached w → (k p : ℕ) → k < top → LeavesAt w w.last k p → w.held p k ≡ true
left_held w reached = Reached.left_held w (kept_always w reached)

-- a plan by which each partition holds its own, and gives no more of it, has each key where the course begun last leaves it
pub own_left : (w : WorldValue) → IsReached w → (plan : List PlanRange) → ((p : ℕ) → HoldsOwn w plan p) → IsWhereLeft w plan
own_left w reached = Left.each_holds w (kept_always w reached)

-- once the course begun last is over, its new plan has each key where it leaves it
pub over_left : (w : WorldValue) → IsReached w → IsOver w → IsWhereLeft w (last_course w).new
over_left w reached = Reached.over_leaves w (kept_always w reached)

-- ---- answers

-- to an event there is one answer at most in any world, and one world after it
pub one_step : (w v u : WorldValue) (e : Event) (a b : Answer) → Step w e a v → Step w e b u → (a ≡ b) × SameWorld v u
one_step = OneStep.one_step

-- ---- partitions

-- a partition that is there stays there
pub part_stays : (w : WorldValue) (more : List ℕ) (p : ℕ) → is_part w p ≡ true → list_any (λ q. q == p) (w.parts ++ more) ≡ true
part_stays = Parts.part_stays

-- a partition that the plan of the next course names is there once that is begun
pub part_comes : (w : WorldValue) (plan : List PlanRange) (p : ℕ) → IsPlan plan → names plan p ≡ true → list_any (λ q. q == p) (w.parts ++ new_parts w plan) ≡ true
part_comes = Parts.part_comes

-- a partition that one of both first plans names is there at first
pub part_first : (old new : List PlanRange) (p : ℕ) → IsPlan old → IsPlan new → (names old p || names new p) ≡ true → list_any (λ q. q == p) (first_parts old new) ≡ true
part_first = Parts.part_first

-- ---- plans

-- a plan names the owner of each key
pub names_owner : (plan : List PlanRange) (k : ℕ) → IsPlan plan → k < top → names plan (owner_of plan k) ≡ true
names_owner = Courses.named_owner

-- a key whose owners by two plans differ moves, and only such a key
pub moves_apart : (old new : List PlanRange) (k : ℕ) → owner_of old k ≢ owner_of new k → moves old new k ≡ true
moves_apart = Courses.moves_is

pub apart_moves : (old new : List PlanRange) (k : ℕ) → moves old new k ≡ true → owner_of old k ≢ owner_of new k
apart_moves = Courses.is_moves
