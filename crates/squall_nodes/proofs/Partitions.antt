-- Gifts and loads of one partition, as tests.
use Rattle.std.proofs.Common.{◌≡◌, ℕ, ◌-◌, ◌<◌, ◌≤◌, ◌==◌, Bool, true, false, cond, not, List, [], ◌∷◌, map, Option, Some, is_some, refl, sym, ap, subst, ◌∙◌, arith, inl, inr}
use Rattle.std.specs.Prelude.{◌⊎◌, ◌||◌, ◌&&◌}
use Rattle.std.specs.List.{AllByRecursion}
use Rattle.std.proofs.lemmas.Bool.{cases_lt, and_parts}
use Rattle.std.proofs.Math.Bool.{or_comm}
use Rattle.std.proofs.lemmas.Bool.Decides.{nat_tests}
use Rattle.std.proofs.lemmas.Option.{same_Some, none-some}
use Rattle.squall_key.specs.Keys.{top, part_limit}
use Rattle.squall_span.specs.Spans.{Interval, has, span_has, IsSet, insert_span, minus}
use Rattle.squall_span.specs.SpanLaws.{has-minus, has-insert, has-union, canonical-minus, inside}
use Rattle.squall_plan.specs.declared.range.PlanRange.{PlanRange}
use Rattle.squall_plan.specs.Ranges.{owner_of, AreRanges}
use Rattle.squall_plan.specs.PlanLaws.{owner_later}
use Rattle.squall_join.specs.Pairs.{pair_of}
use Rattle.squall_join.specs.declared.flat.Flat.TheVariants.{Unknown}
use Rattle.squall_course.specs.Change.{Change, ArePlans}
use Rattle.squall_course.specs.Subplans.{moves, sub_of, dest_of}
use Rattle.squall_course.proofs.Counted.{key_goes}
use Rattle.squall_course.proofs.Moved.{within as within_span}
use Rattle.squall_report.specs.Cells.{place_at}
use Rattle.squall_board.specs.BoardLaws.{cell_board_is}
use Rattle.squall_part.proofs.Opened.{opened_few}
use Rattle.squall_board.specs.Boards.{IsBoard, issued, report_board}
use Rattle.squall_protocol.specs.Chunks.{ChunkValue, load_report}
use Rattle.squall_protocol.specs.Carried.{Carried}
use Rattle.squall_part.specs.Parts.{PartValue, Log, log_of, IsPart, IsLog, known_to, course_of_part, opened_at, closed_in, given_in, loaded_in, closed_by, given_by, loaded_by, set_given, set_loaded, set_closed, with_closed}
use Rattle.squall_part.specs.Giving.{IsChunkOf, after_giving, after_close, goes_out}
use Rattle.squall_part.specs.Loading.{after_load, done_report}
use Rattle.squall_protocol.specs.Known.{course_under}
use Rattle.squall_replay.proofs.Edits.{given_with, loaded_with, given_beside, loaded_beside}
use Rattle.squall_part.proofs.Known.{course_known}
use Rattle.squall_part.proofs.Served.{known_log}
use Rattle.squall_part.proofs.Changed.{given_set, loaded_set}
use Rattle.squall_nodes.proofs.Numbers.{eq_same}

true_false : true ≡ false → ⊥
true_false e = cc

-- ---- a gift

or_true : (a : Bool) → (a || true) ≡ true
or_true true = refl
or_true false = refl

or_false : (a : Bool) → (a || false) ≡ a
or_false true = refl
or_false false = refl

pub held_after_giving : (a : PartValue) (s : Interval) (k : ℕ) → has (after_giving a s).held k ≡ (has a.held k && not (span_has s k))
held_after_giving a s k = has-minus a.held (s ∷ []) k ∙ ap (λ b. has a.held k && not b) (or_false (span_has s k))

-- keys put into the log of a number
insert_at : (a : List Interval) (set : ℕ → List Interval) (n m : ℕ) (s : Interval) (k : ℕ) → s.lo < s.hi → IsSet (set n) → a ≡ cond (m == n) (insert_span s (set n)) (set m) → has a k ≡ (has (set m) k || ((m == n) && span_has s k))
insert_at a set n m s k lt is e = ap (λ v. has v k) e ∙ by (m == n) refl
  where
    by : (b : Bool) → (m == n) ≡ b → has (cond b (insert_span s (set n)) (set m)) k ≡ (has (set m) k || (b && span_has s k))
    by true t = has-insert s (set n) k lt is.0 ∙ or_comm (span_has s k) (has (set n) k) ∙ ap (λ v. has (set v) k || span_has s k) (sym (eq_same m n t))
    by false t = sym (or_false (has (set m) k))

pub given_after_giving : (a : PartValue) (s : Interval) (m k : ℕ) → IsPart a → s.lo < s.hi → has (given_by (after_giving a s) m) k ≡ (has (given_by a m) k || ((m == (course_of_part a).number) && span_has s k))
given_after_giving a s m k is lt =
    let n = (course_of_part a).number in
    let l = known_log a n (course_of_part a) is (course_known a is) in
    insert_at (given_by (after_giving a s) m) (given_by a) n m s k lt (given_set a.logs n is.logs) (given_with n m (insert_span s (given_by a n)) a.logs l.0 l.1)

pub loaded_after_giving : (a : PartValue) (s : Interval) (m : ℕ) → loaded_by (after_giving a s) m ≡ loaded_by a m
loaded_after_giving a s m = loaded_beside (course_of_part a).number m (insert_span s (given_by a (course_of_part a).number)) a.logs

-- what is looked up in the log of a number stays, if logs change in something else
kept_in : {A : Type 0} (look : Option Log → A) (f : Log → Log) → ((l : Log) → (f l).course ≡ l.course) → ((l : Log) → look (Some (f l)) ≡ look (Some l)) → (logs : List Log) (m : ℕ) → look (log_of (map f logs) m) ≡ look (log_of logs m)
kept_in look f course same [] m = refl
kept_in look f course same (l ∷ ls) m = ap (λ (c : Change). look (cond (c.number == m) (Some (f l)) (log_of (map f ls) m))) (course l) ∙ by (l.course.number == m) (kept_in look f course same ls m)
  where
    by : (b : Bool) → look (log_of (map f ls) m) ≡ look (log_of ls m) → look (cond b (Some (f l)) (log_of (map f ls) m)) ≡ look (cond b (Some l) (log_of ls m))
    by true rest = same l
    by false rest = rest

-- a change of the log of one number keeps what that change keeps
set_keeps : {A : Type 0} (part : Log → A) (n : ℕ) (f : Log → Log) (l : Log) → part (f l) ≡ part l → part (cond (l.course.number == n) (f l) l) ≡ part l
set_keeps part n f l same = by (l.course.number == n)
  where
    by : (b : Bool) → part (cond b (f l) l) ≡ part l
    by true = same
    by false = refl

pub closed_after_giving : (a : PartValue) (s : Interval) (m : ℕ) → closed_by (after_giving a s) m ≡ closed_by a m
closed_after_giving a s m =
    let n = (course_of_part a).number in
    let keys = insert_span s (given_by a n) in
    kept_in closed_in (set_given n keys) (λ l. set_keeps (λ (d : Log). d.course) n (λ d. record d { given = keys }) l refl) (λ l. set_keeps (λ (d : Log). d.closed) n (λ d. record d { given = keys }) l refl) a.logs m

-- ---- the end of gifts

-- the log of the number is closed, and no other
closed_at : (n m : ℕ) (logs : List Log) → (is_some (log_of logs m) ≡ true) ⊎ ((m == n) ≡ false) → closed_in (log_of (with_closed n logs) m) ≡ (closed_in (log_of logs m) || (m == n))
closed_at n m [] (inl some) = absurd (true_false (sym some))
closed_at n m [] (inr other) = sym other
closed_at n m (l ∷ ls) known =
    ap (λ (c : Change). closed_in (cond (c.number == m) (Some (set_closed n l)) (log_of (with_closed n ls) m))) (set_keeps (λ (d : Log). d.course) n (λ d. record d { closed = true }) l refl) ∙ by (l.course.number == m) refl known (λ k. closed_at n m ls k)
  where
    here : (b : Bool) → (cond b (record l { closed = true }) l).closed ≡ (l.closed || b)
    here true = sym (or_true l.closed)
    here false = sym (or_false l.closed)

    by : (b : Bool) → (l.course.number == m) ≡ b → (is_some (cond b (Some l) (log_of ls m)) ≡ true) ⊎ ((m == n) ≡ false)
        → ((is_some (log_of ls m) ≡ true) ⊎ ((m == n) ≡ false) → closed_in (log_of (with_closed n ls) m) ≡ (closed_in (log_of ls m) || (m == n)))
        → closed_in (cond b (Some (set_closed n l)) (log_of (with_closed n ls) m)) ≡ (closed_in (cond b (Some l) (log_of ls m)) || (m == n))
    by true e known rest = here (l.course.number == n) ∙ ap (λ v. l.closed || (v == n)) (eq_same l.course.number m e)
    by false e known rest = rest known

pub closed_after_close : (a : PartValue) (m : ℕ) → IsPart a → closed_by (after_close a) m ≡ (closed_by a m || (m == (course_of_part a).number))
closed_after_close a m is = closed_at (course_of_part a).number m a.logs (by (m == (course_of_part a).number) refl)
  where
    by : (b : Bool) → (m == (course_of_part a).number) ≡ b → (is_some (log_of a.logs m) ≡ true) ⊎ ((m == (course_of_part a).number) ≡ false)
    by true e =
        let l = known_log a (course_of_part a).number (course_of_part a) is (course_known a is) in
        inl (ap (λ n. is_some (log_of a.logs n)) (eq_same m (course_of_part a).number e) ∙ ap (λ (o : Option Log). is_some o) l.1)
    by false e = inr e

pub given_after_close : (a : PartValue) (m : ℕ) → given_by (after_close a) m ≡ given_by a m
given_after_close a m =
    let n = (course_of_part a).number in
    kept_in given_in (set_closed n) (λ l. set_keeps (λ (d : Log). d.course) n (λ d. record d { closed = true }) l refl) (λ l. set_keeps (λ (d : Log). d.given) n (λ d. record d { closed = true }) l refl) a.logs m

pub loaded_after_close : (a : PartValue) (m : ℕ) → loaded_by (after_close a) m ≡ loaded_by a m
loaded_after_close a m =
    let n = (course_of_part a).number in
    kept_in loaded_in (set_closed n) (λ l. set_keeps (λ (d : Log). d.course) n (λ d. record d { closed = true }) l refl) (λ l. set_keeps (λ (d : Log). d.loaded) n (λ d. record d { closed = true }) l refl) a.logs m

-- ---- a load

pub held_after_load : (a : PartValue) (x : ChunkValue) (k : ℕ) → IsPart a → x.span.lo < x.span.hi → has (after_load a x).held k ≡ (has a.held k || (span_has x.span k && not (has (loaded_by a x.number) k)))
held_after_load a x k is lt =
    let loaded = loaded_by a x.number in
    let set = loaded_set a.logs x.number is.logs in
    has-union a.held (minus (x.span ∷ []) loaded) k is.held.0 (canonical-minus (x.span ∷ []) loaded (lt, tt, tt) set.0)
    ∙ ap (λ b. has a.held k || b) (has-minus (x.span ∷ []) loaded k ∙ ap (λ b. b && not (has loaded k)) (or_false (span_has x.span k)))

pub loaded_after_load : (a : PartValue) (x : ChunkValue) (c : Change) (m k : ℕ) → IsPart a → known_to a x.number ≡ Some c → x.span.lo < x.span.hi → has (loaded_by (after_load a x) m) k ≡ (has (loaded_by a m) k || ((m == x.number) && span_has x.span k))
loaded_after_load a x c m k is known lt =
    let n = x.number in
    let l = known_log a n c is known in
    insert_at (loaded_by (after_load a x) m) (loaded_by a) n m x.span k lt (loaded_set a.logs n is.logs) (loaded_with n m (insert_span x.span (loaded_by a n)) a.logs l.0 l.1)

pub given_after_load : (a : PartValue) (x : ChunkValue) (m : ℕ) → given_by (after_load a x) m ≡ given_by a m
given_after_load a x m = given_beside x.number m (insert_span x.span (loaded_by a x.number)) a.logs

pub closed_after_load : (a : PartValue) (x : ChunkValue) (m : ℕ) → closed_by (after_load a x) m ≡ closed_by a m
closed_after_load a x m =
    let n = x.number in
    let keys = insert_span x.span (loaded_by a n) in
    kept_in closed_in (set_loaded n keys) (λ l. set_keeps (λ (d : Log). d.course) n (λ d. record d { loaded = keys }) l refl) (λ l. set_keeps (λ (d : Log). d.closed) n (λ d. record d { loaded = keys }) l refl) a.logs m

-- ---- courses

found_log : (n : ℕ) (l : Log) (logs : List Log) → AllByRecursion IsLog logs → log_of logs n ≡ Some l → IsLog l
found_log n l [] all e = absurd (none-some l e)
found_log n l (d ∷ ds) all e = by (d.course.number == n) e (λ f. found_log n l ds all.1 f)
  where
    by : (b : Bool) → cond b (Some d) (log_of ds n) ≡ Some l → (log_of ds n ≡ Some l → IsLog l) → IsLog l
    by true e rest = subst IsLog (same_Some d l e) all.0
    by false e rest = rest e

-- a course that a partition knows is of plans
pub known_plans : (a : PartValue) (n : ℕ) (c : Change) → IsPart a → known_to a n ≡ Some c → ArePlans c.old c.new
known_plans a n c is known =
    let l = known_log a n c is known in
    subst (λ v. ArePlans v.old v.new) l.2 (found_log n l.0 a.logs is.logs l.1).plans

pub newest_plans : (a : PartValue) → IsPart a → ArePlans (course_of_part a).old (course_of_part a).new
newest_plans a is = known_plans a (course_of_part a).number (course_of_part a) is (course_known a is)

-- its number is from 1 on where the first course's is
pub known_low : (a : PartValue) (n : ℕ) (c : Change) → IsPart a → a.first.number ≡ 1 → known_to a n ≡ Some c → 1 ≤ n
known_low a n c is one known = by (n == a.first.number) refl known
  where
    not_unknown : (1 ≤ n) ⊎ (issued a.board n ≡ Unknown) → course_under n (issued a.board n) ≡ Some c → 1 ≤ n
    not_unknown (inl le) e = le
    not_unknown (inr u) e = absurd (none-some c (ap (course_under n) (sym u) ∙ e))

    by : (b : Bool) → (n == a.first.number) ≡ b → cond b (Some a.first) (course_under n (issued a.board n)) ≡ Some c → 1 ≤ n
    by true t e = let s : n ≡ a.first.number = eq_same n a.first.number t in omega (arith, s, one)
    by false t e = not_unknown (is.board.issues n) e

-- ---- keys that move

-- the keys of no range have no owner
owner_high : (rs : List PlanRange) (k : ℕ) → AreRanges rs → top ≤ k → owner_of rs k ≡ 0
owner_high [] k are le = refl
owner_high (r ∷ rs) k are le = owner_later k r rs (let h = are.0.1 in omega (arith, h, le)) ∙ owner_high rs k are.1 le

pub moving_low : (old new : List PlanRange) (k : ℕ) → ArePlans old new → moves old new k ≡ true → k < top
moving_low old new k plans is = elim (cases_lt k top) [
  | inl lt ↦ lt
  | inr le ↦ absurd (true_false (sym is ∙ ap not (λ i. owner_high old k plans.old_ranges le i == owner_high new k plans.new_ranges le i)))
]

-- what goes out in a sub-plan goes to its destination
pub gift_carried : (a : PartValue) (s : ℕ) (x : ChunkValue) → IsPart a → IsChunkOf a s x → ((k : ℕ) → span_has x.span k ≡ true → goes_out a s k ≡ true) → Carried (course_of_part a) x
gift_carried a s x is chunk out = record {
  moving = λ k h. moving k h;
  source = λ k h. source k h ∙ sym chunk.source;
  dest = λ k h. same_Some (owner_of (course_of_part a).new k) x.dest (sym (key_goes (course_of_part a).old (course_of_part a).new k plans (moving_low (course_of_part a).old (course_of_part a).new k plans (moving k h)) (moving k h)) ∙ (λ i. dest_of (course_of_part a).old (course_of_part a).new (sub k h i) (source k h i)) ∙ chunk.dest);
  sub_plan = λ k h. sub k h ∙ sym chunk.sub_plan;
}
  where
    plans : ArePlans (course_of_part a).old (course_of_part a).new
    plans = newest_plans a is

    moving : (k : ℕ) → span_has x.span k ≡ true → moves (course_of_part a).old (course_of_part a).new k ≡ true
    moving k h = (and_parts (moves (course_of_part a).old (course_of_part a).new k) ((sub_of (course_of_part a).old (course_of_part a).new k == s) && (owner_of (course_of_part a).old k == a.id)) (out k h)).0

    rest : (k : ℕ) → span_has x.span k ≡ true → ((sub_of (course_of_part a).old (course_of_part a).new k == s) && (owner_of (course_of_part a).old k == a.id)) ≡ true
    rest k h = (and_parts (moves (course_of_part a).old (course_of_part a).new k) ((sub_of (course_of_part a).old (course_of_part a).new k == s) && (owner_of (course_of_part a).old k == a.id)) (out k h)).1

    sub : (k : ℕ) → span_has x.span k ≡ true → sub_of (course_of_part a).old (course_of_part a).new k ≡ s
    sub k h = eq_same (sub_of (course_of_part a).old (course_of_part a).new k) s (and_parts (sub_of (course_of_part a).old (course_of_part a).new k == s) (owner_of (course_of_part a).old k == a.id) (rest k h)).0

    source : (k : ℕ) → span_has x.span k ≡ true → owner_of (course_of_part a).old k ≡ a.id
    source k h = eq_same (owner_of (course_of_part a).old k) a.id (and_parts (sub_of (course_of_part a).old (course_of_part a).new k == s) (owner_of (course_of_part a).old k == a.id) (rest k h)).1

-- a span with a key
pub span_some : (s : Interval) (k : ℕ) → span_has s k ≡ true → s.lo < s.hi
span_some s k h = let w = within_span s k h in omega (arith, w)

-- ---- boards of reports

pub load_board : (a : PartValue) (c : Change) (x : ChunkValue) → IsPart a → a.first.number ≡ 1 → a.id < part_limit → known_to a x.number ≡ Some c → x.sub < opened_at a x.number → (x.dest ≡ a.id) × Carried c x → x.span.lo < x.span.hi → IsBoard (report_board (load_report x))
load_board a c x is one low known started fits lt =
    let few : opened_at a x.number ≤ part_limit = opened_few a.board x.number is.board in
    let number : 1 ≤ x.number = known_low a x.number c is one known in
    let last : x.span.hi - 1 < top = moving_low c.old c.new (x.span.hi - 1) (known_plans a x.number c is known) (fits.1.moving (x.span.hi - 1) (inside x.span (x.span.hi - 1) (omega (arith, lt)) (omega (arith, lt)))) in
    let dest : x.dest < part_limit = subst (λ v. v < part_limit) (sym fits.0) low in
    let sub : x.sub < part_limit = omega (arith, few, started) in
    cell_board_is (place_at x.number x.sub x.dest) (pair_of (x.span ∷ []) false) (grind (arith, nat_tests, number, sub, dest)) (((lt, tt, tt), (omega (arith, last, lt), tt)), tt) (λ e. let bad : x.span ∷ [] ≡ [] = ap (λ v. v.first) e in cc)

pub done_board : (a : PartValue) (s : ℕ) → IsPart a → a.first.number ≡ 1 → a.id < part_limit → s < opened_at a (course_of_part a).number → IsBoard (report_board (done_report a s))
done_board a s is one low started =
    let n = (course_of_part a).number in
    let few : opened_at a n ≤ part_limit = opened_few a.board n is.board in
    let number : 1 ≤ n = known_low a n (course_of_part a) is one (course_known a is) in
    let sub : s < part_limit = omega (arith, few, started) in
    cell_board_is (place_at n s a.id) (pair_of [] true) (grind (arith, nat_tests, number, sub, low)) ((tt, tt), tt) (λ e. true_false (ap (λ v. v.second) e))
