-- A chunk fits its course exactly where one move carries it.
use Rattle.std.proofs.Common.{◌≡◌, ℕ, zero, suc, ◌<◌, ◌≤◌, ◌==◌, ◌||◌, not, Bool, true, false, cond, nat_lt, nat_le, List, [], ◌∷◌, length, get_or, Option, None, Some, refl, sym, ap, subst, ◌∙◌, arith, inl, inr}
use Rattle.std.specs.Prelude.{IsTrue, ◌↔◌}
use Rattle.std.specs.List.{find, slice_get, AllByRecursion}
use Rattle.std.specs.List.Sorted.{IsNonDecreasingBy}
use Rattle.std.proofs.lemmas.Bool.{cases_lt, and_parts, and_from, false≢true}
use Rattle.std.proofs.lemmas.Bool.Decides.{nat_tests}
use Rattle.std.proofs.lemmas.Option.{same_Some}
use Rattle.squall_key.specs.Search.{EndedBy}
use Rattle.squall_span.specs.Spans.{span_has}
use Rattle.squall_span.specs.SpanLaws.{inside, outside_below, outside_above}
use Rattle.squall_plan.specs.declared.range.PlanRange.{PlanRange}
use Rattle.squall_course.specs.declared.moving.Move.{Move}
use Rattle.squall_course.specs.Change.{Change}
use Rattle.squall_course.specs.Subplans.{sub_at}
use Rattle.squall_course.specs.Moves.{move_has, in_moves, IsMove, Rise, LongestFrom, AreLongest, AreMoves}
use Rattle.squall_course.proofs.Moved.{within}
use Rattle.squall_protocol.specs.Chunks.{ChunkValue}
use Rattle.squall_protocol.specs.Carried.{ends_beyond, carries, Carried}
use Rattle.squall_part.proofs.Logs.{eq_refl, eq_same, eq_differ}

-- ---- the first move beyond a bound

ends_above : (from : ℕ) (ms : List Move) (old new : List PlanRange) (j : ℕ) (d : Move) → AllByRecursion (IsMove old new) ms → Rise from ms → j < length ms → from < (get_or ms j d).span.hi
ends_above from [] old new j d each rise lt = absurd (omega arith)
ends_above from (m ∷ ms) old new zero d each rise lt = omega (arith, rise.0, each.0.full)
ends_above from (m ∷ ms) old new (suc j) d each rise lt = let above = ends_above m.span.hi ms old new j d each.1 rise.1 (omega arith) in omega (arith, rise.0, each.0.full)

ends_rise : (from : ℕ) (ms : List Move) (old new : List PlanRange) → AllByRecursion (IsMove old new) ms → Rise from ms → IsNonDecreasingBy (λ m. m.span.hi) ms
ends_rise from [] old new each rise i j d le lt = absurd (omega arith)
ends_rise from (m ∷ ms) old new each rise zero zero d le lt = omega arith
ends_rise from (m ∷ ms) old new each rise zero (suc j) d le lt = let above = ends_above m.span.hi ms old new j d each.1 rise.1 (omega arith) in omega arith
ends_rise from (m ∷ ms) old new each rise (suc i) zero d le lt = absurd (omega arith)
ends_rise from (m ∷ ms) old new each rise (suc i) (suc j) d le lt = ends_rise m.span.hi ms old new each.1 rise.1 i j d (omega arith) (omega arith)

pub moves_rise : (c : Change) (ms : List Move) → AreMoves c.old c.new ms → IsNonDecreasingBy (λ m. m.span.hi) ms
moves_rise c ms are = ends_rise 0 ms c.old c.new are.each are.rise

pub beyond_at : (ms : List Move) (bound i : ℕ) (o : Option Move) → EndedBy (λ m. m.span.hi) ms bound i → o ≡ slice_get ms i → o ≡ find (ends_beyond bound) ms
beyond_at ms bound i o point e = e ∙ place ms i (λ j d lt in'. point.before j d lt) (λ j d le in'. point.from j d le in')
  where
    place : (ms : List Move) (i : ℕ) → ((j : ℕ) (d : Move) → j < i → j < length ms → (get_or ms j d).span.hi ≤ bound) → ((j : ℕ) (d : Move) → i ≤ j → j < length ms → bound < (get_or ms j d).span.hi) → slice_get ms i ≡ find (ends_beyond bound) ms
    place [] i below beyond = refl
    place (m ∷ ms) zero below beyond =
        let t : nat_lt bound m.span.hi ≡ true = let b = beyond 0 m (omega arith) (omega arith) in grind (arith, nat_tests) in
        sym (ap (λ b. cond b (Some m) (find (ends_beyond bound) ms)) t)
    place (m ∷ ms) (suc i) below beyond =
        let t : nat_lt bound m.span.hi ≡ false = let b = below 0 m (omega arith) (omega arith) in grind (arith, nat_tests) in
        place ms i (λ j d lt in'. below (suc j) d (omega arith) (omega arith)) (λ j d le in'. beyond (suc j) d (omega arith) (omega arith))
        ∙ sym (ap (λ b. cond b (Some m) (find (ends_beyond bound) ms)) t)

-- ---- keys in moves

in_rest : (m : Move) (ms : List Move) (k : ℕ) → m.span.hi ≤ k → in_moves k (m ∷ ms) ≡ true → in_moves k ms ≡ true
in_rest m ms k le h = sym (ap (λ b. b || in_moves k ms) (outside_above m.span k le)) ∙ h

none_below : (from k : ℕ) (ms : List Move) (old new : List PlanRange) → AllByRecursion (IsMove old new) ms → Rise from ms → k < from → in_moves k ms ≡ false
none_below from k [] old new each rise lt = refl
none_below from k (m ∷ ms) old new each rise lt =
    ap (λ b. b || in_moves k ms) (outside_below m.span k (omega (arith, rise.0))) ∙ none_below m.span.hi k ms old new each.1 rise.1 (omega (arith, rise.0, each.0.full))

-- what is found is a move
found_move : (old new : List PlanRange) (bound : ℕ) (ms : List Move) (m : Move) → AllByRecursion (IsMove old new) ms → find (ends_beyond bound) ms ≡ Some m → IsMove old new m
found_move old new bound [] m each e = absurd (let bad : ⊥ = cc in bad)
found_move old new bound (n ∷ ns) m each e = by (nat_lt bound n.span.hi) (λ e. found_move old new bound ns m each.1 e) e
  where
    by : (b : Bool) → (find (ends_beyond bound) ns ≡ Some m → IsMove old new m) → cond b (Some n) (find (ends_beyond bound) ns) ≡ Some m → IsMove old new m
    by true rest e = subst (IsMove old new) (same_Some n m e) each.0
    by false rest e = rest e

-- a move that carries a chunk
pub record Carrier (m : Move) (c : ChunkValue) : Type 0 where
  pub source : m.source ≡ c.source
  pub dest : m.dest ≡ c.dest
  pub sub : m.sub ≡ c.sub
  pub lo : m.span.lo ≤ c.span.lo
  pub hi : c.span.hi ≤ m.span.hi

pub carrier : (m : Move) (c : ChunkValue) → carries m c ≡ true → Carrier m c
carrier m c e =
    let a = and_parts (m.source == c.source) _ e in
    let b = and_parts (m.dest == c.dest) _ a.1 in
    let d = and_parts (m.sub == c.sub) _ b.1 in
    let f = and_parts (nat_le m.span.lo c.span.lo) (nat_le c.span.hi m.span.hi) d.1 in
    record {
      source = eq_same _ _ a.0;
      dest = eq_same _ _ b.0;
      sub = eq_same _ _ d.0;
      lo = let t = f.0 in grind (arith, nat_tests);
      hi = let t = f.1 in grind (arith, nat_tests);
    }

carrier_back : (m : Move) (c : ChunkValue) → Carrier m c → carries m c ≡ true
carrier_back m c r =
    and_from (m.source == c.source) _ (same r.source) (and_from (m.dest == c.dest) _ (same r.dest) (and_from (m.sub == c.sub) _ (same r.sub)
    (and_from (nat_le m.span.lo c.span.lo) (nat_le c.span.hi m.span.hi) (upto r.lo) (upto r.hi))))
  where
    same : {a b : ℕ} → a ≡ b → (a == b) ≡ true
    same {a} {b} e = subst (λ x. (a == x) ≡ true) e (eq_refl a)

    upto : {a b : ℕ} → a ≤ b → nat_le a b ≡ true
    upto {a} {b} e = grind (arith, nat_tests)

-- all keys of a chunk that a move carries fit
carried_by : (course : Change) (m : Move) (c : ChunkValue) → IsMove course.old course.new m → Carrier m c → Carried course c
carried_by course m c is r = record {
  moving = λ k h. ap not (eq_differ _ _ (λ e. is.other (sym (is.source k (in-m k h)) ∙ e ∙ is.dest k (in-m k h))));
  source = λ k h. is.source k (in-m k h) ∙ r.source;
  dest = λ k h. is.dest k (in-m k h) ∙ r.dest;
  sub_plan = λ k h. (λ i. sub_at course.old course.new (is.source k (in-m k h) i) (is.dest k (in-m k h) i)) ∙ sym is.sub ∙ r.sub;
}
  where
    in-m : (k : ℕ) → span_has c.span k ≡ true → move_has k m ≡ true
    in-m k h = let w = within c.span k h in inside m.span k (omega (arith, r.lo, w.0)) (omega (arith, r.hi, w.1))

-- a key of a chunk that fits, in a move: the move is of the chunk's kind
of_kind : (course : Change) (m : Move) (c : ChunkValue) (k : ℕ) → IsMove course.old course.new m → Carried course c → span_has c.span k ≡ true → move_has k m ≡ true → (m.source ≡ c.source) × (m.dest ≡ c.dest) × (m.sub ≡ c.sub)
of_kind course m c k is r h in' =
    let s : m.source ≡ c.source = sym (is.source k in') ∙ r.source k h in
    let d : m.dest ≡ c.dest = sym (is.dest k in') ∙ r.dest k h in
    (s, d, is.sub ∙ (λ i. sub_at course.old course.new (sym (is.source k in') i) (sym (is.dest k in') i)) ∙ r.sub_plan k h)

-- the move of its first key goes on to its last
reaches : (course : Change) (from : ℕ) (m : Move) (ms : List Move) (c : ChunkValue) → AllByRecursion (IsMove course.old course.new) (m ∷ ms) → Rise m.span.hi ms → LongestFrom m ms → Carried course c → c.span.lo < m.span.hi
    → (m.source ≡ c.source) × (m.dest ≡ c.dest) × (m.sub ≡ c.sub) → ((k : ℕ) → span_has c.span k ≡ true → in_moves k (m ∷ ms) ≡ true) → c.span.hi ≤ m.span.hi
reaches course from m [] c each rise long r lt kind all = elim (cases_lt m.span.hi c.span.hi) [
  | inl more ↦ absurd (false≢true (in_rest m [] m.span.hi (omega arith) (all m.span.hi (inside c.span m.span.hi (omega arith) more))))
  | inr ok ↦ ok
]
reaches course from m (n ∷ ns) c each rise long r lt kind all = elim (cases_lt m.span.hi c.span.hi) [
  | inl more ↦
      let h : span_has c.span m.span.hi ≡ true = inside c.span m.span.hi (omega arith) more in
      let in' : in_moves m.span.hi (n ∷ ns) ≡ true = in_rest m (n ∷ ns) m.span.hi (omega arith) (all m.span.hi h) in
      elim (cases_lt m.span.hi n.span.lo) [
        | inl gap ↦ absurd (false≢true (sym (none_below n.span.lo m.span.hi (n ∷ ns) course.old course.new each.1 (omega arith, rise.1) gap) ∙ in'))
        | inr le ↦
            let there : move_has m.span.hi n ≡ true = inside n.span m.span.hi le (omega (arith, rise.0, each.1.0.full)) in
            let other = of_kind course n c m.span.hi each.1.0 r h there in
            absurd (long.0 (omega (arith, rise.0)) (kind.0 ∙ sym other.0) (kind.1 ∙ sym other.1))
      ]
  | inr ok ↦ ok
]

longest_rest : (m : Move) (ms : List Move) → LongestFrom m ms → AreLongest ms
longest_rest m [] long = tt
longest_rest m (n ∷ ns) long = long.1

-- the move that is found carries a chunk that fits
found_carries : (course : Change) (from : ℕ) (ms : List Move) (c : ChunkValue) (m : Move) → AllByRecursion (IsMove course.old course.new) ms → Rise from ms → AreLongest ms → c.span.lo < c.span.hi → Carried course c
    → ((k : ℕ) → span_has c.span k ≡ true → in_moves k ms ≡ true) → find (ends_beyond c.span.lo) ms ≡ Some m → Carrier m c
found_carries course from [] c m each rise long full r all e = absurd (let bad : ⊥ = cc in bad)
found_carries course from (n ∷ ns) c m each rise long full r all e = elim (cases_lt c.span.lo n.span.hi) [
  | inl lt ↦
      let t : nat_lt c.span.lo n.span.hi ≡ true = grind (arith, nat_tests) in
      let same : n ≡ m = same_Some n m (sym (ap (λ b. cond b (Some n) (find (ends_beyond c.span.lo) ns)) t) ∙ e) in
      let first : span_has c.span c.span.lo ≡ true = inside c.span c.span.lo (omega arith) full in
      elim (cases_lt c.span.lo n.span.lo) [
        | inl gap ↦ absurd (false≢true (sym (none_below n.span.lo c.span.lo (n ∷ ns) course.old course.new each (omega arith, rise.1) gap) ∙ all c.span.lo first))
        | inr le ↦
            let kind = of_kind course n c c.span.lo each.0 r first (inside n.span c.span.lo le lt) in
            let got : Carrier n c = record { source = kind.0; dest = kind.1; sub = kind.2; lo = le; hi = reaches course from n ns c each rise.1 long r lt kind all } in
            subst (λ m. Carrier m c) same got
      ]
  | inr ge ↦
      let t : nat_lt c.span.lo n.span.hi ≡ false = grind (arith, nat_tests) in
      found_carries course n.span.hi ns c m each.1 rise.1 (longest_rest n ns long) full r (λ k h. in_rest n ns k (let w = within c.span k h in omega arith) (all k h)) (sym (ap (λ b. cond b (Some n) (find (ends_beyond c.span.lo) ns)) t) ∙ e)
]

-- where none is found, the chunk does not fit
none_carries : (ms : List Move) (k : ℕ) → find (ends_beyond k) ms ≡ None → in_moves k ms ≡ false
none_carries [] k e = refl
none_carries (m ∷ ms) k e = by (nat_lt k m.span.hi) (λ e. none_carries ms k e) refl e
  where
    by : (b : Bool) → (find (ends_beyond k) ms ≡ None → in_moves k ms ≡ false) → nat_lt k m.span.hi ≡ b → cond b (Some m) (find (ends_beyond k) ms) ≡ None → in_moves k (m ∷ ms) ≡ false
    by true rest t e = absurd (let bad : ⊥ = cc in bad)
    by false rest t e = let ge : m.span.hi ≤ k = grind (arith, nat_tests) in ap (λ b. b || in_moves k ms) (outside_above m.span k ge) ∙ rest e

pub carried_some : (course : Change) (ms : List Move) (c : ChunkValue) (m : Move) (b : Bool) → AreMoves course.old course.new ms → c.span.lo < c.span.hi → find (ends_beyond c.span.lo) ms ≡ Some m → b ≡ carries m c → IsTrue b ↔ Carried course c
carried_some course ms c m b are full e is = (
  λ t. carried_by course m c (found_move course.old course.new c.span.lo ms m are.each e) (carrier m c (sym is ∙ t)),
  λ r. is ∙ carrier_back m c (found_carries course 0 ms c m are.each are.rise are.longest full r (λ k h. are.all k ∙ r.moving k h) e),
)

pub carried_none : (course : Change) (ms : List Move) (c : ChunkValue) → AreMoves course.old course.new ms → c.span.lo < c.span.hi → find (ends_beyond c.span.lo) ms ≡ None → IsTrue false ↔ Carried course c
carried_none course ms c are full e = (
  λ t. absurd (false≢true t),
  λ r. absurd (false≢true (sym (none_carries ms c.span.lo e) ∙ are.all c.span.lo ∙ r.moving c.span.lo (inside c.span c.span.lo (omega arith) full))),
)
