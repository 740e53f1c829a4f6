-- Two plans have one list of moves.
use Rattle.std.proofs.Common.{◌≡◌, ℕ, ◌<◌, ◌≤◌, true, false, List, [], ◌∷◌, refl, sym, ap, ◌∙◌, arith, inl, inr}
use Rattle.std.specs.List.{AllByRecursion}
use Rattle.std.proofs.lemmas.Bool.{cases_lt, false≢true}
use Rattle.std.proofs.lemmas.Bool.Decides.{nat_tests}
use Rattle.squall_plan.specs.declared.range.PlanRange.{PlanRange}
use Rattle.squall_plan.specs.Ranges.{owner_of}
use Rattle.squall_course.specs.declared.moving.Move.{Move}
use Rattle.squall_course.specs.Subplans.{sub_at}
use Rattle.squall_course.specs.Moves.{move_has, in_moves, IsMove, Rise, LongestFrom, AreLongest, AreMoves, moves_of}
use Rattle.squall_course.specs.Change.{ArePlans}
use Rattle.squall_course.proofs.Moved.{are_moves, first_key}

has_key : (m : Move) (k : ℕ) → m.span.lo ≤ k → k < m.span.hi → move_has k m ≡ true
has_key m k le lt = grind (arith, nat_tests)

key_above : (m : Move) (k : ℕ) → m.span.hi ≤ k → move_has k m ≡ false
key_above m k le = grind (arith, nat_tests)

key_below : (m : Move) (k : ℕ) → k < m.span.lo → move_has k m ≡ false
key_below m k lt = grind (arith, nat_tests)

in_head : (m : Move) (ms : List Move) (k : ℕ) → m.span.lo ≤ k → k < m.span.hi → in_moves k (m ∷ ms) ≡ true
in_head m ms k le lt = rw (has_key m k le lt) refl

in_rest : (m : Move) (ms : List Move) (k : ℕ) → m.span.hi ≤ k → in_moves k (m ∷ ms) ≡ in_moves k ms
in_rest m ms k le = rw (key_above m k le) refl

none_below : (old new : List PlanRange) (from k : ℕ) (ms : List Move) → AllByRecursion (IsMove old new) ms → Rise from ms → k < from → in_moves k ms ≡ false
none_below old new from k [] each r lt = refl
none_below old new from k (m ∷ ms) each r lt = rw (key_below m k (omega (arith, r.0))) (none_below old new m.span.hi k ms each.1 r.1 (omega (arith, r.0, each.0.full)))

same_move : (m n : Move) → m.span.lo ≡ n.span.lo → m.span.hi ≡ n.span.hi → m.source ≡ n.source → m.dest ≡ n.dest → m.sub ≡ n.sub → m ≡ n
same_move m n lo hi source dest sub = λ i. record { span = record { lo = lo i; hi = hi i }; source = source i; dest = dest i; sub = sub i }

-- a list that has the key at the end of a move goes on with a move from there
goes_on : (old new : List PlanRange) (m n : Move) (ms : List Move) → AllByRecursion (IsMove old new) ms → Rise m.span.hi ms → LongestFrom m ms → in_moves m.span.hi ms ≡ true
    → owner_of old m.span.hi ≡ m.source → owner_of new m.span.hi ≡ m.dest → ⊥
goes_on old new m n [] each r l is source dest = false≢true is
goes_on old new m n (x ∷ xs) each r l is source dest = elim (cases_lt m.span.hi x.span.lo) [
  | inl lt ↦ false≢true (sym (none_below old new x.span.lo m.span.hi (x ∷ xs) each (omega arith, r.1) lt) ∙ is)
  | inr le ↦
      let touch : m.span.hi ≡ x.span.lo = omega (arith, r.0) in
      let starts = has_key x m.span.hi (omega arith) (omega (arith, each.0.full)) in
      l.0 touch (sym source ∙ each.0.source m.span.hi starts) (sym dest ∙ each.0.dest m.span.hi starts)
]

longest_rest : (m : Move) (ms : List Move) → LongestFrom m ms → AreLongest ms
longest_rest m [] l = tt
longest_rest m (n ∷ ns) l = l.1

no_lower : (old new : List PlanRange) (from : ℕ) (m n : Move) (ms ns : List Move) → AllByRecursion (IsMove old new) (m ∷ ms) → AllByRecursion (IsMove old new) (n ∷ ns) → Rise from (m ∷ ms) → Rise from (n ∷ ns)
    → in_moves m.span.lo (m ∷ ms) ≡ in_moves m.span.lo (n ∷ ns) → m.span.lo < n.span.lo → ⊥
no_lower old new from m n ms ns a b r s same lt =
    false≢true (sym (none_below old new n.span.lo m.span.lo (n ∷ ns) b (omega arith, s.1) lt) ∙ sym same ∙ in_head m ms m.span.lo (omega arith) a.0.full)

no_shorter : (old new : List PlanRange) (m n : Move) (ms ns : List Move) → AllByRecursion (IsMove old new) (m ∷ ms) → IsMove old new n → Rise m.span.hi ms → LongestFrom m ms
    → in_moves m.span.hi (m ∷ ms) ≡ in_moves m.span.hi (n ∷ ns) → m.span.lo ≡ n.span.lo → m.source ≡ n.source → m.dest ≡ n.dest → m.span.hi < n.span.hi → ⊥
no_shorter old new m n ms ns a b r l same lo source dest lt =
    let within : n.span.lo ≤ m.span.hi = omega (arith, a.0.full) in
    let in_it = has_key n m.span.hi within lt in
    goes_on old new m n ms a.1 r l (sym (in_rest m ms m.span.hi (omega arith)) ∙ same ∙ in_head n ns m.span.hi within lt)
    (b.source m.span.hi in_it ∙ sym source) (b.dest m.span.hi in_it ∙ sym dest)

same_from : (old new : List PlanRange) (from : ℕ) (ms ns : List Move) → AllByRecursion (IsMove old new) ms → AllByRecursion (IsMove old new) ns → Rise from ms → Rise from ns → AreLongest ms → AreLongest ns
    → ((k : ℕ) → from ≤ k → in_moves k ms ≡ in_moves k ns) → ms ≡ ns
same_from old new from [] [] a b r s l q same = refl
same_from old new from [] (n ∷ ns) a b r s l q same = absurd (false≢true (same n.span.lo s.0 ∙ in_head n ns n.span.lo (omega arith) b.0.full))
same_from old new from (m ∷ ms) [] a b r s l q same = absurd (false≢true (sym (same m.span.lo r.0) ∙ in_head m ms m.span.lo (omega arith) a.0.full))
same_from old new from (m ∷ ms) (n ∷ ns) a b r s l q same =
    let lo : m.span.lo ≡ n.span.lo = elim (cases_lt m.span.lo n.span.lo) [
      | inl lt ↦ absurd (no_lower old new from m n ms ns a b r s (same m.span.lo r.0) lt)
      | inr le ↦ elim (cases_lt n.span.lo m.span.lo) [
        | inl lt ↦ absurd (no_lower old new from n m ns ms b a s r (sym (same n.span.lo s.0)) lt)
        | inr ge ↦ omega arith
      ]
    ] in
    let here = has_key n m.span.lo (omega arith) (omega (arith, b.0.full)) in
    let source = sym (a.0.source m.span.lo (first_key m a.0.full)) ∙ b.0.source m.span.lo here in
    let dest = sym (a.0.dest m.span.lo (first_key m a.0.full)) ∙ b.0.dest m.span.lo here in
    let hi : m.span.hi ≡ n.span.hi = elim (cases_lt m.span.hi n.span.hi) [
      | inl lt ↦ absurd (no_shorter old new m n ms ns a b.0 r.1 l (same m.span.hi (omega (arith, r.0, a.0.full))) lo source dest lt)
      | inr le ↦ elim (cases_lt n.span.hi m.span.hi) [
        | inl lt ↦ absurd (no_shorter old new n m ns ms b a.0 s.1 q (sym (same n.span.hi (omega (arith, s.0, b.0.full)))) (sym lo) (sym source) (sym dest) lt)
        | inr ge ↦ omega arith
      ]
    ] in
    let sub : m.sub ≡ n.sub = a.0.sub ∙ ap (λ p. sub_at old new p m.dest) source ∙ ap (λ p. sub_at old new n.source p) dest ∙ sym b.0.sub in
    let s1 : Rise m.span.hi ns = rw hi s.1 in
    let rest = same_from old new m.span.hi ms ns a.1 b.1 r.1 s1 (longest_rest m ms l) (longest_rest n ns q)
    (λ k le. sym (in_rest m ms k le) ∙ same k (omega (arith, r.0, a.0.full)) ∙ in_rest n ns k (omega (arith, hi))) in
    let first = same_move m n lo hi source dest sub in
    λ i. first i ∷ rest i

pub one_list : (old new : List PlanRange) (ms : List Move) → ArePlans old new → AreMoves old new ms → ms ≡ moves_of old new
one_list old new ms plans a =
    let b = are_moves old new plans.old_canonical plans.new_canonical in
    same_from old new 0 ms (moves_of old new) a.each b.each a.rise b.rise a.longest b.longest (λ k le. a.all k ∙ sym (b.all k))
