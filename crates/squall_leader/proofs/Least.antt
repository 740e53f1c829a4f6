-- The least number that passes a test.
use Rattle.std.proofs.Common.{◌≡◌, ℕ, zero, suc, ◌+◌, ◌<◌, ◌≤◌, Bool, true, false, Option, None, Some, IfSome, refl, sym, ap, ◌∙◌, arith, inl, inr}
use Rattle.std.specs.Prelude.{filter, ◌&&◌}
use Rattle.std.specs.List.{find, range_with_len}
use Rattle.std.proofs.lemmas.Bool.{cases_Bool, cases_eq, and_parts}
use Rattle.squall_leader.specs.Waiting.{IsLeast}

-- ---- what is found among the numbers of a range that pass another test

find_none : (test h : ℕ → Bool) (a n : ℕ) → ((q : ℕ) → (h q && test q) ≡ false) → find test (filter h (range_with_len a n)) ≡ None
find_none test h a zero miss = refl
find_none test h a (suc n) miss = elim (cases_Bool (h a)) [
  | inl is ↦ let at_a = miss a in let out : test a ≡ false = rw is at at_a in rw (is, out) (find_none test h (a + 1) n miss)
  | inr is ↦ rw is (find_none test h (a + 1) n miss)
]

find_some : (test h : ℕ → Bool) (a n p : ℕ) → h p ≡ true → test p ≡ true → ((q : ℕ) → q < p → (h q && test q) ≡ false) → a ≤ p → p < a + n → find test (filter h (range_with_len a n)) ≡ Some p
find_some test h a zero p has is miss low high = absurd (omega (arith, low, high))
find_some test h a (suc n) p has is miss low high = elim (cases_eq a p) [
  | inl same ↦ rw (ap h same ∙ has, ap test same ∙ is) (ap Some same)
  | inr ne ↦
      let rest = find_some test h (a + 1) n p has is miss (omega (arith, low, ne)) (omega (arith, high)) in
      elim (cases_Bool (h a)) [
        | inl here ↦ let at_a = miss a (omega (arith, low, ne)) in let out : test a ≡ false = rw here at at_a in rw (here, out) rest
        | inr here ↦ rw here rest
      ]
]

pub find_least : (test h : ℕ → Bool) (n : ℕ) (r : Option ℕ) → IsLeast (λ q. h q && test q) r → IfSome r (λ p. p < n) → r ≡ find test (filter h (range_with_len 0 n))
find_least test h n None least within = sym (find_none test h 0 n least)
find_least test h n (Some p) least within =
    let parts = and_parts (h p) (test p) least.0 in
    sym (find_some test h 0 n p parts.0 parts.1 least.1 (omega arith) (omega (arith, within)))

pub same_least : (a b : ℕ → Bool) (r : Option ℕ) → ((q : ℕ) → a q ≡ b q) → IsLeast b r → IsLeast a r
same_least a b None same least = λ q. same q ∙ least q
same_least a b (Some p) same least = (same p ∙ least.0, λ q lt. same q ∙ least.1 q lt)
