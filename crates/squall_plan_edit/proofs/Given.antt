-- Ranges that are given away, one after the other.
use Rattle.std.proofs.Common.{◌≡◌, ℕ, ◌<◌, ◌≤◌, ◌+◌, ◌++◌, false, List, [], ◌∷◌, length, get_or, take, refl, sym, ap, ◌∙◌, subst, arith, inl, inr}
use Rattle.std.specs.Prelude.{reverse, if◌then◌else◌}
use Rattle.std.proofs.lemmas.Bool.{cases_Bool}
use Rattle.std.proofs.lemmas.List.{take_more, reverse-append, append_assoc}
use Rattle.squall_plan.specs.declared.range.PlanRange.{PlanRange}
use Rattle.squall_plan.specs.Ranges.{range_has, holders, owner_of}
use Rattle.squall_plan.specs.PlanLaws.{owner_first, owner_later, has_below}
use Rattle.squall_plan_edit.specs.Moved.{owner_after, owner_moved}
use Rattle.squall_plan_edit.specs.Legs.{IsHeld}

-- the first range has its keys, and the others have the rest
pub owner_cons : (r : PlanRange) (rs : List PlanRange) (k : ℕ) → owner_of (r ∷ rs) k ≡ (if range_has k r then r.part else owner_of rs k)
owner_cons r rs k = elim (cases_Bool (range_has k r)) [
  | inl is ↦ rw is refl
  | inr is ↦ rw is refl
]

owner_below : (r : PlanRange) (rs : List PlanRange) (k : ℕ) → k < r.span.lo → owner_of (r ∷ rs) k ≡ owner_of rs k
owner_below r rs k below = rw (has_below k r below) refl

-- ---- what is left of a range

pub held_behind : (r held : PlanRange) (rs : List PlanRange) (at : ℕ) → r.span.hi ≤ at → IsHeld (owner_of rs) at held → IsHeld (owner_of (r ∷ rs)) at held
held_behind r held rs at behind is = record { beyond = is.beyond; keys = λ k ge lt. owner_later k r rs (omega (arith, behind, ge)) ∙ is.keys k ge lt }

pub held_within : (r : PlanRange) (rs : List PlanRange) (at : ℕ) → r.span.lo ≤ at → at < r.span.hi → IsHeld (owner_of (r ∷ rs)) at r
held_within r rs at from below = record { beyond = below; keys = λ k ge lt. owner_first k r rs (omega (arith, from, ge)) lt }

pub held_before : (r held cut : PlanRange) (rs : List PlanRange) (at : ℕ) → at < cut.span.hi → cut.span.hi ≤ held.span.hi → cut.span.hi ≤ r.span.lo
    → cut.part ≡ held.part → IsHeld (owner_of rs) at held → IsHeld (owner_of (r ∷ rs)) at cut
held_before r held cut rs at some within before part is = record {
  beyond = some;
  keys = λ k ge lt. owner_below r rs k (omega (arith, before, lt)) ∙ is.keys k ge (omega (arith, within, lt)) ∙ sym part;
}

-- ---- one range after the other

pub last_first : (given old : List PlanRange) (r : PlanRange) → reverse (given ++ r ∷ []) ++ old ≡ r ∷ (reverse given ++ old)
last_first given old r = ap (λ (l : List PlanRange). l ++ old) (reverse-append given (r ∷ []))

pub given_more : (given old : List PlanRange) (i : ℕ) (r held : PlanRange) (at : ℕ) → i < length given → r ≡ get_or given i r
    → IsHeld (owner_of (r ∷ (reverse (take i given) ++ old))) at held → IsHeld (owner_of (reverse (take (i + 1) given) ++ old)) at held
given_more given old i r held at lt is h =
    let more : take (i + 1) given ≡ take i given ++ r ∷ [] = take_more given i r lt ∙ ap (λ (x : PlanRange). take i given ++ x ∷ []) (sym is) in
    let same : reverse (take (i + 1) given) ++ old ≡ r ∷ (reverse (take i given) ++ old) = ap (λ (l : List PlanRange). reverse l ++ old) more ∙ last_first (take i given) old r in
    subst (λ (l : List PlanRange). IsHeld (owner_of l) at held) (sym same) h

-- one range is a span and its partition
pub one_given : (r : PlanRange) (old : List PlanRange) (k : ℕ) → owner_after (r ∷ []) old k ≡ owner_moved r.span r.part old k
one_given r old k = owner_cons r old k

pub last_decides : (given old : List PlanRange) (r : PlanRange) (k : ℕ) → owner_after (given ++ r ∷ []) old k ≡ (if range_has k r then r.part else owner_after given old k)
last_decides given old r k = ap (λ (l : List PlanRange). owner_of l k) (last_first given old r) ∙ owner_cons r (reverse given ++ old) k

-- ---- keys that no range has

none_first : (k : ℕ) (r : PlanRange) (rs : List PlanRange) → holders k (r ∷ rs) ≡ 0 → range_has k r ≡ false
none_first k r rs none = elim (cases_Bool (range_has k r)) [
  | inl is ↦ let some : holders k (r ∷ rs) ≡ 1 + holders k rs = rw is refl in absurd (omega (arith, some, none))
  | inr is ↦ is
]

none_rest : (k : ℕ) (r : PlanRange) (rs : List PlanRange) → holders k (r ∷ rs) ≡ 0 → holders k rs ≡ 0
none_rest k r rs none = omega (arith, none)

owner_skipped : (k : ℕ) (r : PlanRange) (rs xs : List PlanRange) → range_has k r ≡ false → owner_of (xs ++ r ∷ rs) k ≡ owner_of (xs ++ rs) k
owner_skipped k r rs [] not = rw not refl
owner_skipped k r rs (x ∷ xs) not = owner_cons x (xs ++ r ∷ rs) k ∙ ap (λ (n : ℕ). if range_has k x then x.part else n) (owner_skipped k r rs xs not) ∙ sym (owner_cons x (xs ++ rs) k)

pub others_stay : (given old : List PlanRange) (k : ℕ) → holders k given ≡ 0 → owner_after given old k ≡ owner_of old k
others_stay [] old k none = refl
others_stay (r ∷ rs) old k none =
    let not : range_has k r ≡ false = none_first k r rs none in
    ap (λ (l : List PlanRange). owner_of l k) (turned r rs old) ∙ owner_skipped k r old (reverse rs) not ∙ others_stay rs old k (none_rest k r rs none)
  where
    turned : (r : PlanRange) (rs old : List PlanRange) → reverse (r ∷ rs) ++ old ≡ reverse rs ++ (r ∷ old)
    turned r rs old = ap (λ (l : List PlanRange). l ++ old) (reverse-append (r ∷ []) rs) ∙ append_assoc (reverse rs) (r ∷ []) old
