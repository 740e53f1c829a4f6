-- Moves that are given away lead from the old plan to the new one.
use Rattle.std.proofs.Common.{◌≡◌, ℕ, ◌++◌, Bool, true, false, List, [], ◌∷◌, refl, sym, ap, ◌∙◌, inl, inr, ◌||◌}
use Rattle.std.specs.Prelude.{◌==◌, map, not, reverse, if◌then◌else◌}
use Rattle.std.specs.List.{AllByRecursion}
use Rattle.std.proofs.lemmas.Bool.{cases_Bool, false≢true}
use Rattle.std.proofs.lemmas.List.{reverse-append, append_assoc}
use Rattle.squall_key.specs.Lemmas.{same_number}
use Rattle.squall_plan.specs.declared.range.PlanRange.{PlanRange}
use Rattle.squall_plan.specs.Ranges.{range_has, owner_of, IsCanonical, AreRanges}
use Rattle.squall_course.specs.declared.moving.Move.{Move}
use Rattle.squall_course.specs.Subplans.{moves}
use Rattle.squall_course.specs.Moves.{move_has, in_moves, IsMove, AreMoves}
use Rattle.squall_plan_edit.specs.Moved.{owner_after, HasOwners}
use Rattle.squall_plan_edit.specs.Apart.{range_of}
use Rattle.squall_plan_edit.proofs.Given.{owner_cons}

-- the first range that is given away lies behind all others
first_last : (r : PlanRange) (rs base : List PlanRange) (k : ℕ) → owner_after (r ∷ rs) base k ≡ owner_after rs (r ∷ base) k
first_last r rs base k = ap (λ (l : List PlanRange). owner_of l k)
    (ap (λ (l : List PlanRange). l ++ base) (reverse-append (r ∷ []) rs) ∙ append_assoc (reverse rs) (r ∷ []) base)

-- the moves that have the key go to the partition
abbrev LeadTo : ℕ → ℕ → List Move → Type 0
LeadTo k p ms = AllByRecursion (λ m. move_has k m ≡ true → m.dest ≡ p) ms

if_same : (b : Bool) (x y p : ℕ) → (b ≡ true → x ≡ p) → (b ≡ false → y ≡ p) → (if b then x else y) ≡ p
if_same true x y p high low = high refl
if_same false x y p high low = low refl

-- a key that is at the partition, or in a move to it, is there once all moves are given away
stays : (k p : ℕ) (ms : List Move) (base : List PlanRange) → LeadTo k p ms → owner_of base k ≡ p → owner_after (map range_of ms) base k ≡ p
stays k p [] base lead is = is
stays k p (m ∷ ms) base lead is = first_last (range_of m) (map range_of ms) base k ∙ stays k p ms (range_of m ∷ base) lead.1
    (owner_cons (range_of m) base k ∙ if_same (range_has k (range_of m)) m.dest (owner_of base k) p lead.0 (λ e. is))

comes : (k p : ℕ) (ms : List Move) (base : List PlanRange) → LeadTo k p ms → in_moves k ms ≡ true → owner_after (map range_of ms) base k ≡ p
comes k p [] base lead is = absurd (false≢true is)
comes k p (m ∷ ms) base lead is = first_last (range_of m) (map range_of ms) base k ∙ elim (cases_Bool (move_has k m)) [
  | inl has ↦ stays k p ms (range_of m ∷ base) lead.1 (owner_cons (range_of m) base k ∙ if_same (range_has k (range_of m)) m.dest (owner_of base k) p lead.0 (λ e. absurd (false≢true (sym e ∙ has))))
  | inr lacks ↦ comes k p ms (range_of m ∷ base) lead.1 (sym (ap (λ (b : Bool). b || in_moves k ms) lacks) ∙ is)
]

lead_to : (old new : List PlanRange) (k : ℕ) (ms : List Move) → AllByRecursion (IsMove old new) ms → LeadTo k (owner_of new k) ms
lead_to old new k [] each = tt
lead_to old new k (m ∷ ms) each = (λ has. sym (each.0.dest k has), lead_to old new k ms each.1)

not_false : (b : Bool) → not b ≡ false → b ≡ true
not_false true e = refl
not_false false e = absurd (false≢true (sym e))

-- each key is where the new plan has it
led : (old new : List PlanRange) (ms : List Move) (k : ℕ) → AreMoves old new ms → owner_after (map range_of ms) old k ≡ owner_of new k
led old new ms k are = elim (cases_Bool (moves old new k)) [
  | inl goes ↦ comes k (owner_of new k) ms old (lead_to old new k ms are.each) (are.all k ∙ goes)
  | inr keeps ↦ stays k (owner_of new k) ms old (lead_to old new k ms are.each) (same_number (owner_of old k) (owner_of new k) (not_false (owner_of old k == owner_of new k) keeps))
]

pub leads : (old new : List PlanRange) (ms : List Move) → IsCanonical new → AreRanges new → AreMoves old new ms → HasOwners (owner_after (map range_of ms) old) new
leads old new ms canonical ranges are = record { canonical = canonical; ranges = ranges; owners = λ k lt. sym (led old new ms k are) }
