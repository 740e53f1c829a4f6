-- Laws of route tables (this project).
use Rattle.std.specs.Prelude.{◌≡◌, ◌↔◌, ◌≢◌, ℕ, zero, suc, ◌+◌, ◌-◌, ◌<◌, ◌≤◌, ◌==◌, not, ◌||◌, Bool, true, false, cond, List, [], ◌∷◌, refl}
use Rattle.std.proofs.Common.{sym, ap, subst, ◌∙◌, arith, inl, inr}
use Rattle.std.proofs.lemmas.Bool.Decides.{nat_tests}
use Rattle.squall_key.specs.Keys.{top}
use Rattle.squall_plan.specs.declared.range.PlanRange.{PlanRange}
use Rattle.squall_plan.specs.Ranges.{owner_of, IsCanonical}
use Rattle.squall_course.specs.Change.{Change}
use Rattle.squall_course.specs.Subplans.{moves}
use Rattle.squall_board.specs.Boards.{BoardValue, says}
use Rattle.squall_board.specs.Route.{has_come, route}
use Rattle.squall_table.specs.Legs.{Differs, Legs}
use Rattle.squall_table.specs.Tables.{AreLegs, IsTable, leg_of, key_before, legs_of, legs_between}
use Rattle.squall_table.specs.LegLaws.{legs_as, same_legs, legs_are, are_legs, canonical_legs}

pub one_list : (f g : ℕ → ℕ) (lo hi : ℕ) (a b : List PlanRange) → ((k : ℕ) → lo ≤ k → k < hi → f k ≡ g k) → AreLegs f lo hi a → AreLegs g lo hi b → a ≡ b
one_list f g lo hi a b same p q = same_legs f lo hi a b (legs_are f lo hi a p) (legs_as g f lo hi b same (legs_are g lo hi b q))

-- ---- key by key

-- one key more before legs
one_more : (f : ℕ → ℕ) (lo hi : ℕ) (ls : List PlanRange) → Legs f (lo + 1) hi ls → Legs f lo hi (key_before lo (f lo) ls)
one_more f lo hi [] t = (refl, omega arith, (λ k from below. ap f (omega arith)), tt, t)
one_more f lo hi (l ∷ ls) t = by (l.part == f lo) refl
  where
    by : (b : Bool) → (l.part == f lo) ≡ b → Legs f lo hi (cond b (leg_of lo l.span.hi (f lo) ∷ ls) (leg_of lo (lo + 1) (f lo) ∷ l ∷ ls))
    by true e =
        let same : l.part ≡ f lo = grind (arith, nat_tests) in
        (refl, omega (arith, t.0, t.1), (λ k from below. joined k same from below), subst (λ p. Differs p ls) same t.3, t.4)
      where
        joined : (k : ℕ) → l.part ≡ f lo → lo ≤ k → k < l.span.hi → f k ≡ f lo
        joined k same from below = elim (Rattle.std.proofs.lemmas.Bool.cases_lt lo k) [
          | inl lt ↦ t.2 k (omega (arith, t.0)) below ∙ same
          | inr ge ↦ ap f (omega arith)
        ]
    by false e =
        let other : f lo ≢ l.part = grind (arith, nat_tests) in
        (refl, omega arith, (λ k from below. ap f (omega arith)), other, t)

so_many : (f : ℕ → ℕ) (lo n : ℕ) → Legs f lo (lo + n) (legs_of f lo n)
unfolding legs_of
so_many f lo zero = omega arith
so_many f lo (suc n) =
    let e : lo + 1 + n ≡ lo + suc n = omega arith in
    one_more f lo (lo + suc n) (legs_of f (lo + 1) n) (subst (λ hi. Legs f (lo + 1) hi (legs_of f (lo + 1) n)) e (so_many f (lo + 1) n))

between : (f : ℕ → ℕ) (lo hi : ℕ) → lo ≤ hi → Legs f lo hi (legs_between f lo hi)
between f lo hi le =
    let e : lo + (hi - lo) ≡ hi = omega arith in
    subst (λ to. Legs f lo to (legs_between f lo hi)) e (so_many f lo (hi - lo))

pub key_by_key : (f : ℕ → ℕ) (lo hi : ℕ) (ls : List PlanRange) → lo ≤ hi → AreLegs f lo hi ls ↔ (ls ≡ legs_between f lo hi)
key_by_key f lo hi ls le = (
  (λ l. same_legs f lo hi ls (legs_between f lo hi) (legs_are f lo hi ls l) (between f lo hi le)),
  (λ e. are_legs f lo hi ls (subst (Legs f lo hi) (sym e) (between f lo hi le))),
)

-- ---- routes

-- if each moving key has come, a key's route is its new owner
come : (c : Change) (b : BoardValue) (k : ℕ) → (moves c.old c.new k ≡ true → has_come c (says b) k ≡ true) → route c (says b) k ≡ owner_of c.new k
come c b k in_ = by (moves c.old c.new k) refl
  where
    by : (m : Bool) → moves c.old c.new k ≡ m → cond (not m || has_come c (says b) k) (owner_of c.new k) (owner_of c.old k) ≡ owner_of c.new k
    by true e = ap (λ h. cond h (owner_of c.new k) (owner_of c.old k)) (in_ e)
    by false e = refl

pub all_in : (c : Change) (b : BoardValue) (ls : List PlanRange) → IsCanonical c.new → ((k : ℕ) → k < top → moves c.old c.new k ≡ true → has_come c (says b) k ≡ true) → IsTable c b ls → ls ≡ c.new
all_in c b ls plan in_ table =
    same_legs (owner_of c.new) 0 top ls c.new (legs_as (route c (says b)) (owner_of c.new) 0 top ls (λ k from below. sym (come c b k (in_ k below))) (legs_are (route c (says b)) 0 top ls table)) (canonical_legs c.new plan)
