-- What comparisons of bounds say, and the first of a list.
use Rattle.std.proofs.Common.{◌≡◌, ℕ, ◌<◌, ◌≤◌, max, min, true, false, List, [], ◌∷◌, Some, sym, ap, arith}
use Rattle.std.specs.Prelude.{slice_get, nat_lt, ◌==◌}
use Rattle.std.specs.Ordering.{nat_cmp, is_lt, ord_max, ord_min}
use Rattle.std.proofs.lemmas.Bool.Decides.{nat_tests}
use Rattle.std.proofs.lemmas.Option.{same_Some}
use Rattle.squall_key.specs.Lemmas.{lt_from_cmp, ge_from_cmp}
use Rattle.squall_span.specs.Spans.{Interval}

pub max_is : (a b : ℕ) → ord_max nat_cmp a b ≡ max a b
max_is a b = grind (arith, nat_tests)

pub min_is : (a b : ℕ) → ord_min nat_cmp a b ≡ min a b
min_is a b = grind (arith, nat_tests)

pub first_is : (xs : List Interval) (x : Interval) → Some x ≡ slice_get xs 0 → (rest : List Interval) × (xs ≡ x ∷ rest)
first_is [] x e = absurd (let bad : ⊥ = cc in bad)
first_is (y ∷ ys) x e = (ys, ap (λ (t : Interval). t ∷ ys) (sym (same_Some x y e)))

pub lt_no : (a b : ℕ) → b ≤ a → nat_lt a b ≡ false
lt_no a b e = grind (arith, nat_tests)

-- the same, of a bound that was read
pub below_by : (a b n : ℕ) → a ≡ n → true ≡ is_lt (nat_cmp a b) → n < b
below_by a b n e t = omega (arith, lt_from_cmp a b (sym t))

pub from_by : (a b n : ℕ) → a ≡ n → false ≡ is_lt (nat_cmp a b) → b ≤ n
from_by a b n e t = omega (arith, ge_from_cmp a b (sym t))

-- a test of a bound that was read
pub is_below_by : (a b n : ℕ) → a ≡ n → n < b → is_lt (nat_cmp a b) ≡ true
is_below_by a b n e lt = grind (arith, nat_tests)

pub some_by : (n : ℕ) → false ≡ (n == 0) → 0 < n
some_by n e = grind (arith, nat_tests)

pub none_by : (n : ℕ) → true ≡ (n == 0) → n ≡ 0
none_by n e = grind (arith, nat_tests)
