-- Small lemmas of tests and comparisons, which proofs of several crates share (this project).
use Rattle.std.specs.Prelude.{◌≡◌, ℕ, ◌<◌, ◌≤◌, Bool, true, false, ◌&&◌, ◌==◌, T, refl}
use Rattle.std.specs.Bool.{Decides}
use Rattle.std.specs.Ordering.{nat_cmp, is_eq, is_lt, is_le}
use Rattle.std.proofs.Common.{arith}
use Rattle.std.proofs.lemmas.Bool.{and_parts, and_from}
use Rattle.std.proofs.lemmas.Bool.Decides.{nat_tests}

-- ---- what a comparison of two numbers says

pub lt_from_cmp : (x y : ℕ) → is_lt (nat_cmp x y) ≡ true → x < y
lt_from_cmp x y e = grind (arith, nat_tests)

pub ge_from_cmp : (x y : ℕ) → is_lt (nat_cmp x y) ≡ false → y ≤ x
ge_from_cmp x y e = grind (arith, nat_tests)

pub le_from_cmp : (x y : ℕ) → is_le (nat_cmp x y) ≡ true → x ≤ y
le_from_cmp x y e = grind (arith, nat_tests)

pub gt_from_cmp : (x y : ℕ) → is_le (nat_cmp x y) ≡ false → y < x
gt_from_cmp x y e = grind (arith, nat_tests)

pub eq_by_nat_cmp : (x y : ℕ) → is_eq (nat_cmp x y) ≡ (x == y)
eq_by_nat_cmp x y = grind (arith, nat_tests)

-- ---- equal numbers

pub same_number : (x y : ℕ) → (x == y) ≡ true → x ≡ y
same_number x y e = grind (arith, nat_tests)

pub equal_to_itself : (x : ℕ) → (x == x) ≡ true
equal_to_itself x = grind (arith, nat_tests)

pub eq_comm : (x y : ℕ) → (x == y) ≡ (y == x)
eq_comm x y = grind (arith, nat_tests)

pub nat_decides : (x y : ℕ) → Decides (x == y) (x ≡ y)
nat_decides x y = (same_number x y, λ e. grind (arith, nat_tests))

-- ---- tests

pub true_from_T : (b : Bool) → T b → b ≡ true
true_from_T true t = refl
true_from_T false t = absurd t

-- two tests, each of one half of a fact
pub both_decide : (s t : Bool) (P Q R : Type 0) → Decides s P → Decides t Q → (P → Q → R) → (R → P) → (R → Q) → Decides (s && t) R
both_decide s t P Q R a b make one two = (λ e. let parts = and_parts s t e in make (a.0 parts.0) (b.0 parts.1), λ r. and_from s t (a.1 (one r)) (b.1 (two r)))
