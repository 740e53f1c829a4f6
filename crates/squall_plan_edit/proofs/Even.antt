-- How many units a share has.
use Rattle.std.proofs.Common.{◌≡◌, ℕ, zero, suc, ◌<◌, ◌≤◌, ◌+◌, ◌-◌, ◌*◌, ◌/◌, min, Bool, true, false, cond, sym, ap, ◌∙◌, subst, arith, inl, inr}
use Rattle.std.specs.Prelude.{◌==◌}
use Rattle.std.proofs.Math.Nat.{div-lt_iff_lt-mul, le-div_iff_mul-le, div-mul-le_self, lt-div-mul-add, mul-le-mul_right, lt_of_mul-lt-mul_right, add-mul, mul_comm}
use Rattle.std.proofs.lemmas.Bool.{cases_lt}
use Rattle.std.proofs.lemmas.Bool.Decides.{nat_tests}
use Rattle.squall_span.specs.Spans.{how_many}
use Rattle.squall_plan_edit.specs.Shares.{share_at}
use Rattle.squall_plan_edit.proofs.Shares.{div_rises, one_more}

-- the numbers below n that pass a test, if those are the ones from one bound on, below another
count_between : (test : ℕ → Bool) (lo hi n : ℕ) → lo ≤ hi → ((q : ℕ) → q < lo → test q ≡ false) → ((q : ℕ) → lo ≤ q → q < hi → test q ≡ true) → ((q : ℕ) → hi ≤ q → test q ≡ false)
    → how_many test n ≡ min n hi - min n lo
unfolding how_many
count_between test lo hi zero le before inside after = omega arith
count_between test lo hi (suc n) le before inside after =
    let rest = count_between test lo hi n le before inside after in
    elim (cases_lt n lo) [
      | inl below ↦ ap (λ (b : Bool). cond b 1 0 + how_many test n) (before n below) ∙ omega (arith, rest)
      | inr from ↦ elim (cases_lt n hi) [
        | inl upto ↦ ap (λ (b : Bool). cond b 1 0 + how_many test n) (inside n from upto) ∙ omega (arith, rest)
        | inr above ↦ ap (λ (b : Bool). cond b 1 0 + how_many test n) (after n above) ∙ omega (arith, rest)
      ]
    ]

times_more : (q m : ℕ) → (q + 1) * m ≡ q * m + m
times_more q m = one_more q m

below_first : (n m i q : ℕ) → 0 < m → 0 < n → q < (i * n + m - 1) / m → q * m / n < i
below_first n m i q pm pn lt =
    let near : (q + 1) * m ≤ i * n + m - 1 = (le-div_iff_mul-le pm).0 (omega (arith, lt)) in
    (div-lt_iff_lt-mul pn).1 (omega (arith, near, times_more q m, pm))

from_first : (n m i q : ℕ) → 0 < m → 0 < n → (i * n + m - 1) / m ≤ q → i ≤ q * m / n
from_first n m i q pm pn le =
    let near : i * n + m - 1 < (q + 1) * m = (div-lt_iff_lt-mul pm).0 (omega (arith, le)) in
    (le-div_iff_mul-le pn).1 (omega (arith, near, times_more q m, pm))

unequal : (a b : ℕ) → a < b → (a == b) ≡ false
unequal a b lt = grind (arith, nat_tests, lt)

unequal_above : (a b : ℕ) → b < a → (a == b) ≡ false
unequal_above a b lt = grind (arith, nat_tests, lt)

equal_between : (a b : ℕ) → b ≤ a → a < b + 1 → (a == b) ≡ true
equal_between a b le lt = grind (arith, nat_tests, le, lt)

-- what a bound of a share times the number of shares is, but for less than one share
bound_low : (x m : ℕ) → 0 < m → (x + m - 1) / m * m < x + m
bound_low x m pm = omega (arith, div-mul-le_self (x + m - 1) m, pm)

bound_high : (x m : ℕ) → 0 < m → x ≤ (x + m - 1) / m * m
bound_high x m pm =
    let over : x + m - 1 < (x + m - 1) / m * m + m = lt-div-mul-add pm in
    omega (arith, over, pm)

within_all : (n m i : ℕ) → 0 < m → i < m → ((i + 1) * n + m - 1) / m ≤ n
within_all n m i pm more =
    let all : (i + 1) * n ≤ n * m = subst (λ (x : ℕ). (i + 1) * n ≤ x) (mul_comm m n) (mul-le-mul_right n (omega (arith, more))) in
    let less : ((i + 1) * n + m - 1) / m < n + 1 = (div-lt_iff_lt-mul pm).1 (omega (arith, all, times_more n m, pm)) in
    omega (arith, less)

-- two bounds that are near n apart, times the number of shares, are near the even share apart
few_apart : (n m lo more : ℕ) → 0 < m → (lo + more) * m < lo * m + n + m → more ≤ n / m + 1
few_apart n m lo more pm near =
    let apart : more * m < n + m = omega (arith, near, add-mul lo more m) in
    let all : n < n / m * m + m = lt-div-mul-add pm in
    let below : more * m < (n / m + 1 + 1) * m = omega (arith, apart, all, times_more (n / m) m, times_more (n / m + 1) m) in
    omega (arith, lt_of_mul-lt-mul_right m below)

many_apart : (n m lo more : ℕ) → 0 < m → lo * m + n < (lo + more) * m + m → n / m ≤ more
many_apart n m lo more pm near =
    let apart : n < more * m + m = omega (arith, near, add-mul lo more m) in
    let all : n / m * m ≤ n = div-mul-le_self n m in
    let below : n / m * m < (more + 1) * m = omega (arith, apart, all, times_more more m) in
    omega (arith, lt_of_mul-lt-mul_right m below)

counted : (n m i : ℕ) → 0 < n → i < m → how_many (λ q. share_at n m q == i) n ≡ ((i + 1) * n + m - 1) / m - (i * n + m - 1) / m
counted n m i pn more =
    let pm : 0 < m = omega (arith, more) in
    let rises : (i * n + m - 1) / m ≤ ((i + 1) * n + m - 1) / m = div_rises m (i * n + m - 1) ((i + 1) * n + m - 1) pm (omega (arith, one_more i n)) in
    let count = count_between (λ q. share_at n m q == i) ((i * n + m - 1) / m) (((i + 1) * n + m - 1) / m) n rises
    (λ q lt. unequal (q * m / n) i (below_first n m i q pm pn lt))
    (λ q ge lt. equal_between (q * m / n) i (from_first n m i q pm pn ge) (below_first n m (i + 1) q pm pn lt))
    (λ q ge. unequal_above (q * m / n) i (omega (arith, from_first n m (i + 1) q pm pn ge))) in
    omega (arith, count, rises, within_all n m i pm more)

even : (n m lo hi x : ℕ) → 0 < m → lo ≤ hi → x ≤ lo * m → lo * m < x + m → x + n ≤ hi * m → hi * m < x + n + m → (n / m ≤ hi - lo) × (hi - lo ≤ n / m + 1)
even n m lo hi x pm rises low low' high high' =
    let same : lo + (hi - lo) ≡ hi = omega (arith, rises) in
    let times : (lo + (hi - lo)) * m ≡ hi * m = ap (λ (h : ℕ). h * m) same in
    (many_apart n m lo (hi - lo) pm (omega (arith, times, low', high)), few_apart n m lo (hi - lo) pm (omega (arith, times, low, high')))

pub shares_even : (n m i : ℕ) → 0 < n → i < m
    → (n / m ≤ how_many (λ q. share_at n m q == i) n) × (how_many (λ q. share_at n m q == i) n ≤ n / m + 1)
shares_even n m i pn more =
    let pm : 0 < m = omega (arith, more) in
    let rises : (i * n + m - 1) / m ≤ ((i + 1) * n + m - 1) / m = div_rises m (i * n + m - 1) ((i + 1) * n + m - 1) pm (omega (arith, one_more i n)) in
    let is = even n m ((i * n + m - 1) / m) (((i + 1) * n + m - 1) / m) (i * n) pm rises (bound_high (i * n) m pm) (bound_low (i * n) m pm)
    (omega (arith, bound_high ((i + 1) * n) m pm, one_more i n)) (omega (arith, bound_low ((i + 1) * n) m pm, one_more i n)) in
    subst (λ (count : ℕ). (n / m ≤ count) × (count ≤ n / m + 1)) (sym (counted n m i pn more)) is
