-- Columns of an axis, and how wide they are.
use Rattle.std.proofs.Common.{◌≡◌, ℕ, ◌+◌, ◌-◌, ◌*◌, ◌/◌, ◌^◌, ◌<◌, ◌≤◌, Bool, true, false, cond, List, [], ◌∷◌, length, refl, sym, ap, subst, ◌∙◌, arith}
use Rattle.std.specs.Prelude.{max, nat_lt}
use Rattle.std.proofs.lemmas.Bool.{true≢false}
use Rattle.std.proofs.lemmas.Bool.Decides.{nat_tests}
use Rattle.std.proofs.lemmas.List.Sums.{count_by-le-length, sum_by-cons}
use Rattle.std.proofs.lemmas.Nat.{mul-le}
use Rattle.std.proofs.Math.Nat.{add-mul, mul-add, div-mul-le_self}
use Rattle.squall_key.specs.Keys.{top}
use Rattle.squall_span.specs.Spans.{Interval}
use Rattle.squall_plan.specs.declared.range.PlanRange.{PlanRange}
use Rattle.squall_plan.specs.Ranges.{IsTiling}
use Rattle.squall_picture.specs.Scale.{column, columns, unit_of, x_of, width_of}
use Rattle.squall_picture.specs.Rows.{AreSideBySide}

-- ---- columns

-- one more of the bounds
column_more : (t : ℕ) (ts : List ℕ) (b : ℕ) → column (t ∷ ts) b ≡ cond (nat_lt t b) 1 0 + column ts b
column_more t ts b = sum_by-cons (λ u. cond (nat_lt u b) 1 0) t ts

-- what lies below a bound lies below each bound from there on
below_too : (t a b : ℕ) → a ≤ b → nat_lt t a ≡ true → nat_lt t b ≡ true
below_too t a b le e = grind (arith, nat_tests)

one_more : (p q : Bool) (x y : ℕ) → (p ≡ true → q ≡ true) → x ≤ y → cond p 1 0 + x ≤ cond q 1 0 + y
one_more true true x y f le = omega arith
one_more true false x y f le = absurd (true≢false (sym (f refl)))
one_more false true x y f le = omega arith
one_more false false x y f le = omega arith

-- a bound further on has no fewer columns to its left
pub column_rises : (ts : List ℕ) (a b : ℕ) → a ≤ b → column ts a ≤ column ts b
column_rises [] a b le = omega arith
column_rises (t ∷ ts) a b le =
    let more = one_more (nat_lt t a) (nat_lt t b) (column ts a) (column ts b) (below_too t a b le) (column_rises ts a b le) in
    omega (arith, more, column_more t ts a, column_more t ts b)

none_below : (t : ℕ) → nat_lt t 0 ≡ false
none_below t = grind (arith, nat_tests)

-- the least bound has none
no_column : (ts : List ℕ) → column ts 0 ≡ 0
no_column [] = refl
no_column (t ∷ ts) =
    let rest = no_column ts in
    column_more t ts 0 ∙ ap (λ p. cond p 1 0 + column ts 0) (none_below t) ∙ omega (arith, rest)

-- ---- lengths

unit_upto : (q c n : ℕ) → q * max c 1 ≤ 960 → n ≤ c → max q 1 * n ≤ 960 + c
unit_upto q c n le few =
    let all = mul-le (max q 1) n (1 + q) c (omega arith) few in
    let part = mul-le q c q (max c 1) (omega arith) (omega arith) in
    let split = add-mul 1 q c in
    let one : 1 * c ≡ c = omega arith in
    omega (arith, all, part, split, one, le)

-- that many columns are no wider than this
units_few : (ts : List ℕ) (n : ℕ) → n ≤ columns ts → unit_of ts * n ≤ 960 + columns ts
units_few ts n few = unit_upto (960 / max (columns ts) 1) (columns ts) n (div-mul-le_self 960 (max (columns ts) 1)) few

columns_few : (ts : List ℕ) → columns ts ≤ length ts
columns_few ts = count_by-le-length (λ t. nat_lt t top) ts

-- and no wider than a word holds, since a list has fewer bounds
pub wide_few : (ts : List ℕ) (unit n : ℕ) → unit ≡ unit_of ts → n ≤ columns ts → length ts < 2 ^ 63 → unit * n ≤ 2 ^ 63 + 960
wide_few ts unit n is few short =
    let same = ap (λ u. u * n) is in
    omega (arith, same, units_few ts n few, columns_few ts, short)

-- ---- bars side by side

parts : (u a b : ℕ) → a ≤ b → 96 + u * a + u * (b - a) ≡ 96 + u * b
parts u a b le =
    let whole : a + (b - a) ≡ b = omega arith in
    let split = mul-add u a (b - a) in
    let all = ap (λ n. u * n) whole in
    omega (arith, split, all)

-- a span ends where its bar does
ends_there : (ts : List ℕ) (s : Interval) → s.lo < s.hi → x_of ts s.lo + width_of ts s ≡ x_of ts s.hi
ends_there ts s lt = parts (unit_of ts) (column ts s.lo) (column ts s.hi) (column_rises ts s.lo s.hi (omega (arith, lt)))

-- a tiling is a row of bars
tiled : (ts : List ℕ) (from to : ℕ) (rs : List PlanRange) → IsTiling from to rs → AreSideBySide ts (x_of ts from) (x_of ts to) rs
tiled ts from to [] same = ap (x_of ts) same
tiled ts from to (r ∷ rs) t =
    let next : x_of ts from + width_of ts r.span ≡ x_of ts r.span.hi = ap (λ b. x_of ts b + width_of ts r.span) (sym t.0) ∙ ends_there ts r.span t.1 in
    (ap (x_of ts) t.0, subst (λ x. AreSideBySide ts x (x_of ts to) rs) (sym next) (tiled ts r.span.hi to rs t.2))

first_place : (u n : ℕ) → n ≡ 0 → 96 + u * n ≡ 96
first_place u n e = ap (λ m. 96 + u * m) e ∙ omega arith

-- from one end of the axis to the other
pub tiled_axis : (ts : List ℕ) (rs : List PlanRange) → IsTiling 0 top rs → AreSideBySide ts 96 (x_of ts top) rs
tiled_axis ts rs is = subst (λ x. AreSideBySide ts x (x_of ts top) rs) (first_place (unit_of ts) (column ts 0) (no_column ts)) (tiled ts 0 top rs is)
