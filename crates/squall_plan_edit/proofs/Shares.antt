-- How keys are shared: the keys from one of a share on, up to the end of the share, are in that share.
use Rattle.std.proofs.Common.{◌≡◌, ℕ, ◌<◌, ◌≤◌, ◌+◌, ◌-◌, ◌*◌, ◌/◌, ◌%◌, ◌^◌, Bool, true, false, List, length, refl, sym, ap, ◌∙◌, subst, arith, inl, inr}
use Rattle.std.specs.Prelude.{◌==◌, nat_lt, slice_index_or}
use Rattle.std.proofs.Math.Nat.{div-lt_iff_lt-mul, le-div_iff_mul-le, div-mul-le_self, lt-div-mul-add, mul-le-mul_right, mul-lt-mul_of_pos_right, add-mul, div-one, mul_comm}
use Rattle.std.proofs.lemmas.Nat.{div-add-mod'}
use Rattle.std.proofs.lemmas.Bool.{cases_Bool, cases_lt, false≢true}
use Rattle.std.proofs.lemmas.Bool.Decides.{nat_tests}
use Rattle.squall_key.specs.Lemmas.{same_number}
use Rattle.squall_key.specs.Keys.{top, part_limit, second_of}
use Rattle.squall_span.specs.Spans.{Interval, interval}
use Rattle.squall_plan_edit.specs.Legs.{IsLeg}
use Rattle.squall_plan_edit.specs.Shares.{unit_of, units_below, share_of, share_end, end_of, owner_shared}
use Rattle.squall_plan_edit.proofs.Legs.{equal_parts}

-- ---- units

unit_some : (below : ℕ) → 0 < unit_of below
unit_some below = elim (cases_Bool (second_of below == 0)) [
  | inl is ↦ rw is (omega arith)
  | inr is ↦ rw is (omega arith)
]

no_rest : (n u : ℕ) → n % u ≡ 0 → n / u * u ≡ n
no_rest n u none = omega (arith, div-add-mod' n u, none)

by_one : (n : ℕ) → n / 1 * 1 ≡ n
by_one n = omega (arith, div-one n)

-- the units below the bound are all keys below it
whole : (below : ℕ) → units_below below * unit_of below ≡ below
whole below = elim (cases_Bool (second_of below == 0)) [
  | inl is ↦ rw is (no_rest below (2 ^ 32) (same_number (second_of below) 0 is))
  | inr is ↦ rw is (by_one below)
]

unit_below : (below k : ℕ) → k < below → k / unit_of below < units_below below
unit_below below k low = (div-lt_iff_lt-mul (unit_some below)).1 (subst (λ (n : ℕ). k < n) (sym (whole below)) low)

-- ---- shares of units

within : (n m q : ℕ) → 0 < m → 0 < n → q < n → q * m / n < m
within n m q pm pn low = (div-lt_iff_lt-mul pn).1 (subst (λ (x : ℕ). q * m < x) (mul_comm n m) (mul-lt-mul_of_pos_right low pm))

pub div_rises : (u at k : ℕ) → 0 < u → at ≤ k → at / u ≤ k / u
div_rises u at k pu ge = (le-div_iff_mul-le pu).1 (omega (arith, div-mul-le_self at u, ge))

-- a later unit is in no earlier share
behind : (n u m at k i : ℕ) → 0 < u → 0 < n → i ≡ at / u * m / n → at ≤ k → i ≤ k / u * m / n
behind n u m at k i pu pn is ge =
    let from : i * n ≤ at / u * m = subst (λ (j : ℕ). j * n ≤ at / u * m) (sym is) (div-mul-le_self (at / u * m) n) in
    let rises : at / u * m ≤ k / u * m = mul-le-mul_right m (div_rises u at k pu ge) in
    (le-div_iff_mul-le pn).1 (omega (arith, from, rises))

pub one_more : (i n : ℕ) → (i + 1) * n ≡ i * n + n
one_more i n = omega (arith, add-mul i 1 n)

-- a unit below the end of a share is in no later one
ahead_of : (n u m k i : ℕ) → 0 < u → 0 < m → 0 < n → k < share_end n m i * u → k / u * m / n < i + 1
ahead_of n u m k i pu pm pn lt =
    let before : k / u < ((i + 1) * n - 1) / m + 1 = (div-lt_iff_lt-mul pu).1 lt in
    let near : k / u * m ≤ (i + 1) * n - 1 = (le-div_iff_mul-le pm).0 (omega (arith, before)) in
    (div-lt_iff_lt-mul pn).1 (omega (arith, near, one_more i n, pn))

-- the end of a share is beyond its keys
ends_beyond : (n u m at i : ℕ) → 0 < u → 0 < m → 0 < n → i ≡ at / u * m / n → at < share_end n m i * u
ends_beyond n u m at i pu pm pn is =
    let over : at / u * m < i * n + n = subst (λ (j : ℕ). at / u * m < j * n + n) (sym is) (lt-div-mul-add pn) in
    let near : at / u * m ≤ (i + 1) * n - 1 = omega (arith, over, one_more i n) in
    let at_most : at / u ≤ ((i + 1) * n - 1) / m = (le-div_iff_mul-le pm).1 near in
    (div-lt_iff_lt-mul pu).0 (omega (arith, at_most))

-- a share that is not the last one ends at the bound at most
ends_low : (n u m i : ℕ) → 0 < m → 0 < n → i + 1 ≤ m → share_end n m i * u ≤ n * u
ends_low n u m i pm pn more =
    let all : (i + 1) * n ≤ n * m = subst (λ (x : ℕ). (i + 1) * n ≤ x) (mul_comm m n) (mul-le-mul_right n more) in
    let last : ((i + 1) * n - 1) / m < n = (div-lt_iff_lt-mul pm).1 (omega (arith, all, one_more i n, pn)) in
    mul-le-mul_right u (omega (arith, last))

-- ---- shares of keys

is_low : (k below : ℕ) → k < below → nat_lt k below ≡ true
is_low k below low = grind (arith, nat_tests, low)

is_high : (k below : ℕ) → below ≤ k → nat_lt k below ≡ false
is_high k below high = grind (arith, nat_tests, high)

share_low : (below m k : ℕ) → k < below → share_of below m k ≡ k / unit_of below * m / units_below below
share_low below m k low = rw (is_low k below low) refl

share_high : (below m k : ℕ) → below ≤ k → share_of below m k ≡ m - 1
share_high below m k high = rw (is_high k below high) refl

end_last : (below m i : ℕ) → (i + 1 == m) ≡ true → end_of below m i ≡ top
end_last below m i last = rw last refl

end_inner : (below m i : ℕ) → (i + 1 == m) ≡ false → end_of below m i ≡ share_end (units_below below) m i * unit_of below
end_inner below m i inner = rw inner refl

kept_low : (below m at k i : ℕ) → 0 < m → m ≤ units_below below → at < below → i ≡ at / unit_of below * m / units_below below → at ≤ k → k < end_of below m i → share_of below m k ≡ i
kept_low below m at k i pm few low is ge lt =
    let pu = unit_some below in
    let pn : 0 < units_below below = omega (arith, pm, few) in
    let more : i < m = subst (λ (j : ℕ). j < m) (sym is) (within (units_below below) m (at / unit_of below) pm pn (unit_below below at low)) in
    let from = behind (units_below below) (unit_of below) m at k i pu pn is ge in
    elim (cases_Bool (i + 1 == m)) [
      | inl last ↦ elim (cases_lt k below) [
        | inl in' ↦
            let less = within (units_below below) m (k / unit_of below) pm pn (unit_below below k in') in
            share_low below m k in' ∙ omega (arith, from, less, same_number (i + 1) m last)
        | inr past ↦ share_high below m k past ∙ omega (arith, same_number (i + 1) m last)
      ]
      | inr inner ↦
          let reach : k < share_end (units_below below) m i * unit_of below = subst (λ (h : ℕ). k < h) (end_inner below m i inner) lt in
          let in' : k < below = omega (arith, reach, ends_low (units_below below) (unit_of below) m i pm pn (omega (arith, more)), whole below) in
          share_low below m k in' ∙ omega (arith, from, ahead_of (units_below below) (unit_of below) m k i pu pm pn reach)
    ]

share_kept : (below m at k : ℕ) → 0 < m → m ≤ units_below below → at ≤ k → k < end_of below m (share_of below m at) → share_of below m k ≡ share_of below m at
share_kept below m at k pm few ge lt = elim (cases_lt at below) [
  | inl low ↦
      let is = share_low below m at low in
      kept_low below m at k (share_of below m at) pm few low is ge lt
  | inr high ↦ share_high below m k (omega (arith, high, ge)) ∙ sym (share_high below m at high)
]

share_ahead : (below m at : ℕ) → 0 < m → m ≤ units_below below → at < top → at < end_of below m (share_of below m at)
share_ahead below m at pm few lt = elim (cases_Bool (share_of below m at + 1 == m)) [
  | inl last ↦ subst (λ (h : ℕ). at < h) (sym (end_last below m (share_of below m at) last)) lt
  | inr inner ↦ elim (cases_lt at below) [
    | inl low ↦
        subst (λ (h : ℕ). at < h) (sym (end_inner below m (share_of below m at) inner))
        (ends_beyond (units_below below) (unit_of below) m at (share_of below m at) (unit_some below) pm (omega (arith, pm, few)) (share_low below m at low))
    | inr high ↦ absurd (is_not inner (equal_parts (share_of below m at + 1) m (omega (arith, share_high below m at high, pm))))
  ]
]
  where
    is_not : {b : Bool} → b ≡ false → b ≡ true → ⊥
    is_not low high = false≢true (sym low ∙ high)

pub share_leg : (below at : ℕ) (parts : List ℕ) (hi part : ℕ) (span : Interval) → 0 < length parts → length parts ≤ units_below below → at < top → part < part_limit
    → part ≡ slice_index_or parts (share_of below (length parts) at) 0 → hi ≤ top → hi ≡ end_of below (length parts) (share_of below (length parts) at) → span ≡ interval at hi
    → IsLeg (owner_shared below parts) at (record { span = span; part = part })
share_leg below at parts hi part span some few low fits is high reach same =
    let ahead : at < hi = subst (λ (h : ℕ). at < h) (sym reach) (share_ahead below (length parts) at some few low) in
    let leg : IsLeg (owner_shared below parts) at (record { span = interval at hi; part = part }) = record {
      starts = refl;
      range = (ahead, high, fits);
      keys = λ k ge lt. ap (λ (i : ℕ). slice_index_or parts i 0) (share_kept below (length parts) at k some few ge (subst (λ (h : ℕ). k < h) reach lt)) ∙ sym is;
    } in
    subst (λ (s : Interval). IsLeg (owner_shared below parts) at (record { span = s; part = part })) (sym same) leg

pub some_span : (below at : ℕ) (parts : List ℕ) (hi : ℕ) → 0 < length parts → length parts ≤ units_below below → at < top
    → hi ≡ end_of below (length parts) (share_of below (length parts) at) → nat_lt at hi ≡ true
some_span below at parts hi some few low reach = is_low at hi (subst (λ (h : ℕ). at < h) (sym reach) (share_ahead below (length parts) at some few low))
