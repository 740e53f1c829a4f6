-- How much of a band is filled.
use Rattle.std.proofs.Common.{◌≡◌, ℕ, ◌+◌, ◌*◌, ◌<◌, ◌≤◌, ap, arith, inl, inr}
use Rattle.std.specs.Prelude.{max, ◌↔◌}
use Rattle.std.proofs.lemmas.Bool.{cases_lt}
use Rattle.std.proofs.lemmas.Nat.{mul-le, le-div, div_below}
use Rattle.std.proofs.Math.Nat.{mul-add, div-le_of_le-mul, mul_comm}
use Rattle.squall_picture.specs.Scale.{filled}

-- no more than the whole
pub share_most : (w l k : ℕ) → l ≤ k → filled w l k ≤ w
share_most w l k le =
    let all = mul-le w l w (max k 1) (omega arith) (omega (arith, le)) in
    let turned = mul_comm w (max k 1) in
    div-le_of_le-mul (max k 1) (omega (arith, all, turned))

-- the whole, of all keys
share_all : (w k : ℕ) → 0 < k → w ≤ filled w k k
share_all w k some =
    let same : max k 1 ≡ k = omega (arith, some) in
    let all = ap (λ n. w * n) same in
    le-div w (w * k) (max k 1) (omega (arith, some)) (omega (arith, all))

-- less, of fewer
share_less : (w l k : ℕ) → 0 < w → l < k → filled w l k < w
share_less w l k some lt =
    let more = mul-le w (l + 1) w (max k 1) (omega arith) (omega (arith, lt)) in
    let split = mul-add w l 1 in
    let one : w * 1 ≡ w = omega arith in
    div_below (w * l) (max k 1) w (omega (arith, lt)) (omega (arith, more, split, one, some))

whole_loaded : (w l k : ℕ) → 0 < w → l ≤ k → filled w l k ≡ w → l ≡ k
whole_loaded w l k some le e = elim (cases_lt l k) [
  | inl lt ↦ absurd (omega (arith, share_less w l k some lt, e))
  | inr ge ↦ omega (arith, le, ge)
]

loaded_whole : (w l k : ℕ) → 0 < k → l ≡ k → filled w l k ≡ w
loaded_whole w l k some e =
    let same = ap (λ n. filled w n k) e in
    omega (arith, same, share_all w k some, share_most w k k (omega arith))

-- the whole exactly if all keys are loaded
pub share_whole : (w l k : ℕ) → 0 < w → 0 < k → l ≤ k → (filled w l k ≡ w) ↔ (l ≡ k)
share_whole w l k wide some le = (whole_loaded w l k wide le, loaded_whole w l k some)

none_upto : (w k : ℕ) → filled w 0 k ≤ 0
none_upto w k = div-le_of_le-mul (max k 1) (omega arith)

-- nothing of no keys
pub share_none : (w k : ℕ) → filled w 0 k ≡ 0
share_none w k = let upto = none_upto w k in omega (arith, upto)
