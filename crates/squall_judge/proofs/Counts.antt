-- Lists of counts, one for each log.
use Rattle.std.proofs.Common.{◌≡◌, ℕ, zero, suc, ◌+◌, ◌<◌, ◌≤◌, List, [], ◌∷◌, length, set, Some, refl, arith}
use Rattle.std.specs.List.{slice_get}

-- all of them together
abbrev pub total : List ℕ → ℕ
total [] = 0
total (n ∷ ns) = n + total ns

same_inside : (n k : ℕ) → Some n ≡ Some k → n ≡ k
same_inside n k e = cc

pub total_set : (ns : List ℕ) (i n m : ℕ) → slice_get ns i ≡ Some n → total (set ns i m) + n ≡ total ns + m
total_set [] i n m at = absurd (cc)
total_set (k ∷ ks) zero n m at = let same = same_inside k n at in omega (arith, same)
total_set (k ∷ ks) (suc i) n m at = let more = total_set ks i n m at in omega (arith, more)

pub total_most : (ns ks : List ℕ) → length ns ≡ length ks → ((i n k : ℕ) → slice_get ns i ≡ Some n → slice_get ks i ≡ Some k → n ≤ k) → total ns ≤ total ks
total_most [] ks same most = omega arith
total_most (n ∷ ns) [] same most = absurd (cc)
total_most (n ∷ ns) (k ∷ ks) same most =
    let here = most 0 n k refl refl in
    let more = total_most ns ks (tail same) (λ i. most (suc i)) in
    omega (arith, here, more)
  where
    tail : suc (length ns) ≡ suc (length ks) → length ns ≡ length ks
    tail e = omega (arith, e)

pub total_less : (ns ks : List ℕ) (i n k : ℕ) → length ns ≡ length ks → ((j m l : ℕ) → slice_get ns j ≡ Some m → slice_get ks j ≡ Some l → m ≤ l) → slice_get ns i ≡ Some n → slice_get ks i ≡ Some k → n < k → total ns < total ks
total_less [] ks i n k same most at there less = absurd (cc)
total_less (m ∷ ns) [] i n k same most at there less = absurd (cc)
total_less (m ∷ ns) (l ∷ ks) zero n k same most at there less =
    let here = same_inside m n at in
    let also = same_inside l k there in
    let more = total_most ns ks (omega (arith, same)) (λ j. most (suc j)) in
    omega (arith, here, also, more, less)
total_less (m ∷ ns) (l ∷ ks) (suc i) n k same most at there less =
    let here = most 0 m l refl refl in
    let more = total_less ns ks i n k (omega (arith, same)) (λ j. most (suc j)) at there less in
    omega (arith, here, more)
