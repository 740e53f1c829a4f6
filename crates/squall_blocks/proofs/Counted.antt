-- How many entries are in blocks.
use Rattle.std.proofs.Common.{◌≡◌, ℕ, zero, suc, ◌+◌, ◌-◌, ◌<◌, ◌≤◌, List, [], ◌∷◌, length, get_or, take, refl, sym, ap, subst, ◌∙◌, arith, length-append, None, Some}
use Rattle.std.specs.Prelude.{slice_index, slice_get}
use Rattle.squall_blocks.specs.Entries.{RiseFrom, last_from}
use Rattle.squall_blocks.specs.Blocks.{flat, lasts_of, AreFull, AreBlocks}
use Rattle.squall_blocks.specs.EntriesLaws.{last_any, last_append}
use Rattle.squall_blocks.proofs.Blocked.{lasts_at, length-lasts_of}

-- ends that rise are no more than the numbers up to the last
within : {V : Type 0} (b : ℕ) (es : List (ℕ × V)) → RiseFrom b es → b + length es ≤ last_from b es
within b [] r = omega arith
within b (e ∷ es) r = let next = within e.0 es r.1 in omega (arith, next, r.0)

last_block : {V : Type 0} (b n : ℕ) (bs : List (List (ℕ × V))) → AreFull bs → length bs ≡ suc n → last_from b (flat bs) ≡ last_from 0 (get_or bs n [])
last_block b n [] f e = absurd (omega arith)
last_block b zero (x ∷ []) f e = last_append b x [] ∙ last_any b 0 x f.0
last_block b (suc n) (x ∷ []) f e = absurd (omega arith)
last_block b zero (x ∷ y ∷ bs) f e = absurd (omega arith)
last_block b (suc n) (x ∷ y ∷ bs) f e = last_append b x (flat (y ∷ bs)) ∙ last_block (last_from b x) n (y ∷ bs) f.2 (omega arith)

-- the entries are no more than the bound at which the last block ends
pub few_entries : {V : Type 0} (n : ℕ) (ls : List ℕ) (bs : List (List (ℕ × V))) → AreBlocks ls bs → length bs ≡ suc n → length (flat bs) ≤ slice_index ls n
few_entries n ls bs a e =
    let some = within 0 (flat bs) a.rise in
    let last = last_block 0 n bs a.full e in
    let at : slice_index ls n ≡ last_from 0 (get_or bs n []) = ap (λ l. slice_index l n) a.lasts ∙ lasts_at bs n in
    omega (arith, some, last, at)

-- one block more
pub counted_more : {V : Type 0} (bs : List (List (ℕ × V))) (i : ℕ) → i < length bs → length (flat (take (suc i) bs)) ≡ length (flat (take i bs)) + length (get_or bs i [])
counted_more [] i lt = absurd (omega arith)
counted_more (b ∷ bs) zero lt = length-append b [] ∙ (let e : length b + 0 ≡ 0 + length b = omega arith in e)
counted_more (b ∷ bs) (suc i) lt =
    let next = counted_more bs i (omega arith) in
    let here = length-append b (flat (take (suc i) bs)) in
    let there = length-append b (flat (take i bs)) in
    omega (arith, next, here, there)

pub counted_part : {V : Type 0} (bs : List (List (ℕ × V))) (i : ℕ) → length (flat (take i bs)) ≤ length (flat bs)
counted_part bs zero = omega arith
counted_part [] (suc i) = omega arith
counted_part (b ∷ bs) (suc i) =
    let next = counted_part bs i in
    let here = length-append b (flat (take i bs)) in
    let all = length-append b (flat bs) in
    omega (arith, next, here, all)

last_there : {A : Type 0} (x : A) (xs : List A) → slice_get (x ∷ xs) (length xs) ≡ None → ⊥
last_there x [] e = cc
last_there x (y ∷ ys) e = last_there y ys e

-- no block
pub no_entries : {V : Type 0} (ls read : List ℕ) (bs : List (List (ℕ × V))) → AreBlocks ls bs → read ≡ ls → slice_get read (length read - 1) ≡ None → 0 ≡ length (flat bs)
no_entries ls read [] a e none = refl
no_entries ls read (b ∷ bs) a e none =
    let is : read ≡ last_from 0 b ∷ lasts_of bs = e ∙ a.lasts in
    let n : length (last_from 0 b ∷ lasts_of bs) - 1 ≡ length (lasts_of bs) = omega arith in
    absurd (last_there (last_from 0 b) (lasts_of bs) (ap (slice_get (last_from 0 b ∷ lasts_of bs)) (sym n) ∙ subst (λ l. slice_get l (length l - 1) ≡ None) is none))

last_read : (ls : List ℕ) (x : ℕ) → slice_get ls (length ls - 1) ≡ Some x → x ≡ slice_index ls (length ls - 1)
last_read ls x e = slice_index_from ls (length ls - 1) x e
  where
    slice_index_from : (xs : List ℕ) (i x : ℕ) → slice_get xs i ≡ Some x → x ≡ slice_index xs i
    slice_index_from [] i x e = absurd cc
    slice_index_from (y ∷ ys) zero x e = cc
    slice_index_from (y ∷ ys) (suc i) x e = slice_index_from ys i x e

-- the entries are no more than the last bound
pub few_by_last : {V : Type 0} (ls read : List ℕ) (bs : List (List (ℕ × V))) (x : ℕ) → AreBlocks ls bs → read ≡ ls → slice_get read (length read - 1) ≡ Some x → length (flat bs) ≤ x
few_by_last ls read [] x a e some = omega arith
few_by_last ls read (b ∷ bs) x a e some =
    let got : slice_get ls (length ls - 1) ≡ Some x = subst (λ l. slice_get l (length l - 1) ≡ Some x) e some in
    let n : length ls - 1 ≡ length bs = omega (arith, ap length a.lasts, length-lasts_of (b ∷ bs)) in
    let few = few_entries (length bs) ls (b ∷ bs) a refl in
    let at = last_read ls x got ∙ ap (slice_index ls) n in
    omega (arith, few, at)
