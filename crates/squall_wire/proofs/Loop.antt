-- Reading items one after the other, as a loop does.
use Rattle.std.proofs.Common.{◌≡◌, ℕ, suc, ◌-◌, ◌+◌, ◌≤◌, ◌<◌, List, [], ◌∷◌, ◌++◌, Ok, Err, refl, sym, ap, ◌∙◌, append_assoc, arith}
use Rattle.std.specs.Prelude.{◌≢◌}
use Rattle.std.proofs.lemmas.List.{append-nil}
use Rattle.squall_wire.specs.declared.fault.WireFault.{WireFault}
use Rattle.squall_wire.specs.declared.fault.WireFault.TheVariants.{NoMemory}
use Rattle.squall_wire.specs.Reading.{◌>>=◌, Read, many_at}

-- what was read before, and what is still read
abbrev pub with_front : {X : Type 0} → List X → Read (List X) → Read (List X)
with_front front read = read >>= λ x. Ok (front ++ x.0, x.1)

regroup : {X : Type 0} (front : List X) (x : X) (read : Read (List X)) → with_front front (read >>= λ y. Ok (x ∷ y.0, y.1)) ≡ with_front (front ++ x ∷ []) read
regroup {X} front x (Ok y) = ap (λ (xs : List X). Ok (xs, y.1)) (simp append_assoc)
regroup front x (Err f) = refl

pub goes_on : {S X : Type 0} (read : S → List ℕ → Read X) (next : S → X → S) (front : List X) (count i : ℕ) (s : S) (bytes : List ℕ) (x : X) (after : List ℕ) (total : Read (List X)) → i < count
    → read s bytes ≡ Ok (x, after) → with_front front (many_at read next (count - i) s bytes) ≡ total → with_front (front ++ x ∷ []) (many_at read next (count - (i + 1)) (next s x) after) ≡ total
unfolding many_at
goes_on read next front count i s bytes x after total lt h so_far =
    let k : count - i ≡ suc (count - (i + 1)) = omega arith in
    let one : with_front front (many_at read next (count - i) s bytes) ≡ with_front (front ++ x ∷ []) (many_at read next (count - (i + 1)) (next s x) after) = rw (k, h) (regroup front x (many_at read next (count - (i + 1)) (next s x) after)) in
    sym one ∙ so_far

pub ends : {S X : Type 0} (read : S → List ℕ → Read X) (next : S → X → S) (e : WireFault) (front : List X) (count i : ℕ) (s : S) (bytes : List ℕ) (total : Read (List X)) → i < count
    → (e ≢ NoMemory → read s bytes ≡ Err e) → with_front front (many_at read next (count - i) s bytes) ≡ total → e ≢ NoMemory → total ≡ Err e
unfolding many_at
ends read next e front count i s bytes total lt h so_far ne =
    let k : count - i ≡ suc (count - (i + 1)) = omega arith in
    let stops : read s bytes ≡ Err e = h ne in
    let one : with_front front (many_at read next (count - i) s bytes) ≡ Err e = rw (k, stops) refl in
    sym so_far ∙ one

pub is_done : {S X : Type 0} (read : S → List ℕ → Read X) (next : S → X → S) (front : List X) (count i : ℕ) (s : S) (bytes : List ℕ) (total : Read (List X)) → count ≤ i
    → with_front front (many_at read next (count - i) s bytes) ≡ total → total ≡ Ok (front, bytes)
unfolding many_at
is_done {S} {X} read next front count i s bytes total le so_far =
    let k : count - i ≡ 0 = omega arith in
    let one : with_front front (many_at read next (count - i) s bytes) ≡ Ok (front, bytes) = rw k (ap (λ (xs : List X). Ok (xs, bytes)) (append-nil front)) in
    sym so_far ∙ one
