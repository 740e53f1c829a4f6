-- Neighbours with few entries together are made one block.
use Rattle.std.proofs.Common.{◌≡◌, ℕ, zero, suc, ◌+◌, ◌<◌, ◌≤◌, List, [], ◌∷◌, ◌++◌, length, get_or, true, false, refl, sym, ap, subst, ◌∙◌, arith, if◌then◌else◌, length-append}
use Rattle.std.specs.Prelude.{nat_le, IsTrue, ◌↔◌}
use Rattle.std.proofs.lemmas.Bool.{false≢true}
use Rattle.std.specs.List.{splice}
use Rattle.std.proofs.lemmas.Bool.Decides.{nat_tests}
use Rattle.squall_blocks.specs.Blocks.{few, flat, joined_at, AreFull}

is_few : (n : ℕ) → n ≤ few → nat_le n few ≡ true
is_few n h = grind (arith, nat_tests)

not_few : (n : ℕ) → few < n → nat_le n few ≡ false
not_few n h = grind (arith, nat_tests)

-- no block is there, or none behind it
pub joined_last : {V : Type 0} (m : ℕ) (bs : List (List (ℕ × V))) → length bs ≤ m + 1 → joined_at m bs ≡ bs
joined_last zero [] le = refl
joined_last (suc m) [] le = refl
joined_last zero (b ∷ []) le = refl
joined_last zero (b ∷ c ∷ bs) le = absurd (omega arith)
joined_last (suc m) (b ∷ bs) le = ap (λ l. b ∷ l) (joined_last m bs (omega arith))

many : {V : Type 0} (m : ℕ) (bs : List (List (ℕ × V))) → m + 1 < length bs → few < length (get_or bs m []) + length (get_or bs (suc m) []) → joined_at m bs ≡ bs
many m [] lt more = absurd (omega arith)
many zero (b ∷ []) lt more = absurd (omega arith)
many zero (b ∷ c ∷ bs) lt more = ap (λ t. if t then (b ++ c) ∷ bs else b ∷ c ∷ bs) (not_few (length b + length c) more)
many (suc m) (b ∷ bs) lt more = ap (λ l. b ∷ l) (many m bs (omega arith) more)

made_one : {V : Type 0} (m : ℕ) (bs : List (List (ℕ × V))) → m + 1 < length bs → length (get_or bs m []) + length (get_or bs (suc m) []) ≤ few → splice bs m (suc (suc m)) ((get_or bs m [] ++ get_or bs (suc m) []) ∷ []) ≡ joined_at m bs
made_one m [] lt le = absurd (omega arith)
made_one zero (b ∷ []) lt le = absurd (omega arith)
made_one zero (b ∷ c ∷ bs) lt le = sym (ap (λ t. if t then (b ++ c) ∷ bs else b ∷ c ∷ bs) (is_few (length b + length c) le))
made_one (suc m) (b ∷ bs) lt le = ap (λ l. b ∷ l) (made_one m bs (omega arith) le)

-- both have many
pub joined_many : {V : Type 0} (m : ℕ) (bs : List (List (ℕ × V))) → m + 1 < length bs → few < length (get_or bs m []) + length (get_or bs (m + 1) []) → joined_at m bs ≡ bs
joined_many m bs lt more =
    let one : m + 1 ≡ suc m = omega arith in
    many m bs lt (subst (λ n. few < length (get_or bs m []) + length (get_or bs n [])) one more)

pub joined_few : {V : Type 0} (m : ℕ) (bs : List (List (ℕ × V))) → m + 1 < length bs → length (get_or bs m []) + length (get_or bs (m + 1) []) ≤ few → splice bs m (m + 2) ((get_or bs m [] ++ get_or bs (m + 1) []) ∷ []) ≡ joined_at m bs
joined_few m bs lt le =
    let one : m + 1 ≡ suc m = omega arith in
    let two : m + 2 ≡ suc (suc m) = omega arith in
    (λ j. splice bs m (two j) ((get_or bs m [] ++ get_or bs (one j) []) ∷ []))
    ∙ made_one m bs lt (subst (λ n. length (get_or bs m []) + length (get_or bs n []) ≤ few) one le)

-- ---- no entries

pub no_blocks : {V : Type 0} (bs : List (List (ℕ × V))) (es : List (ℕ × V)) → flat bs ≡ es → length bs ≡ 0 → IsTrue true ↔ (length es ≡ 0)
no_blocks [] es e z = (λ yes. sym (ap length e), λ yes. refl)
no_blocks (b ∷ bs) es e z = absurd (omega arith)

pub some_entries : {V : Type 0} (bs : List (List (ℕ × V))) (es : List (ℕ × V)) → AreFull bs → flat bs ≡ es → 0 < length bs → IsTrue false ↔ (length es ≡ 0)
some_entries [] es f e lt = absurd (omega arith)
some_entries (b ∷ bs) es f e lt = (λ no. absurd (false≢true no), λ z. (let n = ap length e in let m = length-append b (flat bs) in absurd (omega (arith, n, m, z, f.0))))
