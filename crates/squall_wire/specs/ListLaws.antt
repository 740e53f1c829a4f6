-- The two laws of a reader: what is read is spelled so, and what is spelled so is read. They hold of a list if they hold of its
-- items (this project's form).
use Rattle.std.proofs.Common.{◌≡◌, ℕ, zero, suc, Bool, true, nat_le, List, [], ◌∷◌, ◌++◌, length, Ok, refl, sym, ap, subst, ◌∙◌, append_assoc, arith, inl, inr}
use Rattle.std.specs.Prelude.{◌⊎◌}
use Rattle.std.specs.List.{flat_map}
use Rattle.std.specs.Int.{w32}
use Rattle.std.proofs.lemmas.Bool.Decides.{nat_tests}
use Rattle.std.proofs.lemmas.List.Concat.{flat_map-cons}
use Rattle.squall_wire.specs.Limits.{AreInTurn, AreListed}
use Rattle.squall_wire.specs.Spelling.{word, spell_list, spell_some}
use Rattle.squall_wire.specs.Messages.{version_with}
use Rattle.squall_wire.specs.Reading.{◌>>=◌, Read, number_at, checked, many_at, list_at, some_at, second_at}
use Rattle.squall_wire.specs.FieldLaws.{IsBytes, Takes, Takes-none, Takes-then, bind_ok, bind_from, ok_is, test_ok, word_takes, word_again}

-- a reader of items at the point of a list
pub record IsItem {S X : Type 0} (read : S → List ℕ → Read X) (spelling : X → List ℕ) (Fits : S → X → Type 0) : Type 0 where
  pub takes : (s : S) (bytes : List ℕ) (x : X × List ℕ) → IsBytes bytes → read s bytes ≡ Ok x → Takes bytes (spelling x.0) x.1 × Fits s x.0
  pub again : (s : S) (x : X) (rest : List ℕ) → Fits s x → read s (spelling x ++ rest) ≡ Ok (x, rest)

-- as many items are read as are asked for
pub many_count : {S X : Type 0} (read : S → List ℕ → Read X) (next : S → X → S) (n : ℕ) (s : S) (bytes : List ℕ) (x : List X × List ℕ) → many_at read next n s bytes ≡ Ok x → length x.0 ≡ n
unfolding many_at
many_count {S} {X} read next zero s bytes x e = sym (ap (λ (y : List X × List ℕ). length y.0) (ok_is ([], bytes) x e))
many_count {S} {X} read next (suc n) s bytes x e =
    let a = bind_ok (read s bytes) (λ first. many_at read next n (next s first.0) first.1 >>= λ others. Ok (first.0 ∷ others.0, others.1)) x e in
    let b = bind_ok (many_at read next n (next s a.0.0) a.0.1) (λ others. Ok (a.0.0 ∷ others.0, others.1)) x a.2 in
    let made : List X × List ℕ = (a.0.0 ∷ b.0.0, b.0.1) in
    sym (ap (λ (y : List X × List ℕ). length y.0) (ok_is made x b.2)) ∙ ap suc (many_count read next n (next s a.0.0) a.0.1 b.0 b.1)

module _ {S X : Type 0} (read : S → List ℕ → Read X) (next : S → X → S) (spelling : X → List ℕ) (Fits : S → X → Type 0) (item : IsItem read spelling Fits) where
  abbrev first_step : ℕ → S → X × List ℕ → Read (List X)
  first_step n s first = many_at read next n (next s first.0) first.1 >>= λ others. Ok (first.0 ∷ others.0, others.1)

  abbrev others_step : X → List X × List ℕ → Read (List X)
  others_step x others = Ok (x ∷ others.0, others.1)

  pub many_takes : (n : ℕ) (s : S) (bytes : List ℕ) (x : List X × List ℕ) → IsBytes bytes → many_at read next n s bytes ≡ Ok x → Takes bytes (flat_map spelling x.0) x.1 × (length x.0 ≡ n) × AreInTurn Fits next s x.0
  unfolding many_at
  many_takes zero s bytes x fits e =
      subst (λ (y : List X × List ℕ). Takes bytes (flat_map spelling y.0) y.1 × (length y.0 ≡ 0) × AreInTurn Fits next s y.0) (ok_is ([], bytes) x e) (Takes-none bytes fits, refl, tt)
  many_takes (suc n) s bytes x fits e =
      let a = bind_ok (read s bytes) (first_step n s) x e in
      let b = bind_ok (many_at read next n (next s a.0.0) a.0.1) (others_step a.0.0) x a.2 in
      let first = item.takes s bytes a.0 fits a.1 in
      let second = many_takes n (next s a.0.0) a.0.1 b.0 first.0.rest_fits b.1 in
      let both = Takes-then bytes (spelling a.0.0) a.0.1 (flat_map spelling b.0.0) b.0.1 first.0 second.0 in
      let made : List X × List ℕ = (a.0.0 ∷ b.0.0, b.0.1) in
      subst (λ (y : List X × List ℕ). Takes bytes (flat_map spelling y.0) y.1 × (length y.0 ≡ suc n) × AreInTurn Fits next s y.0) (ok_is made x b.2) (rw flat_map-cons both, ap suc second.1, (first.1, second.2))

  pub many_again : (s : S) (xs : List X) (rest : List ℕ) → AreInTurn Fits next s xs → many_at read next (length xs) s (flat_map spelling xs ++ rest) ≡ Ok (xs, rest)
  unfolding many_at
  many_again s [] rest fits = refl
  many_again s (x ∷ xs) rest fits =
      let tail : List ℕ = flat_map spelling xs ++ rest in
      let regrouped : flat_map spelling (x ∷ xs) ++ rest ≡ spelling x ++ tail = ap (λ (t : List ℕ). t ++ rest) (flat_map-cons spelling x xs) ∙ append_assoc (spelling x) (flat_map spelling xs) rest in
      ap (many_at read next (suc (length xs)) s) regrouped
      ∙ bind_from (read s (spelling x ++ tail)) (first_step (length xs) s) (x, tail) (Ok (x ∷ xs, rest)) (item.again s x tail fits.0)
      (bind_from (many_at read next (length xs) (next s x) tail) (others_step x) (xs, rest) (Ok (x ∷ xs, rest)) (many_again (next s x) xs rest fits.1) refl)

  counted_takes : (s : S) (bytes : List ℕ) (n : ℕ × List ℕ) (x : List X × List ℕ) → IsBytes bytes → number_at w32 bytes ≡ Ok n → many_at read next n.0 s n.1 ≡ Ok x → Takes bytes (spell_list spelling x.0) x.1 × (length x.0 ≡ n.0) × AreListed Fits next s x.0
  counted_takes s bytes n x fits e f =
      let t = word_takes bytes n fits e in
      let m = many_takes n.0 s n.1 x t.0.rest_fits f in
      let both = Takes-then bytes (word n.0) n.1 (flat_map spelling x.0) x.1 t.0 m.0 in
      (subst (λ (k : ℕ). Takes bytes (word k ++ flat_map spelling x.0) x.1) (sym m.1) both, m.1, record { count = omega (arith, t.1, m.1); turn = m.2 })

  pub list_item : IsItem (list_at read next) (spell_list spelling) (AreListed Fits next)
  unfolding list_at
  list_item = record {
    takes = λ s bytes x fits e.
        let a = bind_ok (number_at w32 bytes) (λ n. many_at read next n.0 s n.1) x e in
        let t = counted_takes s bytes a.0 x fits a.1 a.2 in
        (t.0, t.2);
    again = λ s xs rest fits.
        let tail : List ℕ = flat_map spelling xs ++ rest in
        ap (list_at read next s) (append_assoc (word (length xs)) (flat_map spelling xs) rest)
        ∙ bind_from (number_at w32 (word (length xs) ++ tail)) (λ n. many_at read next n.0 s n.1) (length xs, tail) (Ok (xs, rest)) (word_again (length xs) tail fits.count) (many_again s xs rest fits.turn);
  }

  -- ---- lists of the second version

  some_spelled : (xs : List X) (n : ℕ) → length xs ≡ n → nat_le 1 n ≡ true → (spell_list spelling xs ≡ spell_some spelling xs) × (version_with xs ≡ 2)
  some_spelled [] n e h = absurd (let no : nat_le 1 0 ≡ true = subst (λ (k : ℕ). nat_le 1 k ≡ true) (sym e) h in cc)
  some_spelled (x ∷ xs) n e h = (refl, refl)

  pub some_takes : (s : S) (bytes : List ℕ) (x : List X × List ℕ) → IsBytes bytes → some_at read next s bytes ≡ Ok x → Takes bytes (spell_some spelling x.0) x.1 × AreListed Fits next s x.0 × (version_with x.0 ≡ 2)
  unfolding some_at
  some_takes s bytes x fits e =
      let a = bind_ok (number_at w32 bytes) (λ n. checked (nat_le 1 n.0) true n >>= λ counted. many_at read next counted.0 s counted.1) x e in
      let b = test_ok (nat_le 1 a.0.0) a.0 (λ counted. many_at read next counted.0 s counted.1) x a.2 in
      let t = counted_takes s bytes a.0 x fits a.1 b.1 in
      let some = some_spelled x.0 a.0.0 t.1 b.0 in
      (subst (λ (text : List ℕ). Takes bytes text x.1) some.0 t.0, t.2, some.1)

  pub some_again : (s : S) (x : X) (xs : List X) (rest : List ℕ) → AreListed Fits next s (x ∷ xs) → some_at read next s (spell_list spelling (x ∷ xs) ++ rest) ≡ Ok (x ∷ xs, rest)
  unfolding some_at
  some_again s x xs rest fits =
      let tail : List ℕ = flat_map spelling (x ∷ xs) ++ rest in
      let n : ℕ = length (x ∷ xs) in
      ap (some_at read next s) (append_assoc (word n) (flat_map spelling (x ∷ xs)) rest)
      ∙ bind_from (number_at w32 (word n ++ tail)) (λ n. checked (nat_le 1 n.0) true n >>= λ counted. many_at read next counted.0 s counted.1) (n, tail) (Ok (x ∷ xs, rest)) (word_again n tail fits.count)
      (bind_from (checked (nat_le 1 n) true (n, tail)) (λ counted. many_at read next counted.0 s counted.1) (n, tail) (Ok (x ∷ xs, rest)) (some_checked (length xs) (n, tail)) (many_again s (x ∷ xs) rest fits.turn))
    where
      some_checked : (k : ℕ) (y : ℕ × List ℕ) → checked (nat_le 1 (suc k)) true y ≡ Ok y
      some_checked k y =
          let one : nat_le 1 (suc k) ≡ true = grind (arith, nat_tests) in
          ap (λ (b : Bool). checked b true y) one

  pub second_takes : (version : ℕ) (s : S) (bytes : List ℕ) (x : List X × List ℕ) → (version ≡ 1) ⊎ (version ≡ 2) → IsBytes bytes → second_at version read next s bytes ≡ Ok x → Takes bytes (spell_some spelling x.0) x.1 × AreListed Fits next s x.0 × (version ≡ version_with x.0)
  second_takes version s bytes x (inl one) fits e =
      let same : ([], bytes) ≡ x = ok_is ([], bytes) x (rw one at e) in
      subst (λ (y : List X × List ℕ). Takes bytes (spell_some spelling y.0) y.1 × AreListed Fits next s y.0 × (version ≡ version_with y.0)) same (Takes-none bytes fits, record { count = omega arith; turn = tt }, one)
  second_takes version s bytes x (inr two) fits e =
      let t = some_takes s bytes x fits (rw two at e) in
      (t.0, t.1, two ∙ sym t.2)

  pub second_again : (s : S) (xs : List X) (rest : List ℕ) → AreListed Fits next s xs → second_at (version_with xs) read next s (spell_some spelling xs ++ rest) ≡ Ok (xs, rest)
  second_again s [] rest fits = refl
  second_again s (x ∷ xs) rest fits = some_again s x xs rest fits
