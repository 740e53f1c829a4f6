-- What is sent of a text as messages show it.
use Rattle.std.proofs.Math.Seq.{take-append_seam}
use Rattle.std.proofs.Common.{◌≡◌, ℕ, ◌+◌, ◌<◌, ◌/◌, ◌%◌, List, [], ◌∷◌, ◌++◌, length, take, drop, get_or, Bool, true, false, ◌&&◌, Result, Ok, Err, is_err, refl, sym, subst, ap, ◌∙◌}
use Rattle.std.proofs.lemmas.Bool.{false≢true}
use Rattle.std.proofs.lemmas.List.{append_assoc, drop_more, take-append-drop}
use Rattle.std.proofs.KnownBytes.{Appends-trans}
use Rattle.std.specs.Prelude.{OnOk, OnErr, if◌then◌else◌}
use Rattle.std.specs.List.{list_all}
use Rattle.squall_cli_device.specs.declared.DeviceFault.{DeviceFault}
use Rattle.squall_cli_device.specs.States.{SinkState, TookBytes, NoWriteFails}
use Rattle.squall_cli_ask.specs.Shown.{is_plain, hex_digit, shown_byte, shown}

-- ---- plain texts

both_first : (t u : Bool) → (t && u) ≡ true → t ≡ true
both_first true u e = refl
both_first false u e = e

both_second : (t u : Bool) → (t && u) ≡ true → u ≡ true
both_second true u e = e
both_second false u e = absurd (false≢true e)

plain_byte : (x : ℕ) → is_plain x ≡ true → shown_byte x ≡ x ∷ []
plain_byte x e = ap (λ t. if t then x ∷ [] else (92 ∷ 120 ∷ hex_digit (x / 16) ∷ hex_digit (x % 16) ∷ [])) e

-- a text of plain bytes is shown as it is
pub plain_shown : (xs : List ℕ) → list_all is_plain xs ≡ true → shown xs ≡ xs
plain_shown [] e = refl
plain_shown (x ∷ xs) e =
    ap (λ w. w ++ shown xs) (plain_byte x (both_first (is_plain x) (list_all is_plain xs) e)) ∙ ap (λ w. x ∷ w) (plain_shown xs (both_second (is_plain x) (list_all is_plain xs) e))

-- ---- byte by byte

prefix_is : (p r xs : List ℕ) → p ++ r ≡ xs → p ≡ take (length p) xs
prefix_is p r xs e = sym (take-append_seam p r) ∙ ap (take (length p)) e

-- what is left begins with the next byte
next_shown : (xs : List ℕ) (i d : ℕ) → i < length xs → shown (drop i xs) ≡ shown_byte (get_or xs i d) ++ shown (drop (i + 1) xs)
next_shown xs i d within = ap shown (drop_more xs i d within)

module _ (e0 e1 e2 : SinkState) (xs : List ℕ) (i d : ℕ) (said : List ℕ) (within : i < length xs) (took : TookBytes e0 e1 said) (is : said ++ shown (drop i xs) ≡ shown xs) where
  abbrev b : List ℕ
  b = shown_byte (get_or xs i d)

  abbrev left : List ℕ
  left = shown (drop (i + 1) xs)

  all : said ++ (b ++ left) ≡ shown xs
  all = ap (λ w. said ++ w) (sym (next_shown xs i d within)) ∙ is

  -- the byte was sent
  pub byte_sent : (r : Result Unit DeviceFault) → is_err r ≡ false → NoWriteFails e0 e1 → OnOk r (TookBytes e1 e2 b) → OnOk r (NoWriteFails e1 e2)
      → (said' : List ℕ) × TookBytes e0 e2 said' × NoWriteFails e0 e2 × (said' ++ left ≡ shown xs)
  byte_sent (Ok u) fine kept sent same =
      (said ++ b, Appends-trans e0.contents e1.contents e2.contents said b took sent, (same.0 ∙ kept.0, same.1 ∙ kept.1), append_assoc said b left ∙ all)
  byte_sent (Err fault) fine kept sent same = absurd (false≢true (sym fine))

  -- a write of the byte failed
  pub byte_cut : (r : Result Unit DeviceFault) → is_err r ≡ true → OnErr r ((n : ℕ) × TookBytes e1 e2 (take n b)) → (n : ℕ) × TookBytes e0 e2 (take n (shown xs))
  byte_cut (Ok u) failed err = absurd (false≢true failed)
  byte_cut (Err fault) failed err =
      let part = take err.0 b in
      let rest = drop err.0 b in
      let whole : (said ++ part) ++ (rest ++ left) ≡ shown xs =
      append_assoc said part (rest ++ left) ∙ ap (λ w. said ++ w) (sym (append_assoc part rest left) ∙ ap (λ w. w ++ left) (take-append-drop err.0 b)) ∙ all in
      (length (said ++ part), subst (TookBytes e0 e2) (prefix_is (said ++ part) (rest ++ left) (shown xs) whole) (Appends-trans e0.contents e1.contents e2.contents said part took err.1))
