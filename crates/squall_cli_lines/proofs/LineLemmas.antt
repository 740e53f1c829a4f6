-- Lines, at an LF and at the end.
use Rattle.std.proofs.Common.{◌≡◌, ℕ, ◌<◌, zero, suc, List, [], ◌∷◌, ◌++◌, length, false, eqb, ap, arith, refl}
use Rattle.std.proofs.lemmas.Bool.{ne_eqb}
use Rattle.std.specs.List.{onto_first}
use Rattle.squall_cli_lines.specs.Lines.{lines_of, whole_lines, onto_whole, IsOneLine}

IsOneLine-rest : (x : ℕ) (a : List ℕ) → IsOneLine (x ∷ a) → IsOneLine a
IsOneLine-rest x a h = λ k l. h (suc k) (omega arith)

IsOneLine-first : (x : ℕ) (a : List ℕ) → IsOneLine (x ∷ a) → eqb x 10 ≡ false
IsOneLine-first x a h = ne_eqb x 10 (h 0 (omega arith))

pub lines_of-line : (a b : List ℕ) → IsOneLine a → lines_of (a ++ 10 ∷ b) ≡ a ∷ lines_of b
lines_of-line [] b h = refl
lines_of-line (x ∷ a) b h = rw (IsOneLine-first x a h, lines_of-line a b (IsOneLine-rest x a h)) refl

pub IsOneLine-append : (a b : List ℕ) → IsOneLine a → IsOneLine b → IsOneLine (a ++ b)
IsOneLine-append [] b h i k l = i k l
IsOneLine-append (x ∷ a) b h i zero l = h 0 (omega arith)
IsOneLine-append (x ∷ a) b h i (suc k) l = IsOneLine-append a b (IsOneLine-rest x a h) i k (omega arith)

one_line : (x : ℕ) (a : List ℕ) → IsOneLine (x ∷ a) → lines_of (x ∷ a) ≡ (x ∷ a) ∷ []
one_line x [] h = rw (IsOneLine-first x [] h) refl
one_line x (y ∷ a) h = rw (IsOneLine-first x (y ∷ a) h) (ap (onto_first x) (one_line y a (IsOneLine-rest x (y ∷ a) h)))

pub lines_of-last : (a : List ℕ) → IsOneLine a → 0 < length a → lines_of a ≡ a ∷ []
lines_of-last [] h l = absurd (omega arith)
lines_of-last (x ∷ a) h l = one_line x a h

pub whole_lines-line : (a b : List ℕ) → IsOneLine a → whole_lines (a ++ 10 ∷ b) ≡ a ++ 10 ∷ whole_lines b
whole_lines-line [] b h = refl
whole_lines-line (x ∷ []) b h = rw (IsOneLine-first x [] h) refl
whole_lines-line (x ∷ y ∷ a) b h = rw (IsOneLine-first x (y ∷ a) h) (ap (onto_whole x) (whole_lines-line (y ∷ a) b (IsOneLine-rest x (y ∷ a) h)))

pub whole_lines-none : (a : List ℕ) → IsOneLine a → whole_lines a ≡ []
whole_lines-none [] h = refl
whole_lines-none (x ∷ a) h = rw (IsOneLine-first x a h) (ap (onto_whole x) (whole_lines-none a (IsOneLine-rest x a h)))
