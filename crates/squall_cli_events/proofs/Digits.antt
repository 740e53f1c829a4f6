-- The digits of a number of keys.
use Rattle.std.proofs.Common.{◌≡◌, ℕ, zero, suc, ◌<◌, Bool, true, false, cond, List, [], ◌∷◌, length, get_or, Some, None, refl, sym, ◌∙◌, arith}
use Rattle.std.specs.Char.{is_ascii_digit}
use Rattle.std.specs.Str.{all_ascii_digits}
use Rattle.std.specs.Str.Parse.{digits_value}
use Rattle.std.proofs.Math.Bool.{and-false}
use Rattle.std.proofs.lemmas.Bool.{false≢true, and_parts}
use Rattle.squall_cli_events.specs.EventLines.{is_most, most_of}

most_digits : (bs : List ℕ) → is_most bs ≡ true → all_ascii_digits bs ≡ true
most_digits bs e = (and_parts _ _ (and_parts _ _ e).0).1

no_digits : (bs : List ℕ) (i : ℕ) → i < length bs → is_ascii_digit (get_or bs i 0) ≡ false → all_ascii_digits bs ≡ false
no_digits [] i l d = absurd (omega arith)
no_digits (b ∷ bs) zero l d = rw d refl
no_digits (b ∷ bs) (suc i) l d = rw (no_digits bs i (omega arith) d) (and-false (is_ascii_digit b))

none_where : (b : Bool) (v : ℕ) → (b ≡ true → ⊥) → cond b (Some v) None ≡ None
none_where true v h = absurd (h refl)
none_where false v h = refl

-- a text with another byte is no number of keys
pub no_most : (bs : List ℕ) (i b : ℕ) → i < length bs → b ≡ get_or bs i 0 → is_ascii_digit b ≡ false → most_of bs ≡ None
no_most bs i b l is other = none_where (is_most bs) (digits_value 10 bs) (λ yes. false≢true (sym (no_digits bs i l (rw (← is) other)) ∙ most_digits bs yes))
