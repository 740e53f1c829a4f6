-- The digits of a text, one by one.
use Rattle.std.proofs.Common.{◌≡◌, ℕ, zero, suc, ◌+◌, ◌-◌, ◌*◌, ◌^◌, ◌<◌, ◌≤◌, Bool, true, false, cond, List, [], ◌∷◌, length, take, get_or, None, Some, add-one, refl, sym, ◌∙◌, arith}
use Rattle.std.specs.Char.{is_ascii_digit}
use Rattle.std.specs.Str.{all_ascii_digits}
use Rattle.std.specs.Str.Parse.{digits_value}
use Rattle.std.proofs.Math.Bool.{and-false}
use Rattle.std.proofs.lemmas.Bool.{false≢true, and_parts}
use Rattle.std.proofs.lemmas.Bool.Decides.{nat_tests}
use Rattle.std.proofs.lemmas.Grind.{pow_more}
use Rattle.std.proofs.lemmas.Int.Digits.{digits_value_more}
use Rattle.std.proofs.lemmas.Str.{digit_value_digit}
use Rattle.squall_key.specs.Numbers.{is_number, number_of}

-- a number is written in digits
number_digits : (bs : List ℕ) → is_number bs ≡ true → all_ascii_digits bs ≡ true
number_digits bs e = (and_parts _ _ (and_parts _ _ e).0).1

digit_low : (b : ℕ) → is_ascii_digit b ≡ true → 48 ≤ b
digit_low b e = grind (arith, nat_tests)

digit_high : (b : ℕ) → is_ascii_digit b ≡ true → b ≤ 57
digit_high b e = grind (arith, nat_tests)

digits_suc : (bs : List ℕ) (i : ℕ) → i < length bs → all_ascii_digits (take i bs) ≡ true → is_ascii_digit (get_or bs i 0) ≡ true → all_ascii_digits (take (suc i) bs) ≡ true
digits_suc [] i l h d = absurd (omega arith)
digits_suc (b ∷ bs) zero l h d = rw d refl
digits_suc (b ∷ bs) (suc i) l h d =
    let first = and_parts (is_ascii_digit b) (all_ascii_digits (take i bs)) h in
    rw first.0 (digits_suc bs i (omega arith) first.1 d)

no_digits : (bs : List ℕ) (i : ℕ) → i < length bs → is_ascii_digit (get_or bs i 0) ≡ false → all_ascii_digits bs ≡ false
no_digits [] i l d = absurd (omega arith)
no_digits (b ∷ bs) zero l d = rw d refl
no_digits (b ∷ bs) (suc i) l d = rw (no_digits bs i (omega arith) d) (and-false (is_ascii_digit b))

number_none : (b : Bool) (v : ℕ) → (b ≡ true → ⊥) → cond b (Some v) None ≡ None
number_none true v h = absurd (h refl)
number_none false v h = refl

-- a text with another byte is no number
pub no_number : (bs : List ℕ) (i b : ℕ) → i < length bs → b ≡ get_or bs i 0 → is_ascii_digit b ≡ false → number_of bs ≡ None
no_number bs i b l is other = number_none (is_number bs) (digits_value 10 bs) (λ yes. false≢true (sym (no_digits bs i l (rw (← is) other)) ∙ number_digits bs yes))

-- the first digits, read
pub record ReadSoFar (bs : List ℕ) (i v : ℕ) : Type 0 where
  pub small : v < 10 ^ i
  pub digits : all_ascii_digits (take i bs) ≡ true
  pub value : v ≡ digits_value 10 (take i bs)

smaller : (v i d : ℕ) → v < 10 ^ i → d ≤ 9 → v * 10 + d < 10 ^ (i + 1)
smaller v i d h l = rw (pow_more 10 i) (omega arith)

value_more : (bs : List ℕ) (i v b : ℕ) → i < length bs → b ≡ get_or bs i 0 → 48 ≤ b → b ≤ 57 → v ≡ digits_value 10 (take i bs) → v * 10 + (b - 48) ≡ digits_value 10 (take (i + 1) bs)
value_more bs i v b l is low high e =
    let digit = digit_value_digit b (low, high) in
    let more = digits_value_more 10 bs i l in
    omega (arith, rw (← is, ← e) at more)

-- one digit more
pub read_more : (bs : List ℕ) (i v d : ℕ) → i < length bs → is_ascii_digit (get_or bs i 0) ≡ true → d ≡ get_or bs i 0 - 48 → ReadSoFar bs i v → ReadSoFar bs (i + 1) (v * 10 + d)
read_more bs i v d l is e r =
    let low = digit_low _ is in
    let high = digit_high _ is in
    record {
      small = smaller v i d r.small (omega arith);
      digits = rw (add-one i) (digits_suc bs i l r.digits is);
      value = rw e (value_more bs i v (get_or bs i 0) l refl low high r.value);
    }
