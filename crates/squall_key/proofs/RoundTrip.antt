-- What is printed is read again.
use Rattle.std.proofs.Common.{◌≡◌, ℕ, ◌+◌, ◌-◌, ◌^◌, ◌<◌, ◌≤◌, Bool, true, false, not, List, [], ◌∷◌, ◌++◌, length, length-append, take, drop, None, Some, eqb, ltb, cond, inl, inr, arith, refl}
use Rattle.std.specs.Prelude.{◌⊎◌, ◌↔◌, codes}
use Rattle.std.specs.Option.{option_map}
use Rattle.std.specs.Bool.{Decides}
use Rattle.std.proofs.lemmas.Slice.Eq.{bytes_eq-Decides}
use Rattle.std.specs.Char.{is_ascii_digit}
use Rattle.std.specs.Fmt.{decimal}
use Rattle.std.specs.List.{prefix_len}
use Rattle.std.specs.Str.{all_ascii_digits, bytes_eq}
use Rattle.std.specs.Str.Parse.{digits_value}
use Rattle.std.proofs.lemmas.Bool.{and_parts, cases_lt, ne_eqb, lt-ltb, le-leb}
use Rattle.std.proofs.lemmas.Bool.Decides.{nat_tests}
use Rattle.std.proofs.lemmas.Fmt.{digits_decimal, digits_value-decimal, decimal_nonempty, length-decimal-le}
use Rattle.std.proofs.Math.Seq.{take-append_seam, drop-append-add}
use Rattle.std.proofs.lemmas.Str.Parse.{IsNumeralModel, numerals_by_value, tells_all_ascii_digits}
use Rattle.squall_key.specs.Numbers.{is_number, number_of}
use Rattle.squall_key.specs.Keys.{top, rank_of, root_of, second_of, is_colon, at_colon, pair_of, key_of, text_of_key, bound_of, text_of_bound}

own : IsNumeralModel (λ ds. all_ascii_digits ds ≡ true) (digits_value 10)
own = numerals_by_value _ tells_all_ascii_digits

number_of-decimal : (n : ℕ) → n < 2 ^ 32 → number_of (decimal n) ≡ Some n
number_of-decimal n h =
    let some : 0 < length (decimal n) = decimal_nonempty n (omega arith) in
    let few : length (decimal n) ≤ 10 = length-decimal-le 10 n (omega arith) (omega arith) (omega arith) in
    let digits = digits_decimal own n (omega arith) in
    let value = digits_value-decimal own n (omega arith) in
    let yes : is_number (decimal n) ≡ true = grind (arith, nat_tests) in
    rw (yes, value) refl

digit_is_no_colon : (b : ℕ) → is_ascii_digit b ≡ true → is_colon b ≡ false
digit_is_no_colon b e = grind (arith, nat_tests)

digits_before_colon : (ds rest : List ℕ) → all_ascii_digits ds ≡ true → prefix_len (λ b. not (is_colon b)) (ds ++ 58 ∷ rest) ≡ length ds
digits_before_colon [] rest e = refl
digits_before_colon (d ∷ ds) rest e =
    let both = and_parts (is_ascii_digit d) (all_ascii_digits ds) e in
    rw (digit_is_no_colon d both.0, digits_before_colon ds rest both.1) (omega arith)

-- the place of the colon is the number of digits
cut : (n : ℕ) (ds rest : List ℕ) → n ≡ length ds → option_map {U = List ℕ × List ℕ} (λ i. (take i (ds ++ 58 ∷ rest), drop (i + 1) (ds ++ 58 ∷ rest))) (cond (ltb n (length (ds ++ 58 ∷ rest))) (Some n) None) ≡ Some (ds, rest)
cut n ds rest e =
    let room : n < length (ds ++ 58 ∷ rest) = omega (arith, e, length-append ds (58 ∷ rest)) in
    let front : take n (ds ++ 58 ∷ rest) ≡ ds = rw e (take-append_seam ds (58 ∷ rest)) in
    let back : drop (n + 1) (ds ++ 58 ∷ rest) ≡ rest = rw e (drop-append-add ds (58 ∷ rest) 1) in
    rw (lt-ltb n (length (ds ++ 58 ∷ rest)) room, front, back) refl

at_colon-digits : (ds rest : List ℕ) → all_ascii_digits ds ≡ true → at_colon (ds ++ 58 ∷ rest) ≡ Some (ds, rest)
at_colon-digits ds rest e = cut (prefix_len (λ b. not (is_colon b)) (ds ++ 58 ∷ rest)) ds rest (digits_before_colon ds rest e)

pair_of-text : (root second : ℕ) → root < 2 ^ 32 → second < 2 ^ 32 → pair_of (decimal root ++ 58 ∷ decimal second) ≡ Some (root, second)
pair_of-text root second l l2 =
    rw (at_colon-digits (decimal root) (decimal second) (digits_decimal own root (omega arith)), number_of-decimal root l, number_of-decimal second l2) refl

pub key_of-text : (key : ℕ) → key < top → key_of (text_of_key key) ≡ Some key
key_of-text key below =
    let root = root_of key in
    let second = second_of key in
    let low : root < 2 ^ 32 - 1 = omega arith in
    let is : rank_of root second ≡ key = omega arith in
    rw (pair_of-text root second (omega arith) (omega arith), lt-ltb root (2 ^ 32 - 1) low, is) refl

false_by : {P : Type 0} (b : Bool) → Decides b P → (P → ⊥) → b ≡ false
false_by true h never = absurd (never (h.0 refl))
false_by false h never = refl

no_end : (t : List ℕ) (parts : List ℕ × List ℕ) → at_colon t ≡ Some parts → t ≡ codes "end" → ⊥
no_end t parts some e = let none : None ≡ Some parts = rw e at some in cc

key_text_is_no_end : (key : ℕ) → key < top → bytes_eq (text_of_key key) (codes "end") ≡ false
key_text_is_no_end key below =
    let some = at_colon-digits (decimal (root_of key)) (decimal (second_of key)) (digits_decimal own (root_of key) (omega arith)) in
    false_by _ (bytes_eq-Decides (text_of_key key) (codes "end")) (no_end (text_of_key key) _ some)

bound_of-key : (bound : ℕ) → bound < top → bound_of (text_of_key bound) ≡ Some bound
bound_of-key bound below =
    let root = root_of bound in
    let second = second_of bound in
    let is : rank_of root second ≡ bound = omega arith in
    rw (key_text_is_no_end bound below, pair_of-text root second (omega arith) (omega arith), is, le-leb bound top (omega arith)) refl

pub bound_of-text : (bound : ℕ) → bound ≤ top → bound_of (text_of_bound bound) ≡ Some bound
bound_of-text bound high = elim (cases_lt bound top) [
  | inl below ↦ let apart : eqb bound top ≡ false = ne_eqb bound top (λ e. omega arith) in rw apart (bound_of-key bound below)
  | inr from ↦ let is : bound ≡ top = omega arith in rw is refl
]

pub rank_order : (root second other_root other_second : ℕ) → second < 2 ^ 32 → other_second < 2 ^ 32
    → (rank_of root second < rank_of other_root other_second) ↔ ((root < other_root) ⊎ ((root ≡ other_root) × (second < other_second)))
rank_order r s r2 s2 l l2 = (
  λ less. elim (cases_lt r r2) [ inl lower ↦ inl lower | inr from ↦ inr (omega arith, omega arith) ],
  λ order. omega arith,
)
