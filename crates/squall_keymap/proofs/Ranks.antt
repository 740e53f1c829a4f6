-- The ranks of pairs and hashes are below the end of all keys.
use Rattle.std.proofs.Common.{◌≡◌, ℕ, ◌-◌, ◌*◌, ◌/◌, ◌%◌, ◌^◌, ◌<◌, List, Option, Some, None, Bool, true, false, arith, refl}
use Rattle.std.specs.Prelude.{nat_lt, if◌then◌else◌, IfSome}
use Rattle.std.specs.Option.{unwrap_or, option_and_then}
use Rattle.std.specs.Str.Parse.{digits_value}
use Rattle.std.proofs.lemmas.Nat.{xor_lt, shr_le, div_below}
use Rattle.std.proofs.lemmas.Bool.Decides.{nat_tests}
use Rattle.squall_key.specs.Numbers.{is_number}
use Rattle.squall_key.specs.Keys.{top, rank_of, key_at}
use Rattle.squall_keymap.specs.KeyMap.{folded, mixed, fnv, scaled, hashed, pair_of_words, pair_in_front, first_word, second_word, hashed_part, key_of_bytes}

-- ---- hashes

folded_low : (k h : ℕ) → h < 2 ^ 64 → folded k h < 2 ^ 64
folded_low k h l = xor_lt 64 h (h / 2 ^ k) l (omega (arith, l, shr_le h k))

mixed_low : (h : ℕ) → mixed h < 2 ^ 64
mixed_low h = folded_low 29 (folded 32 h * 11400714819323198485 % 2 ^ 64) (grind arith)

scaled_below : (h : ℕ) → h < 2 ^ 64 → scaled h < top
scaled_below h l = div_below (h * top) (2 ^ 64) top (omega arith) (omega (arith, l))

pub hashed_below : (bytes : List ℕ) → hashed bytes < top
hashed_below bytes = scaled_below (mixed (fnv bytes)) (mixed_low (fnv bytes))

-- ---- pairs

number_low : (word : List ℕ) → is_number word ≡ true → digits_value 10 word < 2 ^ 32
number_low word e = grind (arith, nat_tests)

rank_below : (c : Bool) (root second : ℕ) → (c ≡ true → root < 2 ^ 32 - 1) → second < 2 ^ 32 → IfSome (if c then Some (rank_of root second) else None) (λ key. key < top)
rank_below true root second h l = let low = h refl in omega (arith, low, l)
rank_below false root second h l = tt

root_low : (root : ℕ) → nat_lt root (2 ^ 32 - 1) ≡ true → root < 2 ^ 32 - 1
root_low root e = grind (arith, nat_tests)

key_below : (root second : ℕ) → second < 2 ^ 32 → IfSome (key_at root second) (λ key. key < top)
key_below root second l = rank_below (nat_lt root (2 ^ 32 - 1)) root second (root_low root) l

-- the numbers of two words, if tests say that they have one
pair_below : (a b : Bool) (root second : ℕ) → (b ≡ true → second < 2 ^ 32) → IfSome (option_and_then (λ r. option_and_then (key_at r) (if b then Some second else None)) (if a then Some root else None)) (λ key. key < top)
pair_below false b root second l = tt
pair_below true false root second l = tt
pair_below true true root second l = key_below root second (l refl)

words_below : (first second : List ℕ) → IfSome (pair_of_words first second) (λ key. key < top)
words_below first second = pair_below (is_number first) (is_number second) (digits_value 10 first) (digits_value 10 second) (number_low second)

-- ---- rows

either_below : (pair : Option ℕ) (hash : ℕ) → IfSome pair (λ key. key < top) → hash < top → unwrap_or pair hash < top
either_below None hash p h = h
either_below (Some key) hash p h = p

pub row_below : (bytes : List ℕ) → key_of_bytes bytes < top
row_below bytes = either_below (pair_in_front bytes) (hashed (hashed_part bytes)) (words_below (first_word bytes) (second_word bytes)) (hashed_below (hashed_part bytes))
