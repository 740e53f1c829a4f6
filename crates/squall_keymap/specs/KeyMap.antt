-- The key of a row whose own key is bytes: a pair of numbers in front, or else a hash (this project; the hash is FNV-1a of 64 bits, as its authors give it).
use Rattle.std.specs.Prelude.{ℕ, ◌*◌, ◌/◌, ◌%◌, ◌^◌, Bool, ◌==◌, List, Option, None, Some, nat_lt, if◌then◌else◌, position, take, bit_xor}
use Rattle.std.specs.List.{fold, before_first, after_first}
use Rattle.std.specs.Option.{option_and_then, unwrap_or}
use Rattle.squall_key.specs.Numbers.{number_of}
use Rattle.squall_key.specs.Keys.{top, is_colon, key_at}

-- ---- a pair of numbers in front

-- the first word: the bytes before the first colon, or all of them
abbrev pub first_word : List ℕ → List ℕ
first_word bytes = before_first is_colon bytes

-- the second word: the bytes between the first colon and the next one or the end
abbrev pub second_word : List ℕ → List ℕ
second_word bytes = before_first is_colon (after_first is_colon bytes)

-- the key of the numbers that two words write
abbrev pub pair_of_words : List ℕ → List ℕ → Option ℕ
pair_of_words first second = option_and_then (λ root. option_and_then (key_at root) (number_of second)) (number_of first)

-- the key of the numbers that the first two words write
abbrev pub pair_in_front : List ℕ → Option ℕ
pair_in_front bytes = pair_of_words (first_word bytes) (second_word bytes)

-- ---- a tag

abbrev pub opens : ℕ → Bool
opens b = b == 123

abbrev pub closes : ℕ → Bool
closes b = b == 125

-- the bytes between the first `{` and the next `}` after it, if there is at least one
abbrev pub tag_of : List ℕ → Option (List ℕ)
tag_of bytes = option_and_then (λ len. if nat_lt 0 len then Some (take len (after_first opens bytes)) else None) (position closes (after_first opens bytes))

-- the bytes whose hash counts: those of the tag, or all if there is no tag
abbrev pub hashed_part : List ℕ → List ℕ
hashed_part bytes = unwrap_or (tag_of bytes) bytes

-- ---- a hash

-- FNV-1a of 64 bits
abbrev pub fnv : List ℕ → ℕ
fnv bytes = fold (λ h b. bit_xor h b * 1099511628211 % 2 ^ 64) 14695981039346656037 bytes

-- a number of 64 bits with its high bits folded down by k places
abbrev pub folded : ℕ → ℕ → ℕ
folded k h = bit_xor h (h / 2 ^ k)

-- a hash with its bits mixed
abbrev pub mixed : ℕ → ℕ
mixed h = folded 29 (folded 32 h * 11400714819323198485 % 2 ^ 64)

-- a number of 64 bits, scaled to a rank below the end of all keys
abbrev pub scaled : ℕ → ℕ
scaled h = h * top / 2 ^ 64

-- the key of the hash of bytes
abbrev pub hashed : List ℕ → ℕ
hashed bytes = scaled (mixed (fnv bytes))

-- ---- the key of a row

-- the pair in front, if there is one, or else the hash of what counts
abbrev pub key_of_bytes : List ℕ → ℕ
key_of_bytes bytes = unwrap_or (pair_in_front bytes) (hashed (hashed_part bytes))
