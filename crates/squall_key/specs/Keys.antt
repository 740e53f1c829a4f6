-- Keys, bounds and partitions as numbers (profile of this project; a plan assigns ranges of keys to partitions: Squall, SIGMOD 2015).
use Rattle.std.specs.Prelude.{ℕ, ◌+◌, ◌*◌, ◌/◌, ◌%◌, ◌^◌, ◌-◌, Bool, ◌==◌, List, ◌∷◌, ◌++◌, Option, None, Some, nat_lt, nat_le, if◌then◌else◌, codes, position, take, drop}
use Rattle.std.specs.Option.{option_and_then, option_map}
use Rattle.std.specs.Fmt.{decimal}
use Rattle.std.specs.Str.{bytes_eq}
use Rattle.squall_key.specs.Numbers.{number_of}

-- each key's rank is below it: the rank of the root 2 ^ 32 - 1, which no key has
abbrev pub top : ℕ
top = 18446744069414584320

-- the place of a pair of numbers in the order by root, then second
abbrev pub rank_of : ℕ → ℕ → ℕ
rank_of root second = root * 2 ^ 32 + second

abbrev pub root_of : ℕ → ℕ
root_of rank = rank / 2 ^ 32

abbrev pub second_of : ℕ → ℕ
second_of rank = rank % 2 ^ 32

-- the key of two numbers: there is none at the last root
abbrev pub key_at : ℕ → ℕ → Option ℕ
key_at root second = if nat_lt root (2 ^ 32 - 1) then Some (rank_of root second) else None

-- the bound of two numbers: at the last root there is the top alone
abbrev pub bound_at : ℕ → ℕ → Option ℕ
bound_at root second = if nat_le (rank_of root second) top then Some (rank_of root second) else None

-- ---- as text

abbrev pub is_colon : ℕ → Bool
is_colon b = b == 58

-- the bytes before the first colon, and those after it
abbrev pub at_colon : List ℕ → Option (List ℕ × List ℕ)
at_colon text = option_map (λ i. (take i text, drop (i + 1) text)) (position is_colon text)

-- the two numbers of a text with a colon between them
abbrev pub pair_of : List ℕ → Option (ℕ × ℕ)
pair_of text = option_and_then (λ parts. option_and_then (λ root. option_map (λ second. (root, second)) (number_of parts.1)) (number_of parts.0)) (at_colon text)

-- the key that the text spells
abbrev pub key_of : List ℕ → Option ℕ
key_of text = option_and_then (λ p. key_at p.0 p.1) (pair_of text)

-- the bound that the text spells
abbrev pub bound_of : List ℕ → Option ℕ
bound_of text = if bytes_eq text (codes "end") then Some top else option_and_then (λ p. bound_at p.0 p.1) (pair_of text)

-- a key as it is printed, with no leading zeros
abbrev pub text_of_key : ℕ → List ℕ
text_of_key key = decimal (root_of key) ++ 58 ∷ decimal (second_of key)

-- a bound as it is printed
abbrev pub text_of_bound : ℕ → List ℕ
text_of_bound bound = if bound == top then codes "end" else text_of_key bound

-- the numbers of partitions and sub-plans are below it
abbrev pub part_limit : ℕ
part_limit = 10000
