-- Bytes before and after a mark: words and tags.
use Rattle.std.proofs.Common.{◌≡◌, ℕ, ◌+◌, ◌<◌, Bool, true, false, not, cond, List, [], ◌∷◌, ◌++◌, length, length-append, take, drop, Option, Some, None, eqb, arith, refl, sym, ◌∙◌}
use Rattle.std.specs.Prelude.{nat_lt, if◌then◌else◌, ◌||◌}
use Rattle.std.specs.List.{list_any, position_or_len, before_first, after_first, position}
use Rattle.std.specs.Option.{option_and_then, option_map}
use Rattle.std.specs.Char.{is_ascii_digit}
use Rattle.std.specs.Str.{all_ascii_digits}
use Rattle.std.specs.Str.Parse.{digits_value}
use Rattle.std.proofs.Math.Seq.{take-append_seam, drop-append-add}
use Rattle.std.proofs.lemmas.Bool.{false≢true, and_parts, lt-ltb, ne_eqb}
use Rattle.std.proofs.lemmas.Bool.Decides.{nat_tests}
use Rattle.std.proofs.lemmas.List.{take_all, take-append-le, drop-append-le}
use Rattle.std.proofs.lemmas.List.Folds.{prefix_len-append}
use Rattle.std.proofs.lemmas.Option.{none-some}
use Rattle.squall_key.specs.Numbers.{is_number, number_of}
use Rattle.squall_key.specs.Keys.{is_colon, key_at, key_of}
use Rattle.squall_keymap.specs.KeyMap.{opens, closes, pair_of_words, first_word, second_word, pair_in_front, tag_of, hashed, key_of_bytes}

-- the words of bytes that were cut at two colons
pub same_words : (bytes first rest second : List ℕ) → first ≡ first_word bytes → rest ≡ after_first is_colon bytes → second ≡ before_first is_colon rest → pair_of_words first second ≡ pair_in_front bytes
same_words bytes first rest second a b c = rw (a, c, b) refl

-- ---- the first mark

or_parts : (a b : Bool) → (a || b) ≡ false → (a ≡ false) × (b ≡ false)
or_parts true b e = absurd (false≢true (sym e))
or_parts false b e = (refl, e)

-- bytes without a mark
none_at : (p : ℕ → Bool) (xs : List ℕ) → list_any p xs ≡ false → position_or_len p xs ≡ length xs
none_at p [] none = refl
none_at p (x ∷ xs) none =
    let parts = or_parts (p x) (list_any p xs) none in
    rw (parts.0, none_at p xs parts.1) (omega arith)

-- bytes without one, then a mark
mark_at : (p : ℕ → Bool) (xs ys : List ℕ) (y : ℕ) → list_any p xs ≡ false → p y ≡ true → position_or_len p (xs ++ y ∷ ys) ≡ length xs
mark_at p [] ys y none is = rw is refl
mark_at p (x ∷ xs) ys y none is =
    let parts = or_parts (p x) (list_any p xs) none in
    rw (parts.0, mark_at p xs ys y parts.1 is) (omega arith)

front_of : (n : ℕ) (xs ys : List ℕ) → n ≡ length xs → take n (xs ++ ys) ≡ xs
front_of n xs ys e = rw e (take-append_seam xs ys)

back_of : (n : ℕ) (xs ys : List ℕ) (y : ℕ) → n ≡ length xs → drop (n + 1) (xs ++ y ∷ ys) ≡ ys
back_of n xs ys y e = rw e (drop-append-add xs (y ∷ ys) 1)

before_none : (p : ℕ → Bool) (xs : List ℕ) → list_any p xs ≡ false → before_first p xs ≡ xs
before_none p xs none = take_all (position_or_len p xs) xs (omega (arith, none_at p xs none))

before_mark : (p : ℕ → Bool) (xs ys : List ℕ) (y : ℕ) → list_any p xs ≡ false → p y ≡ true → before_first p (xs ++ y ∷ ys) ≡ xs
before_mark p xs ys y none is = front_of (position_or_len p (xs ++ y ∷ ys)) xs (y ∷ ys) (mark_at p xs ys y none is)

after_mark : (p : ℕ → Bool) (xs ys : List ℕ) (y : ℕ) → list_any p xs ≡ false → p y ≡ true → after_first p (xs ++ y ∷ ys) ≡ ys
after_mark p xs ys y none is = back_of (position_or_len p (xs ++ y ∷ ys)) xs ys y (mark_at p xs ys y none is)

-- ---- tags

tag_by : (n : ℕ) (tag back : List ℕ) → n ≡ length tag → 0 < length tag
    → option_and_then (λ len. if nat_lt 0 len then Some (take len (tag ++ 125 ∷ back)) else None) (cond (nat_lt n (length (tag ++ 125 ∷ back))) (Some n) None) ≡ Some tag
tag_by n tag back e some =
    let room : n < length (tag ++ 125 ∷ back) = omega (arith, e, length-append tag (125 ∷ back)) in
    let pos : 0 < n = omega (arith, e, some) in
    rw (lt-ltb n (length (tag ++ 125 ∷ back)) room, lt-ltb 0 n pos, front_of n tag (125 ∷ back) e) refl

tag_of_rest : (bytes rest : List ℕ) → after_first opens bytes ≡ rest → tag_of bytes ≡ option_and_then (λ len. if nat_lt 0 len then Some (take len rest) else None) (position closes rest)
tag_of_rest bytes rest e = rw e refl

pub tag_between : (front tag back : List ℕ) → list_any opens front ≡ false → list_any closes tag ≡ false → 0 < length tag → tag_of (front ++ 123 ∷ (tag ++ 125 ∷ back)) ≡ Some tag
tag_between front tag back no_open no_close some =
    tag_of_rest (front ++ 123 ∷ (tag ++ 125 ∷ back)) (tag ++ 125 ∷ back) (after_mark opens front (tag ++ 125 ∷ back) 123 no_open refl)
    ∙ tag_by (position_or_len closes (tag ++ 125 ∷ back)) tag back (mark_at closes tag back 125 no_close refl) some

pub tagged : (row tag : List ℕ) → pair_in_front row ≡ None → tag_of row ≡ Some tag → key_of_bytes row ≡ hashed tag
tagged row tag none is = rw (none, is) refl

-- ---- pairs

digit_is_no_colon : (b : ℕ) → is_ascii_digit b ≡ true → is_colon b ≡ false
digit_is_no_colon b e = grind (arith, nat_tests)

digits_no_colon : (ds : List ℕ) → all_ascii_digits ds ≡ true → list_any is_colon ds ≡ false
digits_no_colon [] e = refl
digits_no_colon (d ∷ ds) e =
    let both = and_parts (is_ascii_digit d) (all_ascii_digits ds) e in
    rw (digit_is_no_colon d both.0, digits_no_colon ds both.1) refl

number_no_colon : (word : List ℕ) → is_number word ≡ true → list_any is_colon word ≡ false
number_no_colon word e = digits_no_colon word (and_parts _ _ (and_parts _ _ e).0).1

both_numbers : (a b : Bool) (root second key : ℕ) → option_and_then (λ r. option_and_then (key_at r) (if b then Some second else None)) (if a then Some root else None) ≡ Some key → (a ≡ true) × (b ≡ true)
both_numbers false b root second key e = absurd (none-some key e)
both_numbers true false root second key e = absurd (none-some key e)
both_numbers true true root second key e = (refl, refl)

second_no_colon : (first second : List ℕ) (key : ℕ) → pair_of_words first second ≡ Some key → list_any is_colon second ≡ false
second_no_colon first second key e = number_no_colon second (both_numbers (is_number first) (is_number second) (digits_value 10 first) (digits_value 10 second) key e).1

paired : (row first second : List ℕ) (key : ℕ) → first_word row ≡ first → second_word row ≡ second → pair_of_words first second ≡ Some key → key_of_bytes row ≡ key
paired row first second key a b e = rw (a, b, e) refl

-- a text that spells a key has a colon, and its numbers before and after that
record Spells (text : List ℕ) (key : ℕ) : Type 0 where
  colon : position_or_len is_colon text < length text
  words : pair_of_words (before_first is_colon text) (after_first is_colon text) ≡ Some key

words_by : (root second : Option ℕ) (key : ℕ) → option_and_then (λ p. key_at p.0 p.1) (option_and_then (λ r. option_map {U = ℕ × ℕ} (λ s. (r, s)) second) root) ≡ Some key → option_and_then (λ r. option_and_then (key_at r) second) root ≡ Some key
words_by None second key e = e
words_by (Some r) None key e = e
words_by (Some r) (Some s) key e = e

colon_by : (c : Bool) (n : ℕ) (text : List ℕ) (key : ℕ)
    → option_and_then (λ p. key_at p.0 p.1) (option_and_then (λ parts. option_and_then (λ r. option_map {U = ℕ × ℕ} (λ s. (r, s)) (number_of parts.1)) (number_of parts.0)) (option_map {U = List ℕ × List ℕ} (λ i. (take i text, drop (i + 1) text)) (cond c (Some n) None))) ≡ Some key
    → (c ≡ true) × (pair_of_words (take n text) (drop (n + 1) text) ≡ Some key)
colon_by false n text key e = absurd (none-some key e)
colon_by true n text key e = (refl, words_by (number_of (take n text)) (number_of (drop (n + 1) text)) key e)

below_length : (n m : ℕ) → nat_lt n m ≡ true → n < m
below_length n m e = grind (arith, nat_tests)

spelled : (text : List ℕ) (key : ℕ) → key_of text ≡ Some key → Spells text key
spelled text key e =
    let n = position_or_len is_colon text in
    let by = colon_by (nat_lt n (length text)) n text key e in
    record { colon = below_length n (length text) by.0; words = by.1 }

pub pair_alone : (text : List ℕ) (key : ℕ) → key_of text ≡ Some key → key_of_bytes text ≡ key
pair_alone text key e =
    let s = spelled text key e in
    let first = before_first is_colon text in
    let second = after_first is_colon text in
    paired text first second key refl (before_none is_colon second (second_no_colon first second key s.words)) s.words

-- what follows does not move the first mark
mark_stays : (p : ℕ → Bool) (text more : List ℕ) → position_or_len p text < length text → position_or_len p (text ++ more) ≡ position_or_len p text
mark_stays p text more l =
    let other : eqb (position_or_len p text) (length text) ≡ false = ne_eqb _ _ (λ e. absurd (omega (arith, l, e))) in
    prefix_len-append (λ x. not (p x)) text more ∙ rw other refl

words_stay : (m n : ℕ) (text more : List ℕ) → m ≡ n → n < length text → (take m (text ++ more) ≡ take n text) × (drop (m + 1) (text ++ more) ≡ drop (n + 1) text ++ more)
words_stay m n text more e l = rw e (take-append-le n text more (omega (arith, l)), drop-append-le (n + 1) text more (omega (arith, l)))

second_by : (row tail second : List ℕ) → after_first is_colon row ≡ tail → before_first is_colon tail ≡ second → second_word row ≡ second
second_by row tail second a b = rw (a, b) refl

pub pair_followed : (text rest : List ℕ) (key : ℕ) → key_of text ≡ Some key → key_of_bytes (text ++ 58 ∷ rest) ≡ key
pair_followed text rest key e =
    let s = spelled text key e in
    let first = before_first is_colon text in
    let second = after_first is_colon text in
    let row = text ++ 58 ∷ rest in
    let stay = words_stay (position_or_len is_colon row) (position_or_len is_colon text) text (58 ∷ rest) (mark_stays is_colon text (58 ∷ rest) s.colon) s.colon in
    let cut = before_mark is_colon second rest 58 (second_no_colon first second key s.words) refl in
    paired row first second key stay.0 (second_by row (second ++ 58 ∷ rest) second stay.1 cut) s.words
