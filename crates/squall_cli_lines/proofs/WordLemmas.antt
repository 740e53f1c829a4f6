-- The first word of a line.
use Rattle.std.proofs.Common.{◌≡◌, ℕ, ◌-◌, ◌<◌, Bool, true, false, List, [], ◌∷◌, length, take, drop, get_or, one-add, subst, sym, ◌∙◌, ap, arith, refl}
use Rattle.std.proofs.lemmas.List.{take_rest, take_all, drop_all}
use Rattle.std.proofs.lemmas.List.Sums.{position_or_len_is}
use Rattle.std.specs.List.{slice_split, before_first, onto_first, position_or_len}
use Rattle.std.specs.Prelude.{filter}
use Rattle.squall_cli_lines.specs.Words.{is_blank, is_letter, from_first, words_of, has_some}

-- where the first byte stands that passes a test
module _ (test : ℕ → Bool) (bytes : List ℕ) where
  module _ (i : ℕ) (within : i < length bytes) (before : (k : ℕ) → k < i → test (get_or bytes k 0) ≡ false) (here : test (get_or bytes i 0) ≡ true) where
    place : position_or_len test bytes ≡ i
    place = position_or_len_is test bytes i 0 (omega arith) before (λ l. here)

    pub from_first-at : take (length bytes - i) (drop i bytes) ≡ from_first test bytes
    from_first-at = take_rest bytes i ∙ ap (λ n. drop n bytes) (sym place)

    pub before_first-at : take i bytes ≡ before_first test bytes
    before_first-at = ap (λ n. take n bytes) (sym place)

  module _ (fails : (k : ℕ) → k < length bytes → test (get_or bytes k 0) ≡ false) where
    no_place : position_or_len test bytes ≡ length bytes
    no_place = position_or_len_is test bytes (length bytes) 0 (omega arith) fails (λ l. absurd (omega arith))

    pub from_first-none : [] ≡ from_first test bytes
    from_first-none = sym (ap (λ n. drop n bytes) no_place ∙ drop_all (length bytes) bytes (omega arith))

    pub before_first-all : bytes ≡ before_first test bytes
    before_first-all = sym (ap (λ n. take n bytes) no_place ∙ take_all (length bytes) bytes (omega arith))

-- a line that begins with a blank, or with a letter
module _ (b : ℕ) (bs : List ℕ) where
  from_letter-blank : is_blank b ≡ true → from_first is_letter (b ∷ bs) ≡ from_first is_letter bs
  from_letter-blank e = rw (e, one-add) refl

  from_letter-letter : is_blank b ≡ false → from_first is_letter (b ∷ bs) ≡ b ∷ bs
  from_letter-letter e = rw e refl

  from_blank-blank : is_blank b ≡ true → from_first is_blank (b ∷ bs) ≡ b ∷ bs
  from_blank-blank e = rw e refl

  from_blank-letter : is_blank b ≡ false → from_first is_blank (b ∷ bs) ≡ from_first is_blank bs
  from_blank-letter e = rw (e, one-add) refl

  before_blank-letter : is_blank b ≡ false → before_first is_blank (b ∷ bs) ≡ b ∷ before_first is_blank bs
  before_blank-letter e = rw (e, one-add) refl

  slice_split-letter : is_blank b ≡ false → slice_split is_blank (b ∷ bs) ≡ onto_first b (slice_split is_blank bs)
  slice_split-letter e = rw e refl

  words_of-blank : is_blank b ≡ true → words_of (b ∷ bs) ≡ words_of bs
  words_of-blank e = rw e refl

words_of-after_blanks-by : (b : ℕ) (bs : List ℕ) (v : Bool) → is_blank b ≡ v → words_of (from_first is_letter bs) ≡ words_of bs → words_of (from_first is_letter (b ∷ bs)) ≡ words_of (b ∷ bs)
words_of-after_blanks-by b bs true e h = ap words_of (from_letter-blank b bs e) ∙ h ∙ sym (words_of-blank b bs e)
words_of-after_blanks-by b bs false e h = ap words_of (from_letter-letter b bs e)

-- blanks at the beginning are no word
pub words_of-after_blanks : (line : List ℕ) → words_of (from_first is_letter line) ≡ words_of line
words_of-after_blanks [] = refl
words_of-after_blanks (b ∷ bs) = words_of-after_blanks-by b bs (is_blank b) refl (words_of-after_blanks bs)

-- the parts after the first one
later_parts : List ℕ → List (List ℕ)
later_parts [] = []
later_parts (b ∷ bs) = slice_split is_blank bs

module _ (b : ℕ) (bs : List ℕ) where
  slice_split-by : (v : Bool) → is_blank b ≡ v → slice_split is_blank bs ≡ before_first is_blank bs ∷ later_parts (from_first is_blank bs) → slice_split is_blank (b ∷ bs) ≡ before_first is_blank (b ∷ bs) ∷ later_parts (from_first is_blank (b ∷ bs))
  unfolding later_parts
  slice_split-by true e h = rw e refl
  slice_split-by false e h =
      slice_split-letter b bs e ∙ ap (onto_first b) h
      ∙ sym (ap (λ w. w ∷ later_parts (from_first is_blank (b ∷ bs))) (before_blank-letter b bs e)
      ∙ ap (λ w. (b ∷ before_first is_blank bs) ∷ later_parts w) (from_blank-letter b bs e))

  later_words-by : (v : Bool) → is_blank b ≡ v → filter has_some (later_parts (from_first is_blank bs)) ≡ words_of (from_first is_blank bs) → filter has_some (later_parts (from_first is_blank (b ∷ bs))) ≡ words_of (from_first is_blank (b ∷ bs))
  unfolding later_parts
  later_words-by true e h = ap (λ w. filter has_some (later_parts w)) (from_blank-blank b bs e) ∙ sym (words_of-blank b bs e) ∙ sym (ap words_of (from_blank-blank b bs e))
  later_words-by false e h = ap (λ w. filter has_some (later_parts w)) (from_blank-letter b bs e) ∙ h ∙ sym (ap words_of (from_blank-letter b bs e))

slice_split-first : (bs : List ℕ) → slice_split is_blank bs ≡ before_first is_blank bs ∷ later_parts (from_first is_blank bs)
unfolding later_parts
slice_split-first [] = refl
slice_split-first (b ∷ bs) = slice_split-by b bs (is_blank b) refl (slice_split-first bs)

later_words : (bs : List ℕ) → filter has_some (later_parts (from_first is_blank bs)) ≡ words_of (from_first is_blank bs)
unfolding later_parts
later_words [] = refl
later_words (b ∷ bs) = later_words-by b bs (is_blank b) refl (later_words bs)

-- a line that begins with a letter begins with its first word
words_of-letter : (b : ℕ) (bs : List ℕ) → is_blank b ≡ false → words_of (b ∷ bs) ≡ before_first is_blank (b ∷ bs) ∷ words_of (from_first is_blank (b ∷ bs))
words_of-letter b bs e =
    ap (filter has_some) (slice_split-first (b ∷ bs))
    ∙ rw (before_blank-letter b bs e) (ap (λ (ws : List (List ℕ)). (b ∷ before_first is_blank bs) ∷ ws) (later_words (b ∷ bs)))

-- the words of these bytes are a first word, which has a byte, and those that follow it
pub record IsFirstWord (bytes : List ℕ) : Type 0 where
  pub words : words_of bytes ≡ before_first is_blank bytes ∷ words_of (from_first is_blank bytes)
  pub filled : 0 < length (before_first is_blank bytes)

next_word-by : (b : ℕ) (bs : List ℕ) (v : Bool) → is_blank b ≡ v → (0 < length (from_first is_letter bs) → IsFirstWord (from_first is_letter bs)) → 0 < length (from_first is_letter (b ∷ bs)) → IsFirstWord (from_first is_letter (b ∷ bs))
next_word-by b bs true e h l = subst IsFirstWord (sym (from_letter-blank b bs e)) (h (omega (arith, ap length (from_letter-blank b bs e))))
next_word-by b bs false e h l = subst IsFirstWord (sym (from_letter-letter b bs e)) record {
  words = words_of-letter b bs e;
  filled = omega (arith, ap length (before_blank-letter b bs e));
}

next_word : (line : List ℕ) → 0 < length (from_first is_letter line) → IsFirstWord (from_first is_letter line)
next_word [] l = absurd (omega arith)
next_word (b ∷ bs) l = next_word-by b bs (is_blank b) refl (next_word bs) l

-- what is split off past the blanks is the first word
pub first_word_is : (line rest word after : List ℕ) → rest ≡ from_first is_letter line → 0 < length rest → word ≡ before_first is_blank rest → after ≡ from_first is_blank rest → (words_of line ≡ word ∷ words_of after) × (0 < length word)
first_word_is line rest word after rest_is some word_is after_is =
    let first = subst IsFirstWord (sym rest_is) (next_word line (omega (arith, ap length rest_is))) in (
      sym (words_of-after_blanks line) ∙ ap words_of (sym rest_is) ∙ first.words
          ∙ ap (λ (w : List ℕ). w ∷ words_of (from_first is_blank rest)) (sym word_is)
          ∙ ap (λ (w : List ℕ). word ∷ words_of w) (sym after_is),
      omega (arith, first.filled, ap length word_is),
    )

pub no_word : (line rest : List ℕ) → rest ≡ from_first is_letter line → length rest ≡ 0 → words_of line ≡ []
no_word line [] is none = sym (words_of-after_blanks line) ∙ sym (ap words_of is)
no_word line (b ∷ bs) is none = absurd (omega arith)
