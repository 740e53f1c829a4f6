-- What words write: ranges, three words each, and spans.
use Rattle.std.proofs.Common.{◌≡◌, ◌∙◌, ℕ, ◌<◌, ◌≤◌, ◌++◌, List, [], ◌∷◌, Result, Ok, Err, length, map, get_or, take, drop, ◌-◌, false, refl, sym, ap, arith}
use Rattle.std.specs.Prelude.{◌≢◌, ◌==◌}
use Rattle.std.specs.Borrow.{Bor}
use Rattle.std.proofs.Math.Seq.{take-length}
use Rattle.std.proofs.lemmas.List.{append_assoc, append-nil}
use Rattle.squall_span.specs.Spans.{Interval}
use Rattle.squall_plan.specs.declared.range.PlanRange.{PlanRange}
use Rattle.squall_cli_boards.specs.declared.words.WordFault.TheVariants.{NoSpan, NoPart}
use Rattle.squall_cli_boards.specs.declared.words.Phrase.{Phrase}
use Rattle.squall_cli_boards.specs.declared.words.Phrase.TheVariants.{Two}
use Rattle.squall_cli_boards.specs.BadWords.{BadValue, bad_words, phrase_seen, spaced}
use Rattle.squall_cli_boards.specs.Routes.{span_asked}
use Rattle.squall_cli_boards.specs.Planned.{piece_in, after_parts, piece_first, parts_of_words}

-- ---- two words

pub pair_spaced : (p : Phrase) (word other : Bor (List ℕ)) → p ≡ Two word other → word.now ++ 32 ∷ other.now ≡ spaced (phrase_seen p)
pair_spaced p word other is = ap (λ (t : List ℕ). word.now ++ 32 ∷ t) (sym (append-nil other.now)) ∙ ap (λ (q : Phrase). spaced (phrase_seen q)) (sym is)

-- ---- three words

part_more : (before : List PlanRange) (range : PlanRange) (rest : Result (List PlanRange) BadValue)
    → after_parts before (after_parts (range ∷ []) rest) ≡ after_parts (before ++ range ∷ []) rest
part_more before range (Ok parts) = ap Ok (sym (append_assoc before (range ∷ []) parts))
part_more before range (Err bad) = refl

module _ (before : List PlanRange) (from to part : List ℕ) (rest : List (List ℕ)) (whole : Result (List PlanRange) BadValue)
    (all : after_parts before (parts_of_words (from ∷ to ∷ part ∷ rest)) ≡ whole) where
  pub piece_taken : (range : PlanRange) → piece_in from to part ≡ Ok range → after_parts (before ++ range ∷ []) (parts_of_words rest) ≡ whole
  piece_taken range is = sym (part_more before range (parts_of_words rest)) ∙ ap (λ p. after_parts before (piece_first p (parts_of_words rest))) (sym is) ∙ all

  pub piece_refused : (bad : BadValue) → piece_in from to part ≡ Err bad → Err bad ≡ whole
  piece_refused bad is = ap (λ p. after_parts before (piece_first p (parts_of_words rest))) (sym is) ∙ all

-- the first three words are taken, and the others are left
pub three_taken : {X : Type 0} (f : X → List ℕ) (xs : List X) (a b d : X) (from to part : List ℕ) (before after : List PlanRange) (range : PlanRange)
    (whole : Result (List PlanRange) BadValue) → after ≡ before ++ range ∷ [] → 3 ≤ length xs → a ≡ get_or xs 0 a → b ≡ get_or xs 1 b → d ≡ get_or xs 2 d → from ≡ f a → to ≡ f b → part ≡ f d
    → Ok range ≡ piece_in from to part → after_parts before (parts_of_words (map f xs)) ≡ whole
    → after_parts after (parts_of_words (map f (take (length xs - 3) (drop 3 xs)))) ≡ whole
three_taken f [] a b d from to part before after range whole more three ia ib id fa tb pd piece all = absurd (omega (arith, three))
three_taken f (x ∷ []) a b d from to part before after range whole more three ia ib id fa tb pd piece all = absurd (omega (arith, three))
three_taken f (x ∷ y ∷ []) a b d from to part before after range whole more three ia ib id fa tb pd piece all = absurd (omega (arith, three))
three_taken f (x ∷ y ∷ z ∷ rest) a b d from to part before after range whole more three ia ib id fa tb pd piece all =
    let left : length (x ∷ y ∷ z ∷ rest) - 3 ≡ length rest = omega arith in
    let same : take (length (x ∷ y ∷ z ∷ rest) - 3) rest ≡ rest = ap (λ n. take n rest) left ∙ take-length rest in
    let is : piece_in (f x) (f y) (f z) ≡ Ok range =
    sym (piece ∙ ap (λ w. piece_in w to part) (fa ∙ ap f ia) ∙ ap (λ w. piece_in (f x) w part) (tb ∙ ap f ib) ∙ ap (piece_in (f x) (f y)) (pd ∙ ap f id)) in
    ap (λ (l : List PlanRange). after_parts l (parts_of_words (map f (take (length (x ∷ y ∷ z ∷ rest) - 3) rest)))) more
    ∙ ap (λ l. after_parts (before ++ range ∷ []) (parts_of_words (map f l))) same ∙ piece_taken before (f x) (f y) (f z) (map f rest) whole all range is

-- ---- the last words

pub words_end : (before : List PlanRange) (whole : Result (List PlanRange) BadValue) → after_parts before (parts_of_words []) ≡ whole → Ok before ≡ whole
words_end before whole all = ap Ok (sym (append-nil before)) ∙ all

pub some_words : {X : Type 0} (xs : List X) → (length xs == 0) ≡ false → xs ≢ []
some_words [] e = λ same. cc
some_words (x ∷ xs) e = λ same. cc

pub few_words : {X : Type 0} (f : X → List ℕ) (xs : List X) (before : List PlanRange) (whole : Result (List PlanRange) BadValue)
    → length xs < 3 → xs ≢ [] → after_parts before (parts_of_words (map f xs)) ≡ whole → Err (bad_words (map f xs) NoPart) ≡ whole
few_words f [] before whole few some all = absurd (some refl)
few_words f (x ∷ []) before whole few some all = all
few_words f (x ∷ y ∷ []) before whole few some all = all
few_words f (x ∷ y ∷ z ∷ xs) before whole few some all = absurd (omega (arith, few))

-- ---- words that are not two bounds

pub one_is_no_span : {X : Type 0} (f : X → List ℕ) (xs : List X) → 1 ≤ length xs → length xs < 2 → Err (bad_words (map f xs) NoSpan) ≡ span_asked (map f xs)
one_is_no_span f [] some few = absurd (omega (arith, some))
one_is_no_span f (x ∷ []) some few = refl
one_is_no_span f (x ∷ y ∷ xs) some few = absurd (omega (arith, few))

pub three_are_no_span : {X : Type 0} (f : X → List ℕ) (xs : List X) → 3 ≤ length xs → Err (bad_words (map f xs) NoSpan) ≡ span_asked (map f xs)
three_are_no_span f [] some = absurd (omega (arith, some))
three_are_no_span f (x ∷ []) some = absurd (omega (arith, some))
three_are_no_span f (x ∷ y ∷ []) some = absurd (omega (arith, some))
three_are_no_span f (x ∷ y ∷ z ∷ xs) some = refl
