-- What comes of words, one after the other.
use Rattle.std.proofs.Common.{◌≡◌, ℕ, suc, ◌+◌, ◌<◌, ◌≤◌, ◌++◌, List, [], ◌∷◌, Bool, true, false, length, map, drop, refl, sym, ap, subst, ◌∙◌, arith}
use Rattle.std.proofs.Math.Seq.{drop-cons}
use Rattle.std.proofs.lemmas.Bool.{false≢true}
use Rattle.std.proofs.lemmas.List.{append_assoc}
use Rattle.std.specs.Prelude.{slice_index_or, if◌then◌else◌}
use Rattle.squall_cli_boards.specs.Answers.{AnswerValue, answer_with}
use Rattle.squall_cli_boards.specs.Routes.{after_text, routes_answer, named_line, named_lines}

-- the words that are left begin with the next one
pub left_words : {X : Type 0} (f : X → List ℕ) (xs : List X) (n : ℕ) (x : X) (word : List ℕ) → n < length xs → x ≡ slice_index_or xs n x → word ≡ f x
    → map f (drop n xs) ≡ word ∷ map f (drop (n + 1) xs)
left_words f xs n x word below is text =
    let next : suc n ≡ n + 1 = omega arith in
    let cut : drop n xs ≡ x ∷ drop (n + 1) xs = drop-cons xs n x below ∙ ap (λ m. slice_index_or xs n x ∷ drop m xs) next ∙ ap (λ y. y ∷ drop (n + 1) xs) (sym is) in
    ap (map f) cut ∙ ap (λ w. w ∷ map f (drop (n + 1) xs)) (sym text)

module _ (to_part : ℕ → ℕ) (before after word : List ℕ) (left rest : List (List ℕ)) (whole : AnswerValue) where
  -- a word is refused, and ends the answer
  pub word_refused : (refused : Bool) → left ≡ word ∷ rest → after_text before (routes_answer to_part left) ≡ whole
      → after_text before (routes_answer to_part (word ∷ rest)) ≡ (if refused then answer_with after true else after_text after (routes_answer to_part rest))
      → refused ≡ true → answer_with after true ≡ whole
  word_refused true is all step e = sym step ∙ subst (λ w. after_text before (routes_answer to_part w) ≡ whole) is all
  word_refused false is all step e = absurd (false≢true e)

  -- a word is answered, and the others follow
  pub word_answered : (refused : Bool) → left ≡ word ∷ rest → after_text before (routes_answer to_part left) ≡ whole
      → after_text before (routes_answer to_part (word ∷ rest)) ≡ (if refused then answer_with after true else after_text after (routes_answer to_part rest))
      → refused ≡ false → after_text after (routes_answer to_part rest) ≡ whole
  word_answered false is all step e = sym step ∙ subst (λ w. after_text before (routes_answer to_part w) ≡ whole) is all
  word_answered true is all step e = absurd (false≢true (sym e))

-- a name is answered, and the others follow
pub name_answered : (to_part : ℕ → ℕ) (before after word : List ℕ) (left rest : List (List ℕ)) (whole : List ℕ) → after ≡ before ++ named_line to_part word → left ≡ word ∷ rest
    → before ++ named_lines to_part left ≡ whole → after ++ named_lines to_part rest ≡ whole
name_answered to_part before after word left rest whole more is all =
    ap (λ (l : List ℕ). l ++ named_lines to_part rest) more ∙ append_assoc before (named_line to_part word) (named_lines to_part rest)
    ∙ ap (λ (l : List (List ℕ)). before ++ named_lines to_part l) (sym is) ∙ all
