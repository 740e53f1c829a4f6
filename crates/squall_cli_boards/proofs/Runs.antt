-- What words write: runs of partitions.
use Rattle.std.proofs.Common.{◌≡◌, ◌∙◌, ℕ, suc, ◌<◌, ◌≤◌, ◌+◌, ◌-◌, ◌++◌, List, [], ◌∷◌, Result, Ok, Err, refl, sym, ap, arith}
use Rattle.std.specs.List.{range_with_len}
use Rattle.std.proofs.lemmas.List.{append_assoc, append-nil}
use Rattle.squall_cli_boards.specs.BadWords.{BadValue}
use Rattle.squall_cli_boards.specs.Planned.{after_parts}
use Rattle.squall_cli_boards.specs.Shared.{run_in, parts_of_run, run_first, parts_listed}

-- ---- the partitions of a run

range_first : (a n m : ℕ) → n ≡ suc m → range_with_len a n ≡ a ∷ range_with_len (a + 1) m
range_first a n m is = ap (range_with_len a) is

pub run_more : (before after whole : List ℕ) (number end : ℕ) → number < end → after ≡ before ++ number ∷ []
    → before ++ range_with_len number (end - number) ≡ whole → after ++ range_with_len (number + 1) (end - (number + 1)) ≡ whole
run_more before after whole number end lt more all =
    let next : range_with_len number (end - number) ≡ number ∷ range_with_len (number + 1) (end - (number + 1)) = range_first number (end - number) (end - (number + 1)) (omega (arith, lt)) in
    ap (λ (l : List ℕ). l ++ range_with_len (number + 1) (end - (number + 1))) more ∙ append_assoc before (number ∷ []) (range_with_len (number + 1) (end - (number + 1)))
    ∙ ap (λ (l : List ℕ). before ++ l) (sym next) ∙ all

-- ---- the partitions of words

listed_more : (before run : List ℕ) (rest : Result (List ℕ) BadValue) → after_parts before (after_parts run rest) ≡ after_parts (before ++ run) rest
listed_more before run (Ok parts) = ap Ok (sym (append_assoc before run parts))
listed_more before run (Err bad) = refl

module _ (before : List ℕ) (word : List ℕ) (left rest : List (List ℕ)) (whole : Result (List ℕ) BadValue)
    (is : left ≡ word ∷ rest) (all : after_parts before (parts_listed left) ≡ whole) where
  first : after_parts before (run_first (run_in word) (parts_listed rest)) ≡ whole
  first = ap (λ (l : List (List ℕ)). after_parts before (parts_listed l)) (sym is) ∙ all

  pub run_taken : (after : List ℕ) (run : ℕ × ℕ) → Ok run ≡ run_in word → after ≡ before ++ parts_of_run run → after_parts after (parts_listed rest) ≡ whole
  run_taken after run taken more =
      ap (λ (l : List ℕ). after_parts l (parts_listed rest)) more ∙ sym (listed_more before (parts_of_run run) (parts_listed rest))
      ∙ ap (λ r. after_parts before (run_first r (parts_listed rest))) taken ∙ first

  pub run_refused : (bad : BadValue) → Err bad ≡ run_in word → Err bad ≡ whole
  run_refused bad refused = ap (λ r. after_parts before (run_first r (parts_listed rest))) refused ∙ first

pub runs_end : (before : List ℕ) (whole : Result (List ℕ) BadValue) → after_parts before (parts_listed []) ≡ whole → Ok before ≡ whole
runs_end before whole all = ap Ok (sym (append-nil before)) ∙ all

pub run_ends : (before whole : List ℕ) (number end : ℕ) → end ≤ number → before ++ range_with_len number (end - number) ≡ whole → before ≡ whole
run_ends before whole number end le all =
    let none : end - number ≡ 0 = omega (arith, le) in
    sym (append-nil before) ∙ ap (λ (n : ℕ). before ++ range_with_len number n) (sym none) ∙ all
