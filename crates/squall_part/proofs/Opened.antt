-- How many sub-plans can be opened.
use Rattle.std.proofs.Common.{◌≡◌, ℕ, ◌≤◌, true, nat_lt, ◌∙◌, arith, inl, inr}
use Rattle.std.proofs.lemmas.Bool.{cases_lt}
use Rattle.std.proofs.lemmas.Bool.Decides.{nat_tests}
use Rattle.squall_key.specs.Keys.{part_limit}
use Rattle.squall_report.specs.Facts.{OpenedSub}
use Rattle.squall_board.specs.Boards.{BoardValue, IsBoard, opened_count}
use Rattle.squall_board.specs.BoardLaws.{opened_found}

pub opened_few : (b : BoardValue) (n : ℕ) → IsBoard b → opened_count b n ≤ part_limit
opened_few b n is = elim (cases_lt part_limit (opened_count b n)) [
  | inl lt ↦
      let t : nat_lt part_limit (opened_count b n) ≡ true = grind (arith, nat_tests) in
      let f = is.facts (OpenedSub n part_limit) (opened_found b n part_limit ∙ t) in
      let bad : ⊥ = grind (arith, nat_tests) in absurd bad
  | inr ge ↦ ge
]
