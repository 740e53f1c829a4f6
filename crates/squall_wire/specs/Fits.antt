-- What the writing of a board's entries shows of them (this project).
use Rattle.std.specs.Prelude.{ℕ, ◌<◌}
use Rattle.squall_join.specs.declared.flat.Flat.{Flat}
use Rattle.squall_join.specs.Flats.{flat_is}
use Rattle.squall_report.specs.Issues.{PlanPair}
use Rattle.squall_board.specs.declared.opening.Opening.{Opening}
use Rattle.squall_board.specs.Listed.{CellEntry}
use Rattle.squall_wire.specs.Limits.{word_limit, FitsPlan}

-- both plans of a pair, if there is one, fit
abbrev pub ArePlans : Flat PlanPair → Type 0
ArePlans = flat_is (λ pair. FitsPlan pair.old × FitsPlan pair.new)

-- four bytes hold the number
abbrev pub IsWordOpening : Opening → Type 0
IsWordOpening o = o.number < word_limit

-- four bytes hold the number, and the plans fit
pub record IsWordIssue (e : ℕ × Flat PlanPair) : Type 0 where
  pub word : e.0 < word_limit
  pub plans : ArePlans e.1

-- four bytes hold the number
abbrev pub IsWordCell : CellEntry → Type 0
IsWordCell c = c.cell.number < word_limit
