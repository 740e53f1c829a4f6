-- How much a board tells, in numbers, and which issues clash (this project).
use Rattle.std.specs.Prelude.{◌≡◌, ℕ, ◌+◌, ◌<◌, ◌≤◌, nat_lt, min, Bool, true, false, ◌&&◌, List, length}
use Rattle.std.specs.List.{list_any, sum_by}
use Rattle.squall_join.specs.declared.flat.Flat.{Flat}
use Rattle.squall_join.specs.declared.flat.Flat.TheVariants.{Unknown, One, Clash}
use Rattle.squall_report.specs.Issues.{PlanPair}
use Rattle.squall_board.specs.declared.opening.Opening.{Opening}
use Rattle.squall_board.specs.Boards.{BoardValue}
use Rattle.squall_board.specs.Listed.{CellEntry, cells_of, openings_of, issues_of}
use Rattle.squall_status.specs.declared.tally.Tally.{Tally}

-- ---- clashes

-- different pairs of plans were issued under some number above the given one
abbrev pub HasClashAbove : (ℕ → Flat PlanPair) → ℕ → Type 0
HasClashAbove issues low = (n : ℕ) × (low < n) × (issues n ≡ Clash)

-- what is issued is a clash
abbrev pub is_clash : Flat PlanPair → Bool
is_clash Unknown = false
is_clash (One p) = false
is_clash Clash = true

-- an entry of a list of issues is a clash, and its number is above the given one
abbrev pub clash_above : ℕ → ℕ × Flat PlanPair → Bool
clash_above low e = nat_lt low e.0 && is_clash e.1

-- some entry is
abbrev pub has_clash_above : ℕ → List (ℕ × Flat PlanPair) → Bool
has_clash_above low es = list_any (clash_above low) es

-- ---- numbers

-- the number, or the greatest one of 64 bits
abbrev pub at_most_64_bits : ℕ → ℕ
at_most_64_bits n = min n 18446744073709551615

-- how many spans were loaded at a cell
abbrev pub spans_of : CellEntry → ℕ
spans_of c = length c.spans

-- how many sub-plans are opened under a number
abbrev pub sub_plans_of : Opening → ℕ
sub_plans_of o = o.count

-- how many cells, loaded spans, opened sub-plans and issued numbers a board has
abbrev pub tally_of : BoardValue → Tally
tally_of b = record {
  cells = length (cells_of b);
  spans = at_most_64_bits (sum_by spans_of (cells_of b));
  opened = at_most_64_bits (sum_by sub_plans_of (openings_of b));
  issues = length (issues_of b);
}

-- ---- limits

-- each number of a tally is at most that of another
pub record IsWithin (t most : Tally) : Type 0 where
  pub cells : t.cells ≤ most.cells
  pub spans : t.spans ≤ most.spans
  pub opened : t.opened ≤ most.opened
  pub issues : t.issues ≤ most.issues

-- the numbers of two tallies, added
abbrev pub tally_sum : Tally → Tally → Tally
tally_sum s t = record {
  cells = s.cells + t.cells;
  spans = s.spans + t.spans;
  opened = s.opened + t.opened;
  issues = s.issues + t.issues;
}

-- each number fits 64 bits
pub record FitsTally (t : Tally) : Type 0 where
  pub cells : t.cells < 18446744073709551616
  pub spans : t.spans < 18446744073709551616
  pub opened : t.opened < 18446744073709551616
  pub issues : t.issues < 18446744073709551616
