-- What one board tells beyond another (this project).
use Rattle.std.specs.Prelude.{◌≡◌, ℕ, Bool, not, ◌&&◌, nat_lt, nat_le, if◌then◌else◌, []}
use Rattle.std.specs.Ordering.{nat_cmp}
use Rattle.squall_span.specs.Spans.{minus}
use Rattle.squall_join.specs.declared.flat.Flat.{Flat}
use Rattle.squall_join.specs.declared.flat.Flat.TheVariants.{Unknown}
use Rattle.squall_join.specs.Rests.{max_beyond, flag_covered, flag_beyond, set_covered, flat_covered, flat_beyond, pair_covered, pair_beyond, map_covered, map_beyond}
use Rattle.squall_report.specs.Issues.{PlanPair, is_same_pair}
use Rattle.squall_report.specs.Cells.{CellPlace}
use Rattle.squall_report.specs.Facts.{LoadedKey, DonePart}
use Rattle.squall_board.specs.Boards.{CellValue, Parts, Subs, Cells, BoardValue, cell_bottom, opened_count, issued, says}

-- what is issued, if the other does not cover it: one pair of plans beyond nothing and beyond another pair, and a clash beyond
-- all but a clash
abbrev pub issue_beyond : Flat PlanPair → Flat PlanPair → Flat PlanPair
issue_beyond = flat_beyond is_same_pair

-- what the first board tells that the second does not: the loads and completions that it lacks, and each count of openings that
-- is greater than its own. Also what is issued under each number, unless the second covers it
pub record TellsBeyond (a b c : BoardValue) : Type 0 where
  pub loaded : (p : CellPlace) (k : ℕ) → says c (LoadedKey p k) ≡ (says a (LoadedKey p k) && not (says b (LoadedKey p k)))
  pub done : (p : CellPlace) → says c (DonePart p) ≡ (says a (DonePart p) && not (says b (DonePart p)))
  pub opened : (n : ℕ) → opened_count c n ≡ (if nat_lt (opened_count b n) (opened_count a n) then opened_count a n else 0)
  pub issues : (n : ℕ) → issued c n ≡ issue_beyond (issued a n) (issued b n)

-- ---- as nested maps

-- the keys of the cell that the other lacks, and done if the cell is done and the other is not
abbrev pub cell_beyond : CellValue → CellValue → CellValue
cell_beyond = pair_beyond minus flag_beyond

abbrev pub cell_covered : CellValue → CellValue → Bool
cell_covered = pair_covered set_covered flag_covered

abbrev pub parts_beyond : Parts → Parts → Parts
parts_beyond = map_beyond nat_cmp cell_covered cell_beyond

abbrev pub parts_covered : Parts → Parts → Bool
parts_covered = map_covered nat_cmp cell_bottom cell_covered

abbrev pub subs_beyond : Subs → Subs → Subs
subs_beyond = map_beyond nat_cmp parts_covered parts_beyond

abbrev pub subs_covered : Subs → Subs → Bool
subs_covered = map_covered nat_cmp [] parts_covered

abbrev pub cells_beyond : Cells → Cells → Cells
cells_beyond = map_beyond nat_cmp subs_covered subs_beyond

abbrev pub board_beyond : BoardValue → BoardValue → BoardValue
board_beyond = pair_beyond (pair_beyond (map_beyond nat_cmp nat_le max_beyond) (map_beyond nat_cmp (flat_covered is_same_pair) issue_beyond)) cells_beyond

-- the other board has all of it
abbrev pub board_covered : BoardValue → BoardValue → Bool
board_covered = pair_covered (pair_covered (map_covered nat_cmp 0 nat_le) (map_covered nat_cmp Unknown (flat_covered is_same_pair))) (map_covered nat_cmp [] subs_covered)
