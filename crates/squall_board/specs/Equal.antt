-- Boards compared (this project: boards are equal if all that they hold is).
use Rattle.std.specs.Prelude.{ℕ, Bool, true, false, not, ◌&&◌, ◌==◌, List}
use Rattle.std.specs.Cmp.Lexicographic.{pointwise}
use Rattle.squall_span.specs.Spans.{spans_eq}
use Rattle.squall_join.specs.declared.flat.Flat.{Flat}
use Rattle.squall_join.specs.declared.flat.Flat.TheVariants.{Unknown, One, Clash}
use Rattle.squall_report.specs.Issues.{PlanPair, is_same_pair}
use Rattle.squall_board.specs.Boards.{CellValue, BoardValue, openings_in, issues_in, cells_in}

abbrev pub is_same_flat : Flat PlanPair → Flat PlanPair → Bool
is_same_flat Unknown Unknown = true
is_same_flat Unknown (One q) = false
is_same_flat Unknown Clash = false
is_same_flat (One p) Unknown = false
is_same_flat (One p) (One q) = is_same_pair p q
is_same_flat (One p) Clash = false
is_same_flat Clash Unknown = false
is_same_flat Clash (One q) = false
is_same_flat Clash Clash = true

-- the same numbers, with the same values by the test
abbrev pub are_same_entries : {V : Type 0} → (V → V → Bool) → List (ℕ × V) → List (ℕ × V) → Bool
are_same_entries E xs ys = pointwise (λ x y. (x.0 == y.0) && E x.1 y.1) xs ys

abbrev pub is_same_flag : Bool → Bool → Bool
is_same_flag true b = b
is_same_flag false b = not b

abbrev pub is_same_cell_value : CellValue → CellValue → Bool
is_same_cell_value x y = spans_eq x.first y.first && is_same_flag x.second y.second

-- the same openings, issues and cells
abbrev pub is_same_board : BoardValue → BoardValue → Bool
is_same_board x y =
    are_same_entries ◌==◌ (openings_in x) (openings_in y)
    && (are_same_entries is_same_flat (issues_in x) (issues_in y)
    && are_same_entries (are_same_entries (are_same_entries is_same_cell_value)) (cells_in x) (cells_in y))
