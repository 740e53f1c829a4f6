-- A board with some of a list's items joined in (this project).
use Rattle.std.specs.Prelude.{ℕ, Bool, not, nat_lt, if◌then◌else◌, List, [], ◌∷◌}
use Rattle.squall_join.specs.declared.flat.Flat.{Flat}
use Rattle.squall_report.specs.Issues.{PlanPair}
use Rattle.squall_board.specs.declared.opening.Opening.{Opening}
use Rattle.squall_board.specs.Boards.{Parts, Subs, Cells, BoardValue, empty_board, board_join, opening_board, issue_board, row_board, cells_in}
use Rattle.squall_board.specs.Listed.{openings_of, issues_of}
use Rattle.squall_wire.specs.DigestValue.{DigestValue}
use Rattle.squall_delta.specs.Hashes.{row_hash, issue_hash}
use Rattle.squall_delta.specs.Repairs.{count_in, shows_issue, shows_row}

-- the board with the board of each item joined in that is kept
abbrev pub with_kept : {X : Type 0} → (X → Bool) → (X → BoardValue) → BoardValue → List X → BoardValue
with_kept keep make b [] = b
with_kept keep make b (x ∷ xs) = with_kept keep make (if keep x then board_join b (make x) else b) xs

-- the list of openings has a lower count
abbrev pub is_newer : List Opening → Opening → Bool
is_newer os o = nat_lt (count_in os o.number) o.count

-- the digest does not show the issue
abbrev pub lacks_issue : DigestValue → ℕ × Flat PlanPair → Bool
lacks_issue d e = not (shows_issue d e.0 (issue_hash e.0 e.1))

-- the digest does not show the row
abbrev pub lacks_row : DigestValue → ℕ → ℕ × Parts → Bool
lacks_row d number e = not (shows_row d number e.0 (row_hash number e.0 e.1))

-- the board with each opening joined in of which the list has a lower count
abbrev pub with_newer_openings : List Opening → BoardValue → List Opening → BoardValue
with_newer_openings os = with_kept (is_newer os) (λ o. opening_board o.number o.count)

-- the board with each issue joined in that the digest lacks
abbrev pub with_lacking_issues : DigestValue → BoardValue → List (ℕ × Flat PlanPair) → BoardValue
with_lacking_issues d = with_kept (lacks_issue d) (λ e. issue_board e.0 e.1)

-- the board with each row of the number joined in that the digest lacks
abbrev pub with_lacking_rows : DigestValue → ℕ → BoardValue → Subs → BoardValue
with_lacking_rows d number = with_kept (lacks_row d number) (λ e. row_board number e.0 e.1)

-- the board with each row joined in that the digest lacks
abbrev pub with_lacking_cells : DigestValue → BoardValue → Cells → BoardValue
with_lacking_cells d b [] = b
with_lacking_cells d b (e ∷ es) = with_lacking_cells d (with_lacking_rows d e.0 b e.1) es

-- the board of what the digest lacks of the board
abbrev pub lacking : BoardValue → DigestValue → BoardValue
lacking b d = with_lacking_cells d (with_lacking_issues d (with_newer_openings d.openings empty_board (openings_of b)) (issues_of b)) (cells_in b)
