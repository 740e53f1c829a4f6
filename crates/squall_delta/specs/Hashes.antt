-- What boards have, as hashes (FIPS 180-4 for SHA-256; the form is this project's).
use Rattle.std.specs.Prelude.{ℕ, List, [], map}
use Rattle.std.specs.List.{flat_map}
use Rattle.std.specs.Ordering.{nat_cmp}
use Rattle.std.specs.FinMap.Entries.{find}
use Rattle.sha2.specs.Sha256.{sha256}
use Rattle.squall_join.specs.declared.flat.Flat.{Flat}
use Rattle.squall_join.specs.Looked.{looked}
use Rattle.squall_report.specs.Issues.{PlanPair}
use Rattle.squall_board.specs.Boards.{Parts, BoardValue, cells_in, found_in}
use Rattle.squall_board.specs.Listed.{cells_of_parts, openings_of, issues_of}
use Rattle.squall_wire.specs.declared.digest.IssueRow.{IssueRow}
use Rattle.squall_wire.specs.declared.digest.DigestRow.{DigestRow}
use Rattle.squall_wire.specs.DigestValue.{DigestValue, digest_with}
use Rattle.squall_wire.specs.Spelling.{spell_cell, spell_issue}

-- a row: the cells of one number and sub-plan, by partition. Its hash is that of the bytes of its cells in a delta, one after the
-- other
abbrev pub row_hash : ℕ → ℕ → Parts → List ℕ
row_hash number sub parts = sha256 (flat_map spell_cell (cells_of_parts number sub parts))

-- the hash of the bytes in a delta of what is issued under a number
abbrev pub issue_hash : ℕ → Flat PlanPair → List ℕ
issue_hash number issue = sha256 (spell_issue (number, issue))

abbrev pub row_of : ℕ → ℕ × Parts → DigestRow
row_of number e = record { number = number; sub = e.0; hash = row_hash number e.0 e.1 }

abbrev pub issue_row_of : ℕ × Flat PlanPair → IssueRow
issue_row_of e = record { number = e.0; hash = issue_hash e.0 e.1 }

-- a hash of each row of the board, by number and sub-plan
abbrev pub rows_of : BoardValue → List DigestRow
rows_of b = flat_map (λ e. map (row_of e.0) e.1) (cells_in b)

-- the openings of the board, a hash of each issue, and a hash of each row
abbrev pub digest_of : BoardValue → DigestValue
digest_of b = digest_with (openings_of b) (map issue_row_of (issues_of b)) (rows_of b)

-- the row of a number and sub-plan on a board; one that is not there has no cell
abbrev pub row_in : BoardValue → ℕ → ℕ → Parts
row_in b number sub = looked [] (found_in sub (find nat_cmp number (cells_in b)))
