-- A digest: what is opened, and hashes of what else a board holds (this project).
use Rattle.std.specs.Prelude.{List}
use Rattle.squall_board.specs.declared.opening.Opening.{Opening}
use Rattle.squall_wire.specs.declared.digest.IssueRow.{IssueRow}
use Rattle.squall_wire.specs.declared.digest.DigestRow.{DigestRow}
use Rattle.squall_wire.specs.Limits.{AreListed, FitsOpening, after_opening, FitsIssueRow, after_issue_row, FitsRow, after_row}

pub record DigestValue : Type 0 where
  pub openings : List Opening
  pub issue_rows : List IssueRow
  pub rows : List DigestRow

abbrev pub digest_with : List Opening → List IssueRow → List DigestRow → DigestValue
digest_with openings issue_rows rows = record { openings = openings; issue_rows = issue_rows; rows = rows }

-- each list in order and within its limits
pub record IsDigest (d : DigestValue) : Type 0 where
  pub openings : AreListed FitsOpening after_opening 0 d.openings
  pub issue_rows : AreListed FitsIssueRow after_issue_row 0 d.issue_rows
  pub rows : AreListed FitsRow after_row (0, 0) d.rows
