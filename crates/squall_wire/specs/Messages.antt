-- What the bodies of frames say, and which bytes spell a message (this project's form).
use Rattle.std.specs.Prelude.{ℕ, ◌≤◌, List, [], ◌∷◌, ◌++◌, length}
use Rattle.squall_join.specs.declared.flat.Flat.{Flat}
use Rattle.squall_report.specs.Issues.{PlanPair}
use Rattle.squall_board.specs.declared.opening.Opening.{Opening}
use Rattle.squall_board.specs.Boards.{BoardValue, IsBoard}
use Rattle.squall_board.specs.Listed.{CellEntry, openings_of, issues_of, cells_of}
use Rattle.squall_wire.specs.declared.message.Message.{Message}
use Rattle.squall_wire.specs.declared.message.Message.TheVariants.{Delta, Digest}
use Rattle.squall_wire.specs.DigestValue.{DigestValue, IsDigest}
use Rattle.squall_wire.specs.Limits.{body_limit, no_place, AreListed, FitsOpening, after_opening, FitsIssue, after_issue, FitsCell, after_cell}
use Rattle.squall_wire.specs.Spelling.{word, spell_list, spell_some, spell_opening, spell_issue, spell_cell, spell_issue_row, spell_row}

-- the lists that a board is sent as
pub record BoardLists : Type 0 where
  pub openings : List Opening
  pub issues : List (ℕ × Flat PlanPair)
  pub cells : List CellEntry

abbrev pub lists_with : List Opening → List (ℕ × Flat PlanPair) → List CellEntry → BoardLists
lists_with openings issues cells = record { openings = openings; issues = issues; cells = cells }

abbrev pub lists_of : BoardValue → BoardLists
lists_of b = lists_with (openings_of b) (issues_of b) (cells_of b)

-- what the body of a frame says: the lists of a board, or a digest
pub data Body : Type 0 where
  lists : BoardLists → Body
  rows : DigestValue → Body

abbrev pub body_of : Message → Body
body_of (Delta b) = lists (lists_of b)
body_of (Digest d) = rows d

-- ---- the spelling

abbrev pub spell_lists : BoardLists → List ℕ
spell_lists d = spell_list spell_opening d.openings ++ (spell_some spell_issue d.issues ++ spell_list spell_cell d.cells)

abbrev pub spell_digest : DigestValue → List ℕ
spell_digest d = spell_list spell_opening d.openings ++ (spell_some spell_issue_row d.issue_rows ++ spell_list spell_row d.rows)

abbrev pub spell_body : Body → List ℕ
spell_body (lists d) = spell_lists d
spell_body (rows d) = spell_digest d

-- the first version has no issues, the second has at least one
abbrev pub version_with : {X : Type 0} → List X → ℕ
version_with [] = 1
version_with (x ∷ xs) = 2

abbrev pub version_of : Body → ℕ
version_of (lists d) = version_with d.issues
version_of (rows d) = version_with d.issue_rows

-- a delta, or a digest
abbrev pub kind_of : Body → ℕ
kind_of (lists d) = 1
kind_of (rows d) = 2

-- 53 51, the version, the kind, the length of the body, and the body
abbrev pub spell_frame : ℕ → ℕ → List ℕ → List ℕ
spell_frame version kind body = 83 ∷ 81 ∷ version ∷ kind ∷ (word (length body) ++ body)

-- the frame of a body
abbrev pub spell_whole : Body → List ℕ
spell_whole b = spell_frame (version_of b) (kind_of b) (spell_body b)

-- the one frame of a message
abbrev pub spell : Message → List ℕ
spell m = spell_whole (body_of m)

-- the frames of messages, one after the other
abbrev pub spell_all : List Message → List ℕ
spell_all [] = []
spell_all (m ∷ ms) = spell m ++ spell_all ms

-- ---- which bodies there are

-- each list in order and within its limits
pub record AreLists (d : BoardLists) : Type 0 where
  pub openings : AreListed FitsOpening after_opening 0 d.openings
  pub issues : AreListed FitsIssue after_issue 0 d.issues
  pub cells : AreListed FitsCell after_cell no_place d.cells

abbrev pub IsBody : Body → Type 0
IsBody (lists d) = AreLists d
IsBody (rows d) = IsDigest d

-- a board, or a digest
abbrev pub IsContent : Message → Type 0
IsContent (Delta b) = IsBoard b
IsContent (Digest d) = Unit {0}

-- a message that has a frame: its lists are in order and within their limits, and its body is not too long
pub record IsMessage (m : Message) : Type 0 where
  pub content : IsContent m
  pub body : IsBody (body_of m)
  pub short : length (spell_body (body_of m)) ≤ body_limit
