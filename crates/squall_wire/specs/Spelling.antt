-- The bytes of the items of a frame (this project's form: big-endian numbers, each value with one spelling).
use Rattle.std.specs.Prelude.{ℕ, Bool, List, [], ◌∷◌, ◌++◌, length, if◌then◌else◌}
use Rattle.std.specs.List.{flat_map}
use Rattle.std.specs.Int.{w32, w64, to_be_bytes}
use Rattle.squall_span.specs.Spans.{Interval}
use Rattle.squall_join.specs.declared.flat.Flat.{Flat}
use Rattle.squall_join.specs.declared.flat.Flat.TheVariants.{Unknown, One, Clash}
use Rattle.squall_plan.specs.declared.range.PlanRange.{PlanRange}
use Rattle.squall_report.specs.Issues.{PlanPair}
use Rattle.squall_report.specs.Cells.{CellPlace}
use Rattle.squall_board.specs.declared.opening.Opening.{Opening}
use Rattle.squall_board.specs.Listed.{CellEntry}
use Rattle.squall_wire.specs.declared.digest.IssueRow.{IssueRow}
use Rattle.squall_wire.specs.declared.digest.DigestRow.{DigestRow}

-- a number in four bytes, modulo 2 ^ 32, and in eight
abbrev pub word : ℕ → List ℕ
word n = to_be_bytes w32 n

abbrev pub rank : ℕ → List ℕ
rank n = to_be_bytes w64 n

-- a count, and as many items
abbrev pub spell_list : {X : Type 0} → (X → List ℕ) → List X → List ℕ
spell_list spelling xs = word (length xs) ++ flat_map spelling xs

-- a list of which an empty one is not spelled
abbrev pub spell_some : {X : Type 0} → (X → List ℕ) → List X → List ℕ
spell_some spelling [] = []
spell_some spelling (x ∷ xs) = spell_list spelling (x ∷ xs)

-- its number, and how many sub-plans are opened
abbrev pub spell_opening : Opening → List ℕ
spell_opening o = word o.number ++ word o.count

-- its low bound and its high one
abbrev pub spell_span : Interval → List ℕ
spell_span s = rank s.lo ++ rank s.hi

abbrev pub spell_done : Bool → List ℕ
spell_done done = (if done then 1 else 0) ∷ []

-- its number, its sub-plan and its partition
abbrev pub spell_place : CellPlace → List ℕ
spell_place c = word c.number ++ (word c.sub ++ word c.part)

-- its place, whether it is complete, and its spans
abbrev pub spell_cell : CellEntry → List ℕ
spell_cell c = spell_place c.cell ++ (spell_done c.complete ++ spell_list spell_span c.spans)

-- where it ends, and its partition: it begins where the range before it ends
abbrev pub spell_range : PlanRange → List ℕ
spell_range r = rank r.span.hi ++ word r.part

abbrev pub spell_plan : List PlanRange → List ℕ
spell_plan rs = spell_list spell_range rs

-- one pair of plans, or a clash
abbrev pub spell_issued : Flat PlanPair → List ℕ
spell_issued Unknown = []
spell_issued (One pair) = 1 ∷ spell_plan pair.old ++ spell_plan pair.new
spell_issued Clash = 2 ∷ []

-- its number, and what is issued under it
abbrev pub spell_issue : ℕ × Flat PlanPair → List ℕ
spell_issue e = word e.0 ++ spell_issued e.1

-- its number and its hash
abbrev pub spell_issue_row : IssueRow → List ℕ
spell_issue_row r = word r.number ++ r.hash

-- its number, its sub-plan and its hash
abbrev pub spell_row : DigestRow → List ℕ
spell_row r = word r.number ++ (word r.sub ++ r.hash)
