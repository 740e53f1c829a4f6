-- The limits and the order of the items of a frame (this project's form).
use Rattle.std.specs.Prelude.{◌≡◌, ℕ, ◌<◌, ◌+◌, ◌-◌, ◌^◌, ◌==◌, ◌&&◌, ◌||◌, not, nat_lt, nat_le, Bool, true, List, [], ◌∷◌, length, Option, None, Some}
use Rattle.std.specs.Ordering.{is_lt}
use Rattle.squall_key.specs.Keys.{top, part_limit}
use Rattle.squall_span.specs.Spans.{Interval}
use Rattle.squall_join.specs.declared.flat.Flat.{Flat}
use Rattle.squall_join.specs.declared.flat.Flat.TheVariants.{Unknown, One, Clash}
use Rattle.squall_plan.specs.declared.range.PlanRange.{PlanRange}
use Rattle.squall_plan.specs.Arranged.{range_limit}
use Rattle.squall_report.specs.Issues.{PlanPair}
use Rattle.squall_report.specs.Cells.{CellPlace, cell_cmp}
use Rattle.squall_board.specs.declared.opening.Opening.{Opening}
use Rattle.squall_board.specs.Listed.{CellEntry, is_entry}
use Rattle.squall_wire.specs.declared.digest.IssueRow.{IssueRow}
use Rattle.squall_wire.specs.declared.digest.DigestRow.{DigestRow}

-- no frame has a longer body
abbrev pub body_limit : ℕ
body_limit = 1048576

-- numbers of four bytes are below it
abbrev pub word_limit : ℕ
word_limit = 2 ^ 32

-- each item fits at the point of its list; `next` is the point after an item
abbrev pub AreInTurn : {S X : Type 0} → (S → X → Type 0) → (S → X → S) → S → List X → Type 0
AreInTurn Fits next s [] = Unit {0}
AreInTurn Fits next s (x ∷ xs) = Fits s x × AreInTurn Fits next (next s x) xs

-- a list whose count four bytes hold
pub record AreListed {S X : Type 0} (Fits : S → X → Type 0) (next : S → X → S) (s : S) (xs : List X) : Type 0 where
  pub count : length xs < word_limit
  pub turn : AreInTurn Fits next s xs

-- ---- openings

-- from number 1 on, of 1 to 10000 sub-plans
abbrev pub opening_in_range : Opening → Bool
opening_in_range o = nat_le 1 o.number && (nat_le 1 o.count && nat_le o.count part_limit)

-- the numbers rise
pub record FitsOpening (last : ℕ) (o : Opening) : Type 0 where
  pub word : o.number < word_limit
  pub range : opening_in_range o ≡ true
  pub order : nat_lt last o.number ≡ true

abbrev pub after_opening : ℕ → Opening → ℕ
after_opening last o = o.number

-- ---- spans

-- both bounds are ranks of bounds
abbrev pub span_in_range : Interval → Bool
span_in_range s = nat_le s.lo top && nat_le s.hi top

-- it begins at the floor or above, and has a key
abbrev pub span_in_order : ℕ → Interval → Bool
span_in_order floor s = nat_le floor s.lo && nat_lt s.lo s.hi

pub record FitsSpan (floor : ℕ) (s : Interval) : Type 0 where
  pub range : span_in_range s ≡ true
  pub order : span_in_order floor s ≡ true

-- the next span begins above the end of this one
abbrev pub after_span : ℕ → Interval → ℕ
after_span floor s = s.hi + 1

-- ---- cells

-- before every cell
abbrev pub no_place : CellPlace
no_place = record { number = 0; sub = 0; part = 0 }

-- by number, then by sub-plan, then by partition
abbrev pub is_later : CellPlace → CellPlace → Bool
is_later last c = is_lt (cell_cmp last c)

-- the place lies within its limits, and the cell is complete or has a key
pub record FitsCell (last : CellPlace) (c : CellEntry) : Type 0 where
  pub word : c.cell.number < word_limit
  pub range : is_entry c ≡ true
  pub order : is_later last c.cell ≡ true
  pub spans : AreListed FitsSpan after_span 0 c.spans

abbrev pub after_cell : CellPlace → CellEntry → CellPlace
after_cell last c = c.cell

-- ---- plans

-- the point of the list of a plan's ranges: the bound at which the next range begins, the partition of the one before it, and how
-- many are left
pub record PlanPoint : Type 0 where
  pub from : ℕ
  pub before : Option ℕ
  pub left : ℕ

abbrev pub plan_start : ℕ → PlanPoint
plan_start count = record { from = 0; before = None; left = count }

-- the range ends at a bound, the last one at the top, and its partition lies within the limits
abbrev pub range_in_range : PlanPoint → PlanRange → Bool
range_in_range p r = nat_le r.span.hi top && ((r.span.hi == top || not (p.left == 1)) && nat_lt r.part part_limit)

abbrev pub is_other_part : Option ℕ → ℕ → Bool
is_other_part None part = true
is_other_part (Some before) part = not (before == part)

-- it has a key, and its partition is not that of the range before it
abbrev pub range_in_order : PlanPoint → PlanRange → Bool
range_in_order p r = nat_lt p.from r.span.hi && is_other_part p.before r.part

-- it begins where the range before it ends
pub record FitsRange (p : PlanPoint) (r : PlanRange) : Type 0 where
  pub from : r.span.lo ≡ p.from
  pub range : range_in_range p r ≡ true
  pub order : range_in_order p r ≡ true

abbrev pub after_range : PlanPoint → PlanRange → PlanPoint
after_range p r = record { from = r.span.hi; before = Some r.part; left = p.left - 1 }

abbrev pub plan_count_in_range : ℕ → Bool
plan_count_in_range count = nat_le 1 count && nat_le count range_limit

-- the list of a plan: at least one range and at most 4096, from 0 to the top
pub record FitsPlan (rs : List PlanRange) : Type 0 where
  pub count : plan_count_in_range (length rs) ≡ true
  pub turn : AreInTurn FitsRange after_range (plan_start (length rs)) rs

-- ---- issues

-- something is issued: both plans of a pair are plans
abbrev pub FitsIssued : Flat PlanPair → Type 0
FitsIssued Unknown = ⊥
FitsIssued (One pair) = FitsPlan pair.old × FitsPlan pair.new
FitsIssued Clash = Unit {0}

-- from number 1 on, and the numbers rise
pub record FitsIssue (last : ℕ) (e : ℕ × Flat PlanPair) : Type 0 where
  pub word : e.0 < word_limit
  pub range : nat_le 1 e.0 ≡ true
  pub order : nat_lt last e.0 ≡ true
  pub issued : FitsIssued e.1

abbrev pub after_issue : ℕ → ℕ × Flat PlanPair → ℕ
after_issue last e = e.0

-- ---- rows of a digest

-- a hash of SHA-256
abbrev pub hash_length : ℕ
hash_length = 32

pub record FitsIssueRow (last : ℕ) (r : IssueRow) : Type 0 where
  pub word : r.number < word_limit
  pub hash : length r.hash ≡ hash_length
  pub range : nat_le 1 r.number ≡ true
  pub order : nat_lt last r.number ≡ true

abbrev pub after_issue_row : ℕ → IssueRow → ℕ
after_issue_row last r = r.number

abbrev pub row_in_range : DigestRow → Bool
row_in_range r = nat_le 1 r.number && nat_lt r.sub part_limit

-- by number, then by sub-plan
abbrev pub is_later_row : ℕ × ℕ → DigestRow → Bool
is_later_row last r = nat_lt last.0 r.number || ((last.0 == r.number) && nat_lt last.1 r.sub)

pub record FitsRow (last : ℕ × ℕ) (r : DigestRow) : Type 0 where
  pub word : r.number < word_limit
  pub hash : length r.hash ≡ hash_length
  pub range : row_in_range r ≡ true
  pub order : is_later_row last r ≡ true

abbrev pub after_row : ℕ × ℕ → DigestRow → ℕ × ℕ
after_row last r = (r.number, r.sub)
