-- Reading a frame from its beginning, and the first fault (this project's form).
use Rattle.std.specs.Prelude.{◌≡◌, ◌≢◌, ℕ, zero, suc, ◌+◌, ◌==◌, ◌&&◌, ◌||◌, not, List, [], ◌∷◌, length, take, drop, slice_index, Result, Ok, Err, nat_lt, nat_le, Bool, true, if◌then◌else◌}
use Rattle.std.specs.Int.{Width, w32, w64, byte_len, from_be_bytes}
use Rattle.squall_span.specs.Spans.{Interval, interval}
use Rattle.squall_join.specs.declared.flat.Flat.{Flat}
use Rattle.squall_join.specs.declared.flat.Flat.TheVariants.{One, Clash}
use Rattle.squall_plan.specs.declared.range.PlanRange.{PlanRange}
use Rattle.squall_report.specs.Issues.{PlanPair, plan_pair}
use Rattle.squall_report.specs.Cells.{CellPlace, place_at, is_cell_place}
use Rattle.squall_board.specs.declared.opening.Opening.{Opening}
use Rattle.squall_board.specs.Listed.{CellEntry, entry_with}
use Rattle.squall_wire.specs.declared.fault.WireFault.{WireFault}
use Rattle.squall_wire.specs.declared.fault.WireFault.TheVariants.{Magic, Version, Kind, TooLong, Short, Count, Range, Order, Spare, NoMemory}
use Rattle.squall_wire.specs.declared.digest.IssueRow.{IssueRow}
use Rattle.squall_wire.specs.declared.digest.DigestRow.{DigestRow}
use Rattle.squall_wire.specs.DigestValue.{DigestValue}
use Rattle.squall_wire.specs.Limits.{body_limit, hash_length, opening_in_range, after_opening, span_in_range, span_in_order, after_span, no_place, is_later, after_cell, PlanPoint, plan_start, range_in_range, range_in_order, after_range, plan_count_in_range, after_issue, after_issue_row, row_in_range, is_later_row, after_row}
use Rattle.squall_wire.specs.Messages.{BoardLists, Body, lists, rows}

infixl 10 ◌>>=◌
abbrev pub ◌>>=◌ : {A B : Type 0} → Result A WireFault → (A → Result B WireFault) → Result B WireFault
(Ok x) >>= f = f x
(Err e) >>= f = Err e

-- what was wanted, of a value seen in some way, unless an allocation failed
abbrev pub Gives : {X Y : Type 0} → (X → Y) → Result X WireFault → Result Y WireFault → Type 0
Gives view (Ok x) want = want ≡ Ok (view x)
Gives view (Err e) want = e ≢ NoMemory → want ≡ Err e

-- a reader gives a value and the bytes after it
abbrev pub Read : Type 0 → Type 0
Read X = Result (X × List ℕ) WireFault

-- ---- fields: a field that the bytes are too short for is Count

abbrev pub number_at : Width → List ℕ → Read ℕ
number_at w bytes = if nat_lt (length bytes) (byte_len w) then Err Count else Ok (from_be_bytes w (take (byte_len w) bytes), drop (byte_len w) bytes)

abbrev pub byte_at : List ℕ → Read ℕ
byte_at [] = Err Count
byte_at (b ∷ rest) = Ok (b, rest)

unfoldable pub hash_at : List ℕ → Read (List ℕ)
hash_at bytes = if nat_lt (length bytes) hash_length then Err Count else Ok (take hash_length bytes, drop hash_length bytes)

-- the value, if it is in its range and then in order
abbrev pub checked : {X : Type 0} → Bool → Bool → X → Result X WireFault
checked in_range in_order x = if in_range then (if in_order then Ok x else Err Order) else Err Range

-- ---- lists

-- n items, each read at the point of the list
unfoldable pub many_at : {S X : Type 0} → (S → List ℕ → Read X) → (S → X → S) → ℕ → S → List ℕ → Read (List X)
many_at read next zero s bytes = Ok ([], bytes)
many_at read next (suc n) s bytes = do
  first ← read s bytes
  others ← many_at read next n (next s first.0) first.1
  Ok (first.0 ∷ others.0, others.1)

-- a count, and as many items
unfoldable pub list_at : {S X : Type 0} → (S → List ℕ → Read X) → (S → X → S) → S → List ℕ → Read (List X)
list_at read next s bytes = do
  n ← number_at w32 bytes
  many_at read next n.0 s n.1

-- the same, with at least one item
unfoldable pub some_at : {S X : Type 0} → (S → List ℕ → Read X) → (S → X → S) → S → List ℕ → Read (List X)
some_at read next s bytes = do
  n ← number_at w32 bytes
  counted ← checked (nat_le 1 n.0) true n
  many_at read next counted.0 s counted.1

-- a list that only the second version has
abbrev pub second_at : {S X : Type 0} → ℕ → (S → List ℕ → Read X) → (S → X → S) → S → List ℕ → Read (List X)
second_at version read next s bytes = if version == 2 then some_at read next s bytes else Ok ([], bytes)

-- ---- items

unfoldable pub opening_at : ℕ → List ℕ → Read Opening
opening_at last bytes = do
  number ← number_at w32 bytes
  count ← number_at w32 number.1
  let opening : Opening = record { number = number.0; count = count.0 } in
      checked (opening_in_range opening) (nat_lt last number.0) (opening, count.1)

unfoldable pub span_at : ℕ → List ℕ → Read Interval
span_at floor bytes = do
  lo ← number_at w64 bytes
  hi ← number_at w64 lo.1
  checked (span_in_range (interval lo.0 hi.0)) (span_in_order floor (interval lo.0 hi.0)) (interval lo.0 hi.0, hi.1)

-- what comes before the spans of a cell
pub record CellHead : Type 0 where
  pub place : CellPlace
  pub done : ℕ
  pub count : ℕ

-- the place lies within its limits, done is 0 or 1, and the cell is done or has a span
abbrev pub head_in_range : CellHead → Bool
head_in_range h = is_cell_place h.place && (nat_le h.done 1 && ((h.done == 1) || nat_le 1 h.count))

unfoldable pub head_at : CellPlace → List ℕ → Read CellHead
head_at last bytes = do
  number ← number_at w32 bytes
  sub ← number_at w32 number.1
  part ← number_at w32 sub.1
  done ← byte_at part.1
  count ← number_at w32 done.1
  let head : CellHead = record { place = place_at number.0 sub.0 part.0; done = done.0; count = count.0 } in
      checked (head_in_range head) (is_later last head.place) (head, count.1)

unfoldable pub cell_at : CellPlace → List ℕ → Read CellEntry
cell_at last bytes = do
  head ← head_at last bytes
  spans ← many_at span_at after_span head.0.count 0 head.1
  Ok (entry_with head.0.place (head.0.done == 1) spans.0, spans.1)

unfoldable pub range_at : PlanPoint → List ℕ → Read PlanRange
range_at point bytes = do
  hi ← number_at w64 bytes
  part ← number_at w32 hi.1
  let range : PlanRange = record { span = interval point.from hi.0; part = part.0 } in
      checked (range_in_range point range) (range_in_order point range) (range, part.1)

unfoldable pub plan_at : List ℕ → Read (List PlanRange)
plan_at bytes = do
  n ← number_at w32 bytes
  counted ← checked (plan_count_in_range n.0) true n
  many_at range_at after_range counted.0 (plan_start counted.0) counted.1

-- the number of an issue and its mark: 1 before a pair of plans, 2 for a clash
unfoldable pub issue_head_at : ℕ → List ℕ → Read (ℕ × ℕ)
issue_head_at last bytes = do
  number ← number_at w32 bytes
  mark ← byte_at number.1
  checked (nat_le 1 number.0 && (nat_le 1 mark.0 && nat_le mark.0 2)) (nat_lt last number.0) ((number.0, mark.0), mark.1)

unfoldable pub issued_at : ℕ → List ℕ → Read (Flat PlanPair)
issued_at mark bytes = if mark == 2 then Ok (Clash, bytes) else (do
  old ← plan_at bytes
  new ← plan_at old.1
  Ok (One (plan_pair old.0 new.0), new.1))

unfoldable pub issue_at : ℕ → List ℕ → Read (ℕ × Flat PlanPair)
issue_at last bytes = do
  head ← issue_head_at last bytes
  issued ← issued_at head.0.1 head.1
  Ok ((head.0.0, issued.0), issued.1)

unfoldable pub issue_row_at : ℕ → List ℕ → Read IssueRow
issue_row_at last bytes = do
  number ← number_at w32 bytes
  hash ← hash_at number.1
  checked (nat_le 1 number.0) (nat_lt last number.0) (record { number = number.0; hash = hash.0 }, hash.1)

unfoldable pub row_at : ℕ × ℕ → List ℕ → Read DigestRow
row_at last bytes = do
  number ← number_at w32 bytes
  sub ← number_at w32 number.1
  hash ← hash_at sub.1
  let row : DigestRow = record { number = number.0; sub = sub.0; hash = hash.0 } in
      checked (row_in_range row) (is_later_row last row) (row, hash.1)

-- ---- bodies

unfoldable pub lists_at : ℕ → List ℕ → Read BoardLists
lists_at version bytes = do
  openings ← list_at opening_at after_opening 0 bytes
  issues ← second_at version issue_at after_issue 0 openings.1
  cells ← list_at cell_at after_cell no_place issues.1
  Ok (record { openings = openings.0; issues = issues.0; cells = cells.0 }, cells.1)

unfoldable pub digest_at : ℕ → List ℕ → Read DigestValue
digest_at version bytes = do
  openings ← list_at opening_at after_opening 0 bytes
  issue_rows ← second_at version issue_row_at after_issue_row 0 openings.1
  others ← list_at row_at after_row (0, 0) issue_rows.1
  Ok (record { openings = openings.0; issue_rows = issue_rows.0; rows = others.0 }, others.1)

-- nothing may be left in the body
unfoldable pub whole : {X : Type 0} → Read X → Result X WireFault
whole read = do
  d ← read
  if length d.1 == 0 then Ok d.0 else Err Spare

unfoldable pub body_at : ℕ → ℕ → List ℕ → Result Body WireFault
body_at version kind bytes = if kind == 1 then (whole (lists_at version bytes) >>= λ d. Ok (lists d)) else (whole (digest_at version bytes) >>= λ d. Ok (rows d))

-- ---- frames

-- the byte is there, and is another
abbrev pub is_other : List ℕ → ℕ → ℕ → Bool
is_other bytes i b = nat_lt i (length bytes) && not (slice_index bytes i == b)

-- the length that the head says, and whether there is a whole head
abbrev pub body_length : List ℕ → ℕ
body_length bytes = from_be_bytes w32 (take 4 (drop 4 bytes))

abbrev pub has_head : List ℕ → Bool
has_head bytes = nat_le 8 (length bytes)

-- a frame, seen as its version, its kind and its body
pub record Frame : Type 0 where
  pub version : ℕ
  pub kind : ℕ
  pub body : List ℕ

-- the first frame: its head is read from the beginning, its body only if it is whole
unfoldable pub frame_at : List ℕ → Result Frame WireFault
frame_at bytes =
    if is_other bytes 0 83 || is_other bytes 1 81 then Err Magic
    else (if is_other bytes 2 1 && is_other bytes 2 2 then Err Version
    else (if is_other bytes 3 1 && is_other bytes 3 2 then Err Kind
    else (if has_head bytes && nat_lt body_limit (body_length bytes) then Err TooLong
    else (if not (has_head bytes) || nat_lt (length bytes) (8 + body_length bytes) then Err Short
    else Ok (record { version = slice_index bytes 2; kind = slice_index bytes 3; body = take (body_length bytes) (drop 8 bytes) })))))

-- what the body of the first frame says, and how many bytes the frame takes; or the first fault that is met
unfoldable pub message_at : List ℕ → Result (Body × ℕ) WireFault
message_at bytes = do
  frame ← frame_at bytes
  body ← body_at frame.version frame.kind frame.body
  Ok (body, 8 + length frame.body)
