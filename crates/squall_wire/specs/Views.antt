-- What readers give, seen as the definitions see it (this project's form).
use Rattle.std.specs.Prelude.{◌≡◌, ℕ, ◌+◌, ◌*◌, ◌≤◌, List, length, Ok}
use Rattle.squall_span.specs.Spans.{Interval, interval, insert_span}
use Rattle.squall_span.specs.Ready.{ReadyValue}
use Rattle.squall_plan.specs.declared.range.PlanRange.{PlanRange}
use Rattle.squall_report.specs.Cells.{place_at}
use Rattle.squall_wire.specs.declared.reading.body.Lists.{Lists}
use Rattle.squall_wire.specs.declared.reading.body.Rows.{Rows}
use Rattle.squall_wire.specs.declared.reading.cell.CellHead.{CellHead}
use Rattle.squall_wire.specs.declared.reading.frame.Frame.{Frame}
use Rattle.squall_wire.specs.DigestValue.{DigestValue, digest_with}
use Rattle.squall_wire.specs.Limits.{after_span, PlanPoint}
use Rattle.squall_wire.specs.Messages.{BoardLists, lists_with}
use Rattle.squall_wire.specs.Reading.{CellHead as HeadSeen, Frame as FrameSeen, span_at}

abbrev pub head_seen : CellHead → HeadSeen
head_seen h = record { place = place_at h.number h.sub h.part; done = h.done; count = h.count }

-- there is room for as many spans as are left of a list and as the bytes can hold
pub record HasRoom (left : ℕ) (bytes : List ℕ) (room : ℕ) : Type 0 where
  pub enough : (n : ℕ) → n ≤ left → 16 * n ≤ length bytes → n ≤ room

-- the span that begins the bytes was added to the spans, and took room of one span at most
pub record HasAdded (floor : ℕ) (bytes : List ℕ) (old new : ReadyValue) (next : ℕ) (rest : List ℕ) : Type 0 where
  pub span : Interval
  pub read : span_at floor bytes ≡ Ok (span, rest)
  pub goes_on : next ≡ after_span floor span
  pub added : new.set ≡ insert_span span old.set
  pub room : old.room ≤ new.room + 1

-- the range from a point to a bound, of a partition
abbrev pub range_of : PlanPoint → ℕ → ℕ → PlanRange
range_of point hi part = record { span = interval point.from hi; part = part }

abbrev pub lists_seen : Lists → BoardLists
lists_seen l = lists_with l.openings.items l.issues.items l.cells.items

abbrev pub rows_seen : Rows → DigestValue
rows_seen r = digest_with r.openings.items r.issue_rows.items r.rows.items

abbrev pub frame_seen : Frame → FrameSeen
frame_seen f = record { version = f.version; kind = f.kind; body = f.body.now }
