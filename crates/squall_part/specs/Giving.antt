-- What a partition gives (on demand and in chunks, sub-plan after sub-plan: Squall, SIGMOD 2015).
use Rattle.std.specs.Prelude.{◌≡◌, ℕ, ◌+◌, ◌&&◌, Bool, true, false, Result, Ok, Err, Some}
use Rattle.squall_span.specs.Spans.{Interval, interval, has, insert_span, without_span}
use Rattle.squall_course.specs.Subplans.{dest_of}
use Rattle.squall_course.specs.Moves.{is_outgoing}
use Rattle.squall_part.specs.declared.giving.GiveFault.{GiveFault}
use Rattle.squall_part.specs.declared.giving.GiveFault.TheVariants.{NotOpen, Ended, NothingLeft, ZeroMax, NotOutgoing, Given, NotHeld, NoMemory}
use Rattle.squall_protocol.specs.Chunks.{ChunkValue}
use Rattle.squall_protocol.specs.Firsts.{AreFirst}
use Rattle.squall_part.specs.Parts.{PartValue, course_of_part, opened_at, closed_by, given_by, with_given, with_closed}

-- it gives no more in its newest course
abbrev pub IsClosed : PartValue → Type 0
IsClosed p = closed_by p (course_of_part p).number ≡ true

-- the partition still gives in its newest course, and the sub-plan is the one opened last under it, as far as it knows
abbrev pub IsCurrent : PartValue → ℕ → Type 0
IsCurrent p sub = (opened_at p (course_of_part p).number ≡ sub + 1) × (closed_by p (course_of_part p).number ≡ false)

-- it still gives in that course, and no sub-plan of it is opened
abbrev pub NoneOpen : PartValue → Type 0
NoneOpen p = (opened_at p (course_of_part p).number ≡ 0) × (closed_by p (course_of_part p).number ≡ false)

-- the key goes out in the sub-plan
abbrev pub goes_out : PartValue → ℕ → ℕ → Bool
goes_out p sub k = is_outgoing (course_of_part p).old (course_of_part p).new sub p.id k

-- it goes out, and is still held
abbrev pub is_left : PartValue → ℕ → ℕ → Bool
is_left p sub k = goes_out p sub k && has p.held k

-- the chunk is of the newest course, from the partition to the one to which its keys go in the sub-plan
pub record IsChunkOf (p : PartValue) (sub : ℕ) (c : ChunkValue) : Type 0 where
  pub number : c.number ≡ (course_of_part p).number
  pub sub_plan : c.sub ≡ sub
  pub source : c.source ≡ p.id
  pub dest : dest_of (course_of_part p).old (course_of_part p).new sub p.id ≡ Some c.dest

-- the keys of the span are given under the newest course: they are held no longer
abbrev pub after_giving : PartValue → Interval → PartValue
after_giving p s =
    record p {
      held = without_span s p.held;
      logs = with_given (course_of_part p).number (insert_span s (given_by p (course_of_part p).number)) p.logs;
    }

-- the partition gives no more in its newest course
abbrev pub after_close : PartValue → PartValue
after_close p = record p { logs = with_closed (course_of_part p).number p.logs }

-- the answer to a demand for at most `most` keys; memory is missing only if some key goes out in the sub-plan
abbrev pub IsGiven : PartValue → ℕ → Result ChunkValue GiveFault → PartValue → Type 0
IsGiven p most (Ok c) q = (sub : ℕ) × IsCurrent p sub × AreFirst (is_left p sub) most c.span × IsChunkOf p sub c × (q ≡ after_giving p c.span)
IsGiven p most (Err NotOpen) q = NoneOpen p × (q ≡ p)
IsGiven p most (Err Ended) q = IsClosed p × (q ≡ p)
IsGiven p most (Err NothingLeft) q = (sub : ℕ) × IsCurrent p sub × ((k : ℕ) → is_left p sub k ≡ false) × (q ≡ p)
IsGiven p most (Err ZeroMax) q = (sub : ℕ) × IsCurrent p sub × ((k : ℕ) × (is_left p sub k ≡ true)) × (most ≡ 0) × (q ≡ p)
IsGiven p most (Err NotOutgoing) q = ⊥
IsGiven p most (Err Given) q = ⊥
IsGiven p most (Err NotHeld) q = ⊥
IsGiven p most (Err NoMemory) q =
    (sub : ℕ) × IsCurrent p sub × ((part : ℕ) × (dest_of (course_of_part p).old (course_of_part p).new sub p.id ≡ Some part)) × (q ≡ p)

-- the answer to a demand for one key; memory is missing only if nothing else is in the way
abbrev pub IsGivenAt : PartValue → ℕ → Result ChunkValue GiveFault → PartValue → Type 0
IsGivenAt p k (Ok c) q =
    (sub : ℕ) × IsCurrent p sub × (goes_out p sub k ≡ true) × (has (given_by p (course_of_part p).number) k ≡ false) × (has p.held k ≡ true)
    × (c.span ≡ interval k (k + 1)) × IsChunkOf p sub c × (q ≡ after_giving p c.span)
IsGivenAt p k (Err NotOpen) q = NoneOpen p × (q ≡ p)
IsGivenAt p k (Err Ended) q = IsClosed p × (q ≡ p)
IsGivenAt p k (Err NothingLeft) q = ⊥
IsGivenAt p k (Err ZeroMax) q = ⊥
IsGivenAt p k (Err NotOutgoing) q = (sub : ℕ) × IsCurrent p sub × (goes_out p sub k ≡ false) × (q ≡ p)
IsGivenAt p k (Err Given) q = (sub : ℕ) × IsCurrent p sub × (goes_out p sub k ≡ true) × (has (given_by p (course_of_part p).number) k ≡ true) × (q ≡ p)
IsGivenAt p k (Err NotHeld) q =
    (sub : ℕ) × IsCurrent p sub × (goes_out p sub k ≡ true) × (has (given_by p (course_of_part p).number) k ≡ false) × (has p.held k ≡ false) × (q ≡ p)
IsGivenAt p k (Err NoMemory) q =
    (sub : ℕ) × IsCurrent p sub × (goes_out p sub k ≡ true) × (has (given_by p (course_of_part p).number) k ≡ false) × (has p.held k ≡ true) × (q ≡ p)
