-- What a partition loads and finishes (a partition reports what it loaded, and when it has all: Squall, SIGMOD 2015).
use Rattle.std.specs.Prelude.{◌≡◌, ℕ, ◌<◌, ◌≤◌, ◌&&◌, not, Bool, true, false, List, [], ◌∷◌, Result, Ok, Err, Some}
use Rattle.squall_span.specs.Spans.{Interval, IsSet, span_has, has, insert_span, union, minus}
use Rattle.squall_course.specs.Change.{Change}
use Rattle.squall_course.specs.Moves.{is_incoming}
use Rattle.squall_report.specs.declared.report.ReportKind.{ReportKind}
use Rattle.squall_report.specs.declared.report.ReportKind.TheVariants.{Done as DoneReport}
use Rattle.squall_report.specs.Issues.{PlanPair}
use Rattle.squall_board.specs.Boards.{board_join, report_board}
use Rattle.squall_part.specs.declared.loading.LoadFault.{LoadFault}
use Rattle.squall_part.specs.declared.loading.LoadFault.TheVariants.{NotOpen as NotOpenYet, Stranger, NoMemory as NoRoom}
use Rattle.squall_part.specs.declared.loading.Load.{Load}
use Rattle.squall_part.specs.declared.loading.Load.TheVariants.{Again, Loaded}
use Rattle.squall_part.specs.declared.finishing.FinishFault.{FinishFault}
use Rattle.squall_part.specs.declared.finishing.FinishFault.TheVariants.{NotOpen, NotAll, NothingDue, NoMemory}
use Rattle.squall_protocol.specs.Chunks.{ChunkValue, load_report}
use Rattle.squall_protocol.specs.Carried.{Carried}
use Rattle.squall_protocol.specs.Firsts.{IsRun}
use Rattle.squall_part.specs.Parts.{PartValue, known_to, course_of_part, opened_at, loaded_by, with_loaded}

-- the chunk's course is known, its sub-plan is opened under it, the chunk goes to the partition, and the course carries it
abbrev pub MayLoad : PartValue → ChunkValue → Type 0
MayLoad p c = (course : Change) × (known_to p c.number ≡ Some course) × (c.sub < opened_at p c.number) × (c.dest ≡ p.id) × Carried course c

-- every key of the chunk was loaded before
abbrev pub AllLoaded : PartValue → ChunkValue → Type 0
AllLoaded p c = (k : ℕ) → span_has c.span k ≡ true → has (loaded_by p c.number) k ≡ true

-- some key of it was not
abbrev pub SomeMissing : PartValue → ChunkValue → Type 0
SomeMissing p c = (k : ℕ) × (span_has c.span k ≡ true) × (has (loaded_by p c.number) k ≡ false)

-- the key of the chunk is neither loaded under its number nor held
abbrev pub is_new : PartValue → ChunkValue → ℕ → Bool
is_new p c k = (span_has c.span k && not (has (loaded_by p c.number) k)) && not (has p.held k)

-- the keys that were not loaded are held now, all are loaded, and the board has the report
abbrev pub after_load : PartValue → ChunkValue → PartValue
after_load p c =
    record p {
      board = board_join p.board (report_board (load_report c));
      held = union p.held (minus (c.span ∷ []) (loaded_by p c.number));
      logs = with_loaded c.number (insert_span c.span (loaded_by p c.number)) p.logs;
    }

-- the answer to a chunk; memory is missing only if the chunk may be loaded, and some key of it was not
abbrev pub IsLoaded : PartValue → ChunkValue → Result Load LoadFault → PartValue → Type 0
IsLoaded p c (Ok (Loaded report)) q = MayLoad p c × SomeMissing p c × (report ≡ load_report c) × (q ≡ after_load p c)
IsLoaded p c (Ok Again) q = MayLoad p c × AllLoaded p c × (q ≡ p)
IsLoaded p c (Err NotOpenYet) q = ((course : Change) × (known_to p c.number ≡ Some course)) × (opened_at p c.number ≤ c.sub) × (q ≡ p)
IsLoaded p c (Err Stranger) q = (MayLoad p c → ⊥) × ((course : Change) → known_to p c.number ≡ Some course → c.sub < opened_at p c.number) × (q ≡ p)
IsLoaded p c (Err NoRoom) q = MayLoad p c × SomeMissing p c × (q ≡ p)

-- the new keys of a chunk that may be loaded, or why it is not
abbrev pub IsFresh : PartValue → ChunkValue → Result (List Interval) LoadFault → Type 0
IsFresh p c (Ok keys) = MayLoad p c × IsSet keys × ((k : ℕ) → has keys k ≡ is_new p c k)
IsFresh p c (Err fault) = IsLoaded p c (Err fault) p

-- ---- the end of a sub-plan

-- the key comes in, in the sub-plan of the newest course
abbrev pub comes_in : PartValue → ℕ → ℕ → Bool
comes_in p sub k = is_incoming (course_of_part p).old (course_of_part p).new sub p.id k

-- it comes in, and is not loaded
abbrev pub is_missing : PartValue → ℕ → ℕ → Bool
is_missing p sub k = comes_in p sub k && not (has (loaded_by p (course_of_part p).number) k)

abbrev pub done_report : PartValue → ℕ → ReportKind PlanPair
done_report p sub = DoneReport (course_of_part p).number sub p.id

abbrev pub after_finish : PartValue → ℕ → PartValue
after_finish p sub = record p { board = board_join p.board (report_board (done_report p sub)) }

-- the sub-plan is opened under the newest course
abbrev pub IsOpen : PartValue → ℕ → Type 0
IsOpen p sub = sub < opened_at p (course_of_part p).number

-- the answer to the call that finishes a sub-plan; memory is missing only if the sub-plan is open
abbrev pub IsFinished : PartValue → ℕ → Result (ReportKind PlanPair) FinishFault → PartValue → Type 0
IsFinished p sub (Ok report) q =
    IsOpen p sub × ((k : ℕ) → is_missing p sub k ≡ false) × ((k : ℕ) × (comes_in p sub k ≡ true)) × (report ≡ done_report p sub) × (q ≡ after_finish p sub)
IsFinished p sub (Err NotOpen) q = (opened_at p (course_of_part p).number ≤ sub) × (q ≡ p)
IsFinished p sub (Err (NotAll s)) q = IsOpen p sub × IsRun (is_missing p sub) s × (q ≡ p)
IsFinished p sub (Err NothingDue) q = IsOpen p sub × ((k : ℕ) → comes_in p sub k ≡ false) × (q ≡ p)
IsFinished p sub (Err NoMemory) q = IsOpen p sub × (q ≡ p)
