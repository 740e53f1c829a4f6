-- What a call makes of a store, and what records make of it, one after the other (this project).
use Rattle.std.specs.Prelude.{◌≡◌, ◌≢◌, ℕ, ◌+◌, ◌<◌, ◌≤◌, Bool, true, false, List, [], ◌∷◌, ◌++◌, length, map, Option, None, Some, Result, Ok, Err, if◌then◌else◌}
use Rattle.std.specs.List.{AllByRecursion}
use Rattle.squall_span.specs.Spans.{has}
use Rattle.squall_errand.specs.declared.errand.Reply.TheVariants.{Held}
use Rattle.squall_protocol.specs.Chunks.{ChunkValue}
use Rattle.squall_part.specs.Parts.{PartValue, IsPart}
use Rattle.squall_part.specs.Serving.{IsReply}
use Rattle.squall_part.specs.Loading.{is_new}
use Rattle.squall_replay.specs.declared.call.Call.{Call}
use Rattle.squall_replay.specs.declared.call.Call.TheVariants.{Absorb as AbsorbCall, Give as GiveCall, GiveAt as GiveAtCall, Load as LoadCall, Finish as FinishCall, Close as CloseCall}
use Rattle.squall_replay.specs.declared.call.Answer.{Answer as PartAnswer}
use Rattle.squall_replay.specs.declared.call.Answer.TheVariants.{Again}
use Rattle.squall_replay.specs.Calls.{Happens, Refuses, IsSamePart}
use Rattle.squall_store.specs.Memory.{Values, value_at}
use Rattle.squall_store.specs.Stores.{StoreValue}
use Rattle.squall_log.specs.declared.entry.End.{End}
use Rattle.squall_log.specs.declared.entry.End.TheVariants.{Damaged}
use Rattle.squall_log.specs.Entries.{payload_limit, entry, entries, EndsIn}
use Rattle.squall_store_log.specs.declared.opening.Stop.{Stop}
use Rattle.squall_store_log.specs.declared.opening.Stop.TheVariants.{Ends, Strange, Declined, NoMemory as NoRoom}
use Rattle.squall_store_log.specs.declared.record.Record.{Record}
use Rattle.squall_store_log.specs.declared.record.Record.TheVariants.{Put, Delete, Give, GiveAt, Load, Absorb, Finish, Close}
use Rattle.squall_store_log.specs.declared.answer.Answer.{Answer}
use Rattle.squall_store_log.specs.declared.answer.Answer.TheVariants.{Row, Part}
use Rattle.squall_store_log.specs.declared.answer.MakeFault.{MakeFault}
use Rattle.squall_store_log.specs.declared.answer.MakeFault.TheVariants.{NotHeld, Refused, NoMemory, TooLong}
use Rattle.squall_store_log.specs.Records.{spell_record, Fits}

-- a partition with rows in memory
abbrev pub Rows : Type 0
Rows = StoreValue Values

-- the partition with no rows
abbrev pub first_store : PartValue → Rows
first_store p = record { part = p; rows = [] }

-- ---- stores that are alike

-- the same partition, and the same rows of the keys that it holds
pub record IsAlike (s t : Rows) : Type 0 where
  pub part : t.part ≡ s.part
  pub rows : (k : ℕ) → has s.part.held k ≡ true → value_at t.rows k ≡ value_at s.rows k

-- partitions that no call tells apart, and the same rows of the keys that they hold
pub record IsSameStore (s t : Rows) : Type 0 where
  pub part : IsSamePart s.part t.part
  pub rows : (k : ℕ) → has s.part.held k ≡ true → value_at t.rows k ≡ value_at s.rows k

-- ---- one call

-- the key was held, and its row is this one now; rows of other keys that are held stay
pub record Sets (s : Rows) (key : ℕ) (row : Option (List ℕ)) (t : Rows) : Type 0 where
  pub held : has s.part.held key ≡ true
  pub part : t.part ≡ s.part
  pub now : value_at t.rows key ≡ row
  pub others : (k : ℕ) → k ≢ key → has s.part.held k ≡ true → value_at t.rows k ≡ value_at s.rows k

-- the partition answered the call, and holds no key that it did not hold; rows of the keys that it holds stay
pub record Calls (s : Rows) (call : Call) (answer : PartAnswer) (t : Rows) : Type 0 where
  pub happens : Happens s.part call answer t.part
  pub left : IsPart t.part
  pub held : (k : ℕ) → has t.part.held k ≡ true → has s.part.held k ≡ true
  pub rows : (k : ℕ) → has t.part.held k ≡ true → value_at t.rows k ≡ value_at s.rows k

-- the partition loaded the chunk, and its new keys have these rows; rows of keys that were held stay
pub record Loads (s : Rows) (c : ChunkValue) (rows : Values) (answer : PartAnswer) (t : Rows) : Type 0 where
  pub happens : Happens s.part (LoadCall c) answer t.part
  pub left : IsPart t.part
  pub held : (k : ℕ) → has t.part.held k ≡ true → is_new s.part c k ≡ false → has s.part.held k ≡ true
  pub fresh : (k : ℕ) → is_new s.part c k ≡ true → value_at t.rows k ≡ value_at rows k
  pub others : (k : ℕ) → is_new s.part c k ≡ false → has s.part.held k ≡ true → value_at t.rows k ≡ value_at s.rows k

-- the call of a record has that answer, and leads from one store to another
abbrev pub Makes : Rows → Record → Answer → Rows → Type 0
Makes s (Put key value) (Row before) t = Sets s key (Some value) t × (before ≡ value_at s.rows key)
Makes s (Delete key) (Row before) t = Sets s key None t × (before ≡ value_at s.rows key)
Makes s (Give most) (Part answer) t = Calls s (GiveCall most) answer t
Makes s (GiveAt key) (Part answer) t = Calls s (GiveAtCall key) answer t
Makes s (Load chunk rows) (Part answer) t = Loads s chunk rows answer t
Makes s (Absorb delta) (Part answer) t = Calls s (AbsorbCall delta) answer t
Makes s (Finish sub) (Part answer) t = Calls s (FinishCall sub) answer t
Makes s Close (Part answer) t = Calls s CloseCall answer t
Makes s _ _ t = ⊥

-- the partition does not hold the key, and replies so to a client who followed the move of that number
abbrev pub IsNotHeld : PartValue → ℕ → ℕ → MakeFault → Type 0
IsNotHeld p key after (NotHeld reply) = IsReply p key after reply × (reply ≢ Held)
IsNotHeld p key after (Refused fault) = ⊥
IsNotHeld p key after NoMemory = Unit {0}
IsNotHeld p key after TooLong = Unit {0}

-- the partition refuses the call
abbrev pub IsRefused : PartValue → Call → MakeFault → Type 0
IsRefused p call (NotHeld reply) = ⊥
IsRefused p call (Refused fault) = Refuses p call fault p
IsRefused p call NoMemory = Unit {0}
IsRefused p call TooLong = Unit {0}

-- why the call of a record is not made
abbrev pub Declines : PartValue → Record → ℕ → MakeFault → Type 0
Declines p (Put key value) after fault = IsNotHeld p key after fault
Declines p (Delete key) after fault = IsNotHeld p key after fault
Declines p (Give most) after fault = IsRefused p (GiveCall most) fault
Declines p (GiveAt key) after fault = IsRefused p (GiveAtCall key) fault
Declines p (Load chunk rows) after fault = IsRefused p (LoadCall chunk) fault
Declines p (Absorb delta) after fault = IsRefused p (AbsorbCall delta) fault
Declines p (Finish sub) after fault = IsRefused p (FinishCall sub) fault
Declines p Close after fault = IsRefused p CloseCall fault

-- ---- calls of a log

-- the calls of these records lead from one store to another; a call that is not in the log leaves a store alike
abbrev pub Comes : Rows → List Record → Rows → Type 0
Comes s [] t = IsAlike s t
Comes s (r ∷ records) t = (u : Rows) × ((answer : Answer) × Makes s r answer u) × Comes u records t

-- a record that a log may have: its parts lie within their limits, and its payload is short enough
pub record IsRecord (r : Record) : Type 0 where
  pub fits : Fits r
  pub short : length (spell_record r) ≤ payload_limit

-- the bytes of a log of records
abbrev pub spell_log : List Record → List ℕ
spell_log records = entries (map spell_record records)

-- the bytes are a log of calls that lead from the one store to the other
pub record Wrote (s : Rows) (log : List ℕ) (t : Rows) : Type 0 where
  pub records : List Record
  pub each : AllByRecursion IsRecord records
  pub spelled : log ≡ spell_log records
  pub comes : Comes s records t

-- ---- answers

-- what the partition answered, or why not
abbrev pub part_of : Result PartAnswer MakeFault → Result Answer MakeFault
part_of (Ok answer) = Ok (Part answer)
part_of (Err fault) = Err fault

-- what the row was, or why the command did not run
abbrev pub row_of : Result (Option (List ℕ)) MakeFault → Result Answer MakeFault
row_of (Ok row) = Ok (Row row)
row_of (Err fault) = Err fault

-- ---- a store with a log

-- the store, and the bytes that wait to be written to its log
pub record LoggedValue : Type 0 where
  pub store : Rows
  pub waiting : List ℕ

-- the call changed the store: it was made, and did not bring a chunk again
abbrev pub changes : Result Answer MakeFault → Bool
changes (Ok (Part Again)) = false
changes (Ok answer) = true
changes (Err fault) = false

-- what the call adds to the log
abbrev pub logged_by : Result Answer MakeFault → Record → List ℕ
logged_by result r = if changes result then entry (spell_record r) else []

-- ---- a log that is opened

-- the record that begins the bytes was read, and its call was made; these bytes follow it
pub record IsStep (s : Rows) (bytes : List ℕ) (t : Rows) (rest : List ℕ) : Type 0 where
  pub record_read : Record
  pub is : IsRecord record_read
  pub read : bytes ≡ entry (spell_record record_read) ++ rest
  pub answer : Answer
  pub made : Makes s record_read answer t

-- why no call was made: the bytes begin with no entry, the payload of the first is of no record, or the call of that record is refused
abbrev pub IsStopped : Rows → List ℕ → Rows → Stop → Type 0
IsStopped s bytes t (Ends end) = EndsIn end bytes × (t ≡ s)
IsStopped s bytes t Strange =
    (payload : List ℕ) × (rest : List ℕ) × (bytes ≡ entry payload ++ rest) × ((r : Record) → Fits r → payload ≢ spell_record r)
IsStopped s bytes t (Declined fault) =
    (r : Record) × (rest : List ℕ) × IsRecord r × (bytes ≡ entry (spell_record r) ++ rest) × Declines s.part r 0 fault
IsStopped s bytes t NoRoom = Unit {0}

-- the bytes are a log of records and what follows it, and the calls of these records lead to the store
pub record IsOpened (first : Rows) (bytes : List ℕ) (store : Rows) (rest : List ℕ) : Type 0 where
  pub records : List Record
  pub each : AllByRecursion IsRecord records
  pub read : bytes ≡ spell_log records ++ rest
  pub comes : Comes first records store

-- the records before one of them lead to a store, and there it stops
pub record StopsAt (first : Rows) (bytes : List ℕ) (stop : Stop) : Type 0 where
  pub there : Rows
  pub left : Rows
  pub rest : List ℕ
  pub opened : IsOpened first bytes there rest
  pub stopped : IsStopped there rest left stop

-- The log was written while a store came from the first one to the last one, and its first n bytes were opened. Of the records those were
-- read that are whole before the cut, and the store is the same as after their calls.
pub record IsAfterCut (first : Rows) (log : List ℕ) (last : Rows) (n size : ℕ) (end : End) (store : Rows) : Type 0 where
  pub done : List Record
  pub later : List Record
  pub each : AllByRecursion IsRecord (done ++ later)
  pub all : log ≡ spell_log (done ++ later)
  pub size_is : size ≡ length (spell_log done)
  pub within : size ≤ n
  pub next : (r : Record) (rs : List Record) → later ≡ r ∷ rs → n < size + length (entry (spell_record r))
  pub undamaged : end ≢ Damaged
  pub there : Rows
  pub before : Comes first done there
  pub after : Comes there later last
  pub same : IsSameStore there store
