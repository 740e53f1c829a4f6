-- Records of the calls of a store, and the bytes that spell them (this project's form: a byte for the kind, big-endian numbers, each record with one spelling).
use Rattle.std.specs.Prelude.{◌≡◌, ◌≢◌, ℕ, ◌^◌, ◌<◌, ◌≤◌, List, [], ◌∷◌, ◌++◌, length, Result, Ok, Err}
use Rattle.std.specs.List.{AllByRecursion}
use Rattle.std.specs.Int.{w32, w64, to_be_bytes}
use Rattle.squall_key.specs.Keys.{top, part_limit}
use Rattle.squall_protocol.specs.Chunks.{ChunkValue}
use Rattle.squall_wire.specs.declared.message.Message.TheVariants.{Delta}
use Rattle.squall_wire.specs.Messages.{spell, IsMessage}
use Rattle.squall_store.specs.Memory.{Values}
use Rattle.squall_store_log.specs.declared.fault.ReadFault.{ReadFault}
use Rattle.squall_store_log.specs.declared.fault.ReadFault.TheVariants.{Strange, NoMemory}
use Rattle.squall_store_log.specs.declared.record.Record.{Record}
use Rattle.squall_store_log.specs.declared.record.Record.TheVariants.{Put, Delete, Give, GiveAt, Load, Absorb, Finish, Close}

-- ---- fields

-- a number in four bytes, and in eight
abbrev pub word : ℕ → List ℕ
word n = to_be_bytes w32 n

abbrev pub rank : ℕ → List ℕ
rank n = to_be_bytes w64 n

-- a chunk: its number, sub-plan, source and destination, and the bounds of its span
abbrev pub spell_chunk : ChunkValue → List ℕ
spell_chunk c = word c.number ++ (word c.sub ++ (word c.source ++ (word c.dest ++ (rank c.span.lo ++ rank c.span.hi))))

-- a row: its key, and the length of its value before the value
abbrev pub spell_row : ℕ × List ℕ → List ℕ
spell_row e = rank e.0 ++ (word (length e.1) ++ e.1)

-- rows, one after the other
abbrev pub spell_rows : Values → List ℕ
spell_rows [] = []
spell_rows (e ∷ rows) = spell_row e ++ spell_rows rows

-- ---- records

-- the payload of a record
abbrev pub spell_record : Record → List ℕ
spell_record (Put key value) = 1 ∷ (rank key ++ value)
spell_record (Delete key) = 2 ∷ rank key
spell_record (Give most) = 3 ∷ rank most
spell_record (GiveAt key) = 4 ∷ rank key
spell_record (Load chunk rows) = 5 ∷ (spell_chunk chunk ++ spell_rows rows)
spell_record (Absorb delta) = 6 ∷ spell (Delta delta)
spell_record (Finish sub) = 7 ∷ word sub
spell_record Close = 8 ∷ []

-- numbers within their limits, and a span that has a key
pub record FitsChunk (c : ChunkValue) : Type 0 where
  pub least : 1 ≤ c.number
  pub number : c.number < 2 ^ 32
  pub sub : c.sub < part_limit
  pub source : c.source < part_limit
  pub dest : c.dest < part_limit
  pub some : c.span.lo < c.span.hi
  pub high : c.span.hi ≤ top

-- numbers of four bytes, and bounds of eight
pub record AreWords (c : ChunkValue) : Type 0 where
  pub number : c.number < 2 ^ 32
  pub sub : c.sub < 2 ^ 32
  pub source : c.source < 2 ^ 32
  pub dest : c.dest < 2 ^ 32
  pub lo : c.span.lo < 2 ^ 64
  pub hi : c.span.hi < 2 ^ 64

-- a key, and a value whose length four bytes hold
pub record FitsRow (e : ℕ × List ℕ) : Type 0 where
  pub key : e.0 < top
  pub value : length e.1 < 2 ^ 32

-- the parts of a record lie within their limits, and a delta has a frame
abbrev pub Fits : Record → Type 0
Fits (Put key value) = key < top
Fits (Delete key) = key < top
Fits (Give most) = most < 2 ^ 64
Fits (GiveAt key) = key < top
Fits (Load chunk rows) = FitsChunk chunk × AllByRecursion FitsRow rows
Fits (Absorb delta) = IsMessage (Delta delta)
Fits (Finish sub) = sub < 2 ^ 32
Fits Close = Unit {0}

-- ---- reading

-- the payload of the record that was read, or of none
abbrev pub Reads : List ℕ → Result Record ReadFault → Type 0
Reads payload (Ok r) = Fits r × (payload ≡ spell_record r)
Reads payload (Err Strange) = (r : Record) → Fits r → payload ≢ spell_record r
Reads payload (Err NoMemory) = Unit {0}

-- the bytes of the rows that were read, or of none
abbrev pub ReadsRows : List ℕ → Result Values ReadFault → Type 0
ReadsRows bytes (Ok rows) = AllByRecursion FitsRow rows × (bytes ≡ spell_rows rows)
ReadsRows bytes (Err Strange) = (rows : Values) → AllByRecursion FitsRow rows → bytes ≢ spell_rows rows
ReadsRows bytes (Err NoMemory) = Unit {0}

-- the row that begins the bytes was added to the rows, and these bytes are after it
pub record IsPushed (old new : Values) (bytes rest : List ℕ) : Type 0 where
  pub row : ℕ × List ℕ
  pub fits : FitsRow row
  pub pushed : new ≡ old ++ (row ∷ [])
  pub read : bytes ≡ spell_row row ++ rest
