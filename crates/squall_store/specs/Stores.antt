-- What a partition with rows does (this project: a reply, a gift and a load of a partition, and what becomes of its rows then).
use Rattle.std.specs.Prelude.{◌≡◌, ◌≢◌, ℕ, true, false, List, Result, Err, Some, take}
use Rattle.std.specs.List.{slice_get, AllByRecursion}
use Rattle.squall_errand.specs.declared.errand.Reply.{Reply}
use Rattle.squall_span.specs.Spans.{has}
use Rattle.squall_errand.specs.declared.errand.Reply.TheVariants.{Held}
use Rattle.squall_protocol.specs.Chunks.{ChunkValue}
use Rattle.squall_part.specs.declared.loading.Load.{Load}
use Rattle.squall_part.specs.declared.loading.LoadFault.{LoadFault}
use Rattle.squall_part.specs.declared.loading.LoadFault.TheVariants.{NoMemory}
use Rattle.squall_part.specs.Parts.{PartValue}
use Rattle.squall_part.specs.Serving.{IsReply}
use Rattle.squall_part.specs.Loading.{MayLoad, IsLoaded, is_new}
use Rattle.squall_store.specs.declared.store.Asked.{Asked}
use Rattle.squall_store.specs.declared.store.Asked.TheVariants.{Ran, NotHeld}

-- a store: the partition, and the rows in the host's database
pub record StoreValue (D : Type 0) : Type 0 where
  pub part : PartValue
  pub rows : D

-- if the partition holds the key, the command read its row, replied and made its next row. Otherwise the partition gave another reply
-- than Held, and the row stays
abbrev pub IsAsked : {Row Command R : Type 0} → (Command → Row → Row × R) → PartValue → ℕ → ℕ → Command → Row → Row → Asked R → Type 0
IsAsked run p k number command before after (Ran reply) = (has p.held k ≡ true) × (after ≡ (run command before).0) × (reply ≡ (run command before).1)
IsAsked run p k number command before after (NotHeld reply) = IsReply p k number reply × (reply ≢ Held) × (after ≡ before)

-- the partition's own answer to a chunk; memory may also be missing for the rows of a chunk that may be loaded, and then the
-- partition is unchanged
abbrev pub IsAnswered : PartValue → ChunkValue → Result Load LoadFault → PartValue → Type 0
IsAnswered p c (Err NoMemory) q = MayLoad p c × (q ≡ p)
IsAnswered p c result q = IsLoaded p c result q

-- these rows have of each new key of the chunk the row that was copied
abbrev pub NewRowsAre : {Row : Type 0} → (ℕ → Row) → PartValue → ChunkValue → (ℕ → Row) → Type 0
NewRowsAre copied p c after = (k : ℕ) → is_new p c k ≡ true → after k ≡ copied k

-- a key that is not new keeps its row, also if the partition holds it
abbrev pub OthersStay : {Row : Type 0} → PartValue → ChunkValue → (ℕ → Row) → (ℕ → Row) → Type 0
OthersStay p c before after = (k : ℕ) → is_new p c k ≡ false → after k ≡ before k

-- ---- several keys

-- the partition holds each of these keys
abbrev pub HoldsAll : PartValue → List ℕ → Type 0
HoldsAll p keys = AllByRecursion (λ k. has p.held k ≡ true) keys

-- the key at that place is the first of these that the partition does not hold, and that is its reply
pub record IsFirstNotHeld (p : PartValue) (keys : List ℕ) (number at : ℕ) (reply : Reply) : Type 0 where
  pub key : ℕ
  pub there : slice_get keys at ≡ Some key
  pub replied : IsReply p key number reply
  pub other : reply ≢ Held
  pub before : HoldsAll p (take at keys)
