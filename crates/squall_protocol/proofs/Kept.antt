-- What holds in each world of a run.
use Rattle.std.proofs.Common.{◌≡◌, ◌⊎◌, ℕ, ◌+◌, ◌<◌, ◌≤◌, true, false}
use Rattle.std.specs.Prelude.{Some}
use Rattle.std.specs.List.{slice_get}
use Rattle.squall_key.specs.Keys.{top}
use Rattle.squall_span.specs.Spans.{span_has}
use Rattle.squall_join.specs.declared.flat.Flat.TheVariants.{Unknown, One}
use Rattle.squall_report.specs.Issues.{PlanPair}
use Rattle.squall_report.specs.Cells.{CellPlace}
use Rattle.squall_report.specs.Queries.{Queries}
use Rattle.squall_protocol.specs.Chunks.{ChunkValue}
use Rattle.squall_protocol.specs.Known.{last_number}
use Rattle.squall_protocol.specs.declared.event.Node.{Node}
use Rattle.squall_protocol.specs.declared.event.Node.TheVariants.{Part}
use Rattle.squall_protocol.specs.Worlds.{WorldValue, WasBegun, pair_at, is_part}
use Rattle.squall_protocol.specs.Steps.{IsPlan, LeavesAt}
use Rattle.squall_protocol.proofs.Courses.{old_owner, new_owner, sub_in, Moves}

-- the number is the first course's, or one pair of plans is issued under it
abbrev pub Hears : Queries → ℕ → Type 0
Hears f n = (n ≡ 1) ⊎ ((pair : PlanPair) × (f.issued n ≡ One pair))

-- the greatest such number
abbrev pub IsNewest : Queries → ℕ → Type 0
IsNewest f n = Hears f n × ((m : ℕ) → Hears f m → m ≤ n)

-- each thing that is told happened
pub record TrueFacts (w : WorldValue) (f : Queries) : Type 0 where
  pub loaded : (c : CellPlace) (k : ℕ) → f.loaded c k ≡ true → w.loaded c.number c.part k ≡ true
  pub done_begun : (c : CellPlace) → f.done c ≡ true → WasBegun w c.number
  pub done : (c : CellPlace) → f.done c ≡ true → (k : ℕ) → Moves w c.number k → new_owner w c.number k ≡ c.part → sub_in w c.number k ≡ c.sub → w.loaded c.number c.part k ≡ true
  pub opened_begun : (n t : ℕ) → t < f.opened n → WasBegun w n
  pub opened : (n t : ℕ) → t < f.opened n → t < w.opened n
  pub issued : (n : ℕ) → (f.issued n ≡ Unknown) ⊎ (WasBegun w n × (f.issued n ≡ One (pair_at w n)))

-- who holds a key: its new partition if it stays or is loaded, its old one if it moves and is not given
abbrev pub Holds : WorldValue → ℕ → ℕ → Type 0
Holds w p k =
    ((p ≡ new_owner w w.last k) × (Moves w w.last k → w.loaded w.last p k ≡ true))
    ⊎ ((p ≡ old_owner w w.last k) × Moves w w.last k × (w.given w.last p k ≡ false))

-- what holds of a key that was given
pub record IsGiven (w : WorldValue) (n p k : ℕ) : Type 0 where
  pub first : 1 ≤ n
  pub last : n ≤ w.last
  pub moves : Moves w n k
  pub source : old_owner w n k ≡ p
  pub opened : sub_in w n k < w.opened n
  pub hears : Hears (w.facts (Part p)) n

-- what holds of a key that was loaded
pub record IsLoaded (w : WorldValue) (n q k : ℕ) : Type 0 where
  pub dest : new_owner w n k ≡ q
  pub given : w.given n (old_owner w n k) k ≡ true
  pub hears : Hears (w.facts (Part q)) n

-- what holds of a key in a chunk
pub record IsSent (w : WorldValue) (x : ChunkValue) (k : ℕ) : Type 0 where
  pub source : old_owner w x.number k ≡ x.source
  pub dest : new_owner w x.number k ≡ x.dest
  pub sub : sub_in w x.number k ≡ x.sub
  pub given : w.given x.number x.source k ≡ true

-- the chunk in which a given key is
pub record HasChunk (w : WorldValue) (n p k : ℕ) : Type 0 where
  pub index : ℕ
  pub chunk : ChunkValue
  pub there : slice_get w.chunks index ≡ Some chunk
  pub number : chunk.number ≡ n
  pub source : chunk.source ≡ p
  pub keys : span_has chunk.span k ≡ true

-- the invariant
pub record Kept (w : WorldValue) : Type 0 where
  pub first : 1 ≤ w.last
  pub numbers : w.last ≤ last_number
  -- plans are plans, and their partitions are there
  pub olds : (n : ℕ) → n ≤ w.last → IsPlan (w.old n)
  pub news : (n : ℕ) → n ≤ w.last → IsPlan (w.new n)
  pub old_there : (n k : ℕ) → n ≤ w.last → k < top → is_part w (old_owner w n k) ≡ true
  pub new_there : (n k : ℕ) → n ≤ w.last → k < top → is_part w (new_owner w n k) ≡ true
  pub held_true : (p k : ℕ) → w.held p k ≡ true → Holds w p k
  pub held_from : (p k : ℕ) → k < top → Holds w p k → w.held p k ≡ true
  pub given : (n p k : ℕ) → w.given n p k ≡ true → IsGiven w n p k
  pub loaded : (n q k : ℕ) → w.loaded n q k ≡ true → IsLoaded w n q k
  -- a course leaves each key where the next one has it at first, and a sub-plan is over before the next is opened
  pub left : (n k : ℕ) → 1 ≤ n → n < w.last → LeavesAt w n k (old_owner w (n + 1) k)
  pub earlier : (k : ℕ) → Moves w w.last k → sub_in w w.last k + 1 < w.opened w.last → w.loaded w.last (new_owner w w.last k) k ≡ true
  pub facts : (node : Node) → TrueFacts w (w.facts node)
  pub messages : (i : ℕ) (message : Queries) → slice_get w.messages i ≡ Some message → TrueFacts w message
  -- each chunk has a key, and each given key of a number and source is in exactly one chunk
  pub some : (i : ℕ) (x : ChunkValue) → slice_get w.chunks i ≡ Some x → (k : ℕ) × (span_has x.span k ≡ true)
  pub sent : (i : ℕ) (x : ChunkValue) → slice_get w.chunks i ≡ Some x → (k : ℕ) → span_has x.span k ≡ true → IsSent w x k
  pub once : (i j : ℕ) (a b : ChunkValue) (k : ℕ) → slice_get w.chunks i ≡ Some a → slice_get w.chunks j ≡ Some b → a.number ≡ b.number → a.source ≡ b.source
      → span_has a.span k ≡ true → span_has b.span k ≡ true → i ≡ j
  pub somewhere : (n p k : ℕ) → w.given n p k ≡ true → HasChunk w n p k
