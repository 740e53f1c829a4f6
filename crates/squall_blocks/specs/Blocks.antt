-- A list of entries in blocks, and an edit of it (this project).
use Rattle.std.specs.List.{splice}
use Rattle.std.specs.Prelude.{◌≡◌, ℕ, zero, suc, ◌+◌, nat_le, if◌then◌else◌, slice_index, ◌<◌, ◌≤◌, List, [], ◌∷◌, ◌++◌, length, take, drop, slice_index_or}
use Rattle.squall_blocks.specs.Entries.{RiseFrom, last_from, beyond, up_to}

-- the most entries of a block
abbrev pub most : ℕ
most = 128

-- neighbours with at most this many entries together are made one block
abbrev pub few : ℕ
few = 64

-- the entries of all blocks
abbrev pub flat : {V : Type 0} → List (List (ℕ × V)) → List (ℕ × V)
flat [] = []
flat (b ∷ bs) = b ++ flat bs

-- the bounds at which blocks end
abbrev pub lasts_of : {V : Type 0} → List (List (ℕ × V)) → List ℕ
lasts_of [] = []
lasts_of (b ∷ bs) = last_from 0 b ∷ lasts_of bs

-- no block is empty, and none has more entries than it may
abbrev pub AreFull : {V : Type 0} → List (List (ℕ × V)) → Type 0
AreFull [] = Unit {0}
AreFull (b ∷ bs) = (0 < length b) × (length b ≤ most) × AreFull bs

-- blocks of entries by rising end, and the bounds at which they end
pub record AreBlocks {V : Type 0} (ls : List ℕ) (blocks : List (List (ℕ × V))) : Type 0 where
  pub lasts : ls ≡ lasts_of blocks
  pub full : AreFull blocks
  pub rise : RiseFrom 0 (flat blocks)

-- the block at m is the first that ends beyond the key, or the last if none does
pub record IsNear (ls : List ℕ) (k m : ℕ) : Type 0 where
  pub within : m < length ls
  pub before : (j : ℕ) → j < m → slice_index ls j ≤ k
  pub beyond_key : m + 1 < length ls → k < slice_index ls m

-- An edit between two keys: m and e are the blocks of the first and the last entry that goes. It says how many entries of the one
-- stay, and from which place on those of the other stay.
pub record IsEdit {V : Type 0} (ls : List ℕ) (bs : List (List (ℕ × V))) (a b m e o p : ℕ) : Type 0 where
  pub blocks : AreBlocks ls bs
  pub first : IsNear ls a m
  pub last : IsNear ls b e
  pub order : m ≤ e
  pub stay : up_to a (slice_index_or bs m []) ≡ take o (slice_index_or bs m [])
  pub behind : beyond b (slice_index_or bs e []) ≡ drop p (slice_index_or bs e [])
  pub to : o ≤ length (slice_index_or bs m [])
  pub from_place : p ≤ length (slice_index_or bs e [])

-- the blocks with the one at a place and the one behind it made one, if both are there and have few entries together
abbrev pub joined_at : {V : Type 0} → ℕ → List (List (ℕ × V)) → List (List (ℕ × V))
joined_at m [] = []
joined_at zero (b ∷ []) = b ∷ []
joined_at zero (b ∷ c ∷ bs) = if nat_le (length b + length c) few then (b ++ c) ∷ bs else b ∷ c ∷ bs
joined_at (suc m) (b ∷ bs) = b ∷ joined_at m bs

-- what an iterator has left: entries of one block, with none only if no block is behind it
pub record IsIter {V : Type 0} (ends : List ℕ) (values : List V) (behind : List (List (ℕ × V))) : Type 0 where
  pub same : length ends ≡ length values
  pub full : AreFull behind
  pub last : length ends ≡ 0 → length behind ≡ 0

-- the blocks with another one at a place
abbrev pub put : {V : Type 0} → List (List (ℕ × V)) → ℕ → List (ℕ × V) → List (List (ℕ × V))
put bs m b = splice bs m (m + 1) (b ∷ [])

-- Blocks with an edit that is prepared. The block at m is out of its place: b is what it has, and c what it has after the edit. With
-- either of them in its place they are blocks
pub record IsPrepared {V : Type 0} (ls : List ℕ) (bs : List (List (ℕ × V))) (m : ℕ) (b c : List (ℕ × V)) : Type 0 where
  pub before : AreBlocks ls (put bs m b)
  pub after : AreBlocks (splice ls m (m + 1) (last_from 0 c ∷ [])) (put bs m c)
  pub within : m < length bs
  pub some : 0 < length c
