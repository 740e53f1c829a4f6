-- Edits of blocks that may still be undone (this project).
use Rattle.std.specs.List.{splice}
use Rattle.std.specs.Prelude.{◌≡◌, ℕ, ◌+◌, ◌-◌, ◌<◌, ◌≤◌, List, [], ◌∷◌, length, slice_index_or}
use Rattle.squall_blocks.specs.Blocks.{put, AreBlocks}
use Rattle.squall_blocks.specs.Steps.{OldBlocksValue, OldEntriesValue}
use Rattle.squall_blocks.specs.declared.steps.Step.{Step}
use Rattle.squall_blocks.specs.declared.steps.Step.TheVariants.{Blocks, Entries}

-- the bounds at which blocks end before the edit that a step undoes
abbrev pub lasts_before : {V : Type 0} → Step V → List ℕ → List ℕ
lasts_before (Blocks s) ls = splice ls s.first s.end s.lasts
lasts_before (Entries s) ls = splice ls s.at (s.at + 1) (s.last ∷ [])

-- the blocks before the edit that a step undoes
abbrev pub blocks_before : {V : Type 0} → Step V → List (List (ℕ × V)) → List (List (ℕ × V))
blocks_before (Blocks s) bs = splice bs s.first s.end s.blocks
blocks_before (Entries s) bs = put bs s.at (splice (slice_index_or bs s.at []) s.first s.end s.gone)

-- how many blocks a step keeps
abbrev pub kept_by : {V : Type 0} → Step V → ℕ
kept_by (Blocks s) = length s.blocks
kept_by (Entries s) = 0

-- the bounds at which blocks end when the steps are undone, the newest first; the oldest comes first in the list
abbrev pub undone_lasts : {V : Type 0} → List (Step V) → List ℕ → List ℕ
undone_lasts [] ls = ls
undone_lasts (s ∷ ss) ls = lasts_before s (undone_lasts ss ls)

-- the blocks when the steps are undone, the newest first
abbrev pub undone : {V : Type 0} → List (Step V) → List (List (ℕ × V)) → List (List (ℕ × V))
undone [] bs = bs
undone (s ∷ ss) bs = blocks_before s (undone ss bs)

-- how many blocks the steps keep
abbrev pub kept_in : {V : Type 0} → List (Step V) → ℕ
kept_in [] = 0
kept_in (s ∷ ss) = kept_by s + kept_in ss

-- the places of old blocks lie among the blocks
pub record AreAmong {V : Type 0} (s : OldBlocksValue V) (ls : List ℕ) (bs : List (List (ℕ × V))) : Type 0 where
  pub order : s.first ≤ s.end
  pub lasts : s.end ≤ length ls
  pub blocks : s.end ≤ length bs
  pub same : length s.lasts ≡ length s.blocks

-- The places of old entries lie in a block. They are no more than those in their place, so that they need no room
pub record AreInBlock {V : Type 0} (s : OldEntriesValue V) (ls : List ℕ) (bs : List (List (ℕ × V))) : Type 0 where
  pub lasts : s.at < length ls
  pub blocks : s.at < length bs
  pub order : s.first ≤ s.end
  pub entries : s.end ≤ length (slice_index_or bs s.at [])
  pub fewer : length s.gone ≤ s.end - s.first

-- the places of a step lie among the blocks
abbrev pub IsWithin : {V : Type 0} → Step V → List ℕ → List (List (ℕ × V)) → Type 0
IsWithin (Blocks s) ls bs = AreAmong s ls bs
IsWithin (Entries s) ls bs = AreInBlock s ls bs

-- the places of each step lie among the blocks once the newer ones are undone
abbrev pub AreWithin : {V : Type 0} → List (Step V) → List ℕ → List (List (ℕ × V)) → Type 0
AreWithin [] ls bs = Unit {0}
AreWithin (s ∷ ss) ls bs = IsWithin s (undone_lasts ss ls) (undone ss bs) × AreWithin ss ls bs

-- blocks, and the steps that lead back to what they were
pub record IsDraft {V : Type 0} (ls : List ℕ) (bs : List (List (ℕ × V))) (ss : List (Step V)) : Type 0 where
  pub now_blocks : AreBlocks ls bs
  pub first_blocks : AreBlocks (undone_lasts ss ls) (undone ss bs)
  pub within : AreWithin ss ls bs

-- the step leads from blocks back to those before them
pub record Undoes {V : Type 0} (s : Step V) (ls ls' : List ℕ) (bs bs' : List (List (ℕ × V))) : Type 0 where
  pub within : IsWithin s ls' bs'
  pub lasts : lasts_before s ls' ≡ ls
  pub blocks : blocks_before s bs' ≡ bs
