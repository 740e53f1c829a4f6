-- What goes in an edit of blocks, and where it was (this project).
use Rattle.std.specs.Prelude.{ℕ, List}

-- blocks that were there before those from one place to another, with the bounds at which they end
pub record OldBlocksValue (V : Type 0) : Type 0 where
  pub first : ℕ
  pub end : ℕ
  pub lasts : List ℕ
  pub blocks : List (List (ℕ × V))

-- entries that were in the block at a place before those from one place in it to another, and the bound at which the block ended
pub record OldEntriesValue (V : Type 0) : Type 0 where
  pub at : ℕ
  pub first : ℕ
  pub end : ℕ
  pub last : ℕ
  pub gone : List (ℕ × V)
