-- Entries with room for more (this project).
use Rattle.std.specs.Prelude.{ℕ, List}

-- entries by their ends, and how many more fit without an allocation
pub record ReadyValue (V : Type 0) : Type 0 where
  pub entries : List (ℕ × V)
  pub room : ℕ
