-- Rows of bytes in memory (this project).
use Rattle.std.specs.Prelude.{◌≡◌, ℕ, ◌≤◌, ◌<◌, List, Option, None, Some}
use Rattle.std.specs.Ordering.{nat_cmp}
use Rattle.std.specs.BTreeMap.{is_at}
use Rattle.std.specs.Map.{lookup}
use Rattle.squall_store.specs.declared.command.Command.{Command}
use Rattle.squall_store.specs.declared.command.Command.TheVariants.{Get, Put, Delete}

-- the keys that have a value, with their values, in the keys' order
abbrev pub Values : Type 0
Values = List (ℕ × List ℕ)

-- the value of a key, or none
abbrev pub value_at : Values → ℕ → Option (List ℕ)
value_at rows k = lookup (is_at (nat_cmp k)) rows

-- no key from one bound up to another has a value
abbrev pub IsEmptyFrom : Values → ℕ → ℕ → Type 0
IsEmptyFrom rows from to = (k : ℕ) → from ≤ k → k < to → value_at rows k ≡ None

-- from one bound up to another both have the same values
abbrev pub AreAlikeFrom : Values → Values → ℕ → ℕ → Type 0
AreAlikeFrom rows others from to = (k : ℕ) → from ≤ k → k < to → value_at rows k ≡ value_at others k

-- below one bound, and from another one on, both have the same values
pub record AreAlikeBeside (rows others : Values) (from to : ℕ) : Type 0 where
  pub below : (k : ℕ) → k < from → value_at rows k ≡ value_at others k
  pub above : (k : ℕ) → to ≤ k → value_at rows k ≡ value_at others k

-- the row that a command leaves, and its reply: the row as it was
abbrev pub run_on : Command → Option (List ℕ) → Option (List ℕ) × Option (List ℕ)
run_on Get row = (row, row)
run_on (Put value) row = (Some value, row)
run_on Delete row = (None, row)
