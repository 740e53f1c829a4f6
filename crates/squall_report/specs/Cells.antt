-- The place of a cell on a board (partitions: Squall, SIGMOD 2015; numbers and sub-plans are this project's).
use Rattle.std.specs.Prelude.{ℕ, ◌==◌, ◌&&◌, nat_lt, nat_le, Bool, Option, Some, None, if◌then◌else◌}
use Rattle.std.specs.declared.cmp.Ordering.{Ordering}
use Rattle.std.specs.Ordering.{nat_cmp, on, then_cmp}
use Rattle.squall_key.specs.Keys.{part_limit}

-- a partition in a sub-plan of the reconfiguration of a number
pub record CellPlace : Type 0 where
  pub number : ℕ
  pub sub : ℕ
  pub part : ℕ

abbrev pub place_at : ℕ → ℕ → ℕ → CellPlace
place_at number sub part = record { number = number; sub = sub; part = part }

-- reconfigurations count from 1, sub-plans and partitions from 0 to 9999
abbrev pub is_cell_place : CellPlace → Bool
is_cell_place c = nat_le 1 c.number && (nat_lt c.sub part_limit && nat_lt c.part part_limit)

-- the cell, if its numbers lie within their limits
abbrev pub place_of : ℕ → ℕ → ℕ → Option CellPlace
place_of number sub part = if is_cell_place (place_at number sub part) then Some (place_at number sub part) else None

-- both are one cell
abbrev pub is_same_cell : CellPlace → CellPlace → Bool
is_same_cell c d = (c.number == d.number) && ((c.sub == d.sub) && (c.part == d.part))

-- by number, then by sub-plan, then by partition
abbrev pub cell_cmp : CellPlace → CellPlace → Ordering
cell_cmp = then_cmp (on (λ c. c.number) nat_cmp) (then_cmp (on (λ c. c.sub) nat_cmp) (on (λ c. c.part) nat_cmp))
