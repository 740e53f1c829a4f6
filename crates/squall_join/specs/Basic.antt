-- The values of a greatest number (join semilattices: Shapiro et al. 2011).
use Rattle.std.specs.Prelude.{ℕ, ◌<◌, ◌^◌}

-- a number of 32 bits
abbrev pub is_max : ℕ → Type 0
is_max n = n < 2 ^ 32
