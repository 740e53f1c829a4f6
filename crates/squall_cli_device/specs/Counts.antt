-- Counts of what a device did. They stop at the greatest u64, so that counting never fails.
use Rattle.std.specs.Prelude.{◌⊎◌, ℕ, ◌+◌, ◌-◌, ◌^◌, ◌<◌, ◌≤◌, min, Bool, true, false, ◌==◌, nat_lt, ◌&&◌, Ok, Err, Result}

-- the count after one more
abbrev pub one_more : ℕ → ℕ
one_more n = min (n + 1) (2 ^ 64 - 1)

-- the count after k more
abbrev pub times_more : ℕ → ℕ → ℕ
times_more k n = min (n + k) (2 ^ 64 - 1)

-- the count after a call that counts if the test holds
abbrev pub counted : Bool → ℕ → ℕ
counted true n = one_more n
counted false n = n

-- something was counted between an old count and a new one, unless the count had stopped
abbrev pub IsCountedSince : ℕ → ℕ → Type 0
IsCountedSince old new = (old < new) ⊎ (2 ^ 64 - 1 ≤ new)

-- a call that had `size` bytes to move, and at least one, moved none and did not fail
abbrev pub is_idle : {E : Type 0} → ℕ → Result ℕ E → Bool
is_idle size (Ok n) = nat_lt 0 size && (n == 0)
is_idle size (Err e) = false
