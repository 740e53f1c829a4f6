-- Keys that partitions share evenly (this project: a key goes to the share that is as far along among the shares as the key is among the keys).
use Rattle.std.specs.Prelude.{ℕ, ◌+◌, ◌-◌, ◌*◌, ◌/◌, ◌^◌, ◌==◌, nat_lt, List, length, slice_index_or, if◌then◌else◌}
use Rattle.squall_key.specs.Keys.{top, second_of}

-- how many keys a unit has: all those of a root if the bound is between two roots, or else one
abbrev pub unit_of : ℕ → ℕ
unit_of below = if second_of below == 0 then 2 ^ 32 else 1

-- how many units lie below the bound
abbrev pub units_below : ℕ → ℕ
units_below below = below / unit_of below

-- the share of a unit, counted from 0, among so many units and so many shares
abbrev pub share_at : ℕ → ℕ → ℕ → ℕ
share_at units shares unit = unit * shares / units

-- the share of a key: that of its unit if it is below the bound, or else the last one
abbrev pub share_of : ℕ → ℕ → ℕ → ℕ
share_of below shares k = if nat_lt k below then share_at (units_below below) shares (k / unit_of below) else shares - 1

-- the partition of a key if each partition has one share, in their order
abbrev pub owner_shared : ℕ → List ℕ → ℕ → ℕ
owner_shared below parts k = slice_index_or parts (share_of below (length parts) k) 0

-- ---- on the way to the plan

-- how many units are in the shares up to a share, and in it: the first unit that is too far along for it
abbrev pub share_end : ℕ → ℕ → ℕ → ℕ
share_end units shares share = ((share + 1) * units - 1) / shares + 1

-- the bound at which a share ends
abbrev pub end_of : ℕ → ℕ → ℕ → ℕ
end_of below shares share = if share + 1 == shares then top else share_end (units_below below) shares share * unit_of below
