-- The nodes of partitions that plans name, and the notes of their places.
use Rattle.std.specs.Prelude.{◌≡◌, ℕ, ◌<◌, ◌&&◌, not, Bool, false, List, length, Option, Some, None, is_some, slice_index_or}
use Rattle.std.specs.List.{filter, position, range_with_len, slice_get, AllByRecursion}
use Rattle.squall_key.specs.Keys.{part_limit}
use Rattle.squall_world.specs.Nets.{PeerValue, is_part_peer, IsRole}

-- for each partition that there can be, its place among the nodes
pub record AreNoted (peers : List PeerValue) (places : List (Option ℕ)) : Type 0 where
  pub length : length places ≡ part_limit
  pub each : (p : ℕ) → p < part_limit → slice_get places p ≡ Some (position (is_part_peer p) peers)

-- the partition is marked, and has no place
abbrev pub is_missing : List Bool → List (Option ℕ) → ℕ → Bool
is_missing named places p = slice_index_or named p false && not (is_some (slice_index_or places p None))

-- the numbers below a limit that are marked and have no place
abbrev pub missing_below : ℕ → List Bool → List (Option ℕ) → List ℕ
missing_below limit named places = filter (is_missing named places) (range_with_len 0 limit)

-- what holds of each node of its kind holds of these
abbrev pub AreRoles : List PeerValue → Type 0
AreRoles peers = AllByRecursion (λ p. IsRole p.role) peers
