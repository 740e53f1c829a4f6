-- Entries by rising end: what ends beyond a key, what ends by it, and what is replaced (this project; a routing table: Squall, SIGMOD 2015).
use Rattle.std.specs.Prelude.{ℕ, ◌<◌, nat_lt, if◌then◌else◌, List, [], ◌∷◌, ◌++◌}

-- the ends of entries
abbrev pub ends_of : {V : Type 0} → List (ℕ × V) → List ℕ
ends_of [] = []
ends_of (e ∷ es) = e.0 ∷ ends_of es

-- ends that rise, the first beyond a bound
abbrev pub RiseFrom : {V : Type 0} → ℕ → List (ℕ × V) → Type 0
RiseFrom b [] = Unit {0}
RiseFrom b (e ∷ es) = (b < e.0) × RiseFrom e.0 es

-- the bound at which the last entry ends, a given one if there are none
abbrev pub last_from : {V : Type 0} → ℕ → List (ℕ × V) → ℕ
last_from b [] = b
last_from b (e ∷ es) = last_from e.0 es

-- the entries from the first on that ends beyond the key
abbrev pub beyond : {V : Type 0} → ℕ → List (ℕ × V) → List (ℕ × V)
beyond k [] = []
beyond k (e ∷ es) = if nat_lt k e.0 then e ∷ es else beyond k es

-- the entries before these
abbrev pub up_to : {V : Type 0} → ℕ → List (ℕ × V) → List (ℕ × V)
up_to k [] = []
up_to k (e ∷ es) = if nat_lt k e.0 then [] else e ∷ up_to k es

-- the entries with the fresh ones in place of those that end beyond one key and not beyond another
abbrev pub replaced : {V : Type 0} → ℕ → ℕ → List (ℕ × V) → List (ℕ × V) → List (ℕ × V)
replaced a b fresh es = up_to a es ++ (fresh ++ beyond b es)
