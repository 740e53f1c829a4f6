-- The units of a value, each as a value of its own (this project).
use Rattle.std.specs.Prelude.{◌≡◌, ◌≢◌, ℕ, ◌+◌, true, List, [], ◌∷◌, ◌⊎◌}
use Rattle.std.specs.declared.cmp.Ordering.{Ordering}
use Rattle.std.specs.FinMap.Entries.{find}
use Rattle.squall_span.specs.Spans.{Interval, interval, has}
use Rattle.squall_join.specs.declared.pair.Pair.{Pair}
use Rattle.squall_join.specs.Looked.{looked}

-- the value itself: the one unit of a number, of a flag and of at most one value
abbrev pub whole_unit : {X : Type 0} → X → X → Type 0
whole_unit x u = u ≡ x

-- one key of the set
abbrev pub key_unit : List Interval → List Interval → Type 0
key_unit x u = (k : ℕ) × (has x k ≡ true) × (u ≡ interval k (k + 1) ∷ [])

-- a unit of one half, and the least value as the other half
abbrev pub pair_unit : {A B : Type 0} → (A → A → Type 0) → (B → B → Type 0) → A → B → Pair A B → Pair A B → Type 0
pair_unit p q a b x u = (p x.first u.first × (u.second ≡ b)) ⊎ ((u.first ≡ a) × q x.second u.second)

-- one entry, whose value is a unit of what the map has at its key, and not the least value
abbrev pub entry_unit : {K V : Type 0} → (K → K → Ordering) → V → (V → V → Type 0) → List (K × V) → List (K × V) → Type 0
entry_unit {K} {V} R bottom unit x u = (k : K) × (w : V) × unit (looked bottom (find R k x)) w × (w ≢ bottom) × (u ≡ (k, w) ∷ [])
