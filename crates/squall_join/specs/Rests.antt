-- What a value has beyond another (this project; for joins: Shapiro et al. 2011).
use Rattle.std.specs.Prelude.{◌≡◌, ◌≢◌, ℕ, Bool, true, false, not, ◌&&◌, ◌||◌, nat_lt, cond, if◌then◌else◌, List, [], ◌∷◌, Option, None, Some, ◌↔◌}
use Rattle.std.specs.List.{flat_map, list_all}
use Rattle.std.specs.declared.cmp.Ordering.{Ordering}
use Rattle.std.specs.FinMap.Entries.{find}
use Rattle.squall_span.specs.Spans.{Interval, minus}
use Rattle.squall_join.specs.declared.flat.Flat.{Flat}
use Rattle.squall_join.specs.declared.flat.Flat.TheVariants.{Unknown, One, Clash}
use Rattle.squall_join.specs.declared.pair.Pair.{Pair}
use Rattle.squall_join.specs.Laws.{Covers}
use Rattle.squall_join.specs.Looked.{looked}
use Rattle.squall_join.specs.Pairs.{pair_of}

-- What a value has beyond another is a value again, and it is bottom exactly if the other covers the value. Joined with the other
-- it is the join of both. It has nothing that the value lacks, and it is the least value with each unit of the value that the
-- other lacks. A unit is a value, and the value has it.
pub record BeyondLaws {X : Type 0} (is_value : X → Type 0) (bottom : X) (join : X → X → X) (covered : X → X → Bool) (unit : X → X → Type 0) (beyond : X → X → X) : Type 0 where
  pub closed : (x y : X) → is_value x → is_value y → is_value (beyond x y)
  pub tested : (x y : X) → is_value x → is_value y → (covered x y ≡ true) ↔ Covers join y x
  pub nothing : (x y : X) → is_value x → is_value y → covered x y ≡ true → beyond x y ≡ bottom
  pub some : (x y : X) → is_value x → is_value y → covered x y ≡ false → beyond x y ≢ bottom
  pub joined : (x y : X) → is_value x → is_value y → join (beyond x y) y ≡ join x y
  pub at_most : (x y : X) → is_value x → is_value y → Covers join x (beyond x y)
  pub unit_is : (x u : X) → is_value x → unit x u → is_value u
  pub unit_in : (x u : X) → is_value x → unit x u → Covers join x u
  pub has : (x y u : X) → is_value x → is_value y → unit x u → covered u y ≡ false → Covers join (beyond x y) u
  pub least : (x y z : X) → is_value x → is_value y → is_value z → ((u : X) → unit x u → covered u y ≡ false → Covers join z u) → Covers join z (beyond x y)

-- ---- numbers and flags

-- the number, if it is greater than the other
abbrev pub max_beyond : ℕ → ℕ → ℕ
max_beyond x y = if nat_lt y x then x else 0

-- a flag is covered if it is not set, or the other is
abbrev pub flag_covered : Bool → Bool → Bool
flag_covered x y = not x || y

-- set if the flag is set and the other is not
abbrev pub flag_beyond : Bool → Bool → Bool
flag_beyond x y = x && not y

-- ---- sets of keys

-- the list has no span
abbrev pub no_span : List Interval → Bool
no_span [] = true
no_span (s ∷ ss) = false

-- no key is left of the first set without those of the second
abbrev pub set_covered : List Interval → List Interval → Bool
set_covered x y = no_span (minus x y)

-- ---- at most one value

module _ {T : Type 0} (eq : T → T → Bool) where
  -- nothing is covered by all, one value by itself and by a clash, and a clash by a clash
  abbrev pub flat_covered : Flat T → Flat T → Bool
  flat_covered Unknown y = true
  flat_covered (One x) Unknown = false
  flat_covered (One x) (One y) = eq x y
  flat_covered (One x) Clash = true
  flat_covered Clash Unknown = false
  flat_covered Clash (One y) = false
  flat_covered Clash Clash = true

  -- nothing if the other covers it, and else the whole
  abbrev pub flat_beyond : Flat T → Flat T → Flat T
  flat_beyond Unknown y = Unknown
  flat_beyond (One x) Unknown = One x
  flat_beyond (One x) (One y) = cond (eq x y) Unknown (One x)
  flat_beyond (One x) Clash = Unknown
  flat_beyond Clash Unknown = Clash
  flat_beyond Clash (One y) = Clash
  flat_beyond Clash Clash = Unknown

-- ---- pairs

module _ {A B : Type 0} where
  -- both halves are covered
  abbrev pub pair_covered : (A → A → Bool) → (B → B → Bool) → Pair A B → Pair A B → Bool
  pair_covered p q x y = p x.first y.first && q x.second y.second

  -- half by half
  abbrev pub pair_beyond : (A → A → A) → (B → B → B) → Pair A B → Pair A B → Pair A B
  pair_beyond f g x y = pair_of (f x.first y.first) (g x.second y.second)

-- ---- maps

module _ {V : Type 0} (covered : V → V → Bool) (beyond : V → V → V) where
  -- what one map has beyond another at a key: the value if the other has none, nothing if the other's covers it, and else what it
  -- has beyond the other's
  abbrev pub found_beyond : Option V → Option V → Option V
  found_beyond None w = None
  found_beyond (Some v) None = Some v
  found_beyond (Some v) (Some w) = if covered v w then None else Some (beyond v w)

-- the entry of a value under the key, if there is one
abbrev pub entry_of : {K V : Type 0} → K → Option V → List (K × V)
entry_of key None = []
entry_of key (Some v) = (key, v) ∷ []

module _ {K V : Type 0} (R : K → K → Ordering) where
  -- each value is covered by what the other map has at its key
  abbrev pub map_covered : V → (V → V → Bool) → List (K × V) → List (K × V) → Bool
  map_covered bottom covered xs ys = list_all (λ e. covered e.1 (looked bottom (find R e.0 ys))) xs

  -- what the entry has beyond the other map
  abbrev pub entry_beyond : (V → V → Bool) → (V → V → V) → List (K × V) → K × V → List (K × V)
  entry_beyond covered beyond ys e = entry_of e.0 (found_beyond covered beyond (Some e.1) (find R e.0 ys))

  -- what each entry has beyond the other map
  abbrev pub map_beyond : (V → V → Bool) → (V → V → V) → List (K × V) → List (K × V) → List (K × V)
  map_beyond covered beyond xs ys = flat_map (entry_beyond covered beyond ys) xs
