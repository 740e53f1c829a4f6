-- A value as the set of its facts (this project).
use Rattle.std.specs.Prelude.{◌≡◌, ℕ, Bool, false, ◌||◌, nat_lt, List, Option, None, Some, ◌⊎◌}
use Rattle.std.proofs.Common.{inl, inr}
use Rattle.std.specs.declared.cmp.Ordering.{Ordering}
use Rattle.std.specs.FinMap.Entries.{find}
use Rattle.squall_join.specs.declared.pair.Pair.{Pair}

-- says x f: x has the fact f. A join has the facts of either, and the same facts make the same value
pub record Factual {X F : Type 0} (is_value : X → Type 0) (bottom : X) (join : X → X → X) (says : X → F → Bool) : Type 0 where
  pub at_bottom : (f : F) → says bottom f ≡ false
  pub at_join : (x y : X) → is_value x → is_value y → (f : F) → says (join x y) f ≡ (says x f || says y f)
  pub same : (x y : X) → is_value x → is_value y → ((f : F) → says x f ≡ says y f) → x ≡ y

-- the facts of a greatest number: the numbers below it
abbrev pub max_says : ℕ → ℕ → Bool
max_says m t = nat_lt t m

-- the one fact of a flag: that it is set
abbrev pub flag_says : Bool → Unit {0} → Bool
flag_says x _ = x

module _ {A B F G : Type 0} where
  -- the facts of a pair: those of the first half, and those of the second
  abbrev pub pair_says : (A → F → Bool) → (B → G → Bool) → Pair A B → F ⊎ G → Bool
  pair_says p q x (inl f) = p x.first f
  pair_says p q x (inr g) = q x.second g

module _ {V F : Type 0} (says : V → F → Bool) where
  -- the facts of what was found, of which an absent value has none
  abbrev pub found_says : Option V → F → Bool
  found_says None f = false
  found_says (Some v) f = says v f

module _ {K V F : Type 0} (R : K → K → Ordering) (says : V → F → Bool) where
  -- the map has the fact f under the key
  abbrev pub map_says : List (K × V) → K × F → Bool
  map_says es q = found_says says (find R q.0 es) q.1
