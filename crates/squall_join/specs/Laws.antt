-- What a join semilattice is (Shapiro et al. 2011).
use Rattle.std.specs.Prelude.{◌≡◌}

-- a has all that b has: the join of both is a
abbrev pub Covers : {X : Type 0} → (X → X → X) → X → X → Type 0
Covers join a b = join a b ≡ a

-- a join is again a value; joins come in any grouping, order and number to the same value; the least value changes nothing
pub record JoinLaws {X : Type 0} (is_value : X → Type 0) (bottom : X) (join : X → X → X) : Type 0 where
  pub bottom_is : is_value bottom
  pub closed : (x y : X) → is_value x → is_value y → is_value (join x y)
  pub assoc : (x y z : X) → is_value x → is_value y → is_value z → join (join x y) z ≡ join x (join y z)
  pub comm : (x y : X) → is_value x → is_value y → join x y ≡ join y x
  pub idem : (x : X) → is_value x → join x x ≡ x
  pub neutral : (x : X) → is_value x → join x bottom ≡ x

-- z covers both, and each value that covers both covers z
pub record IsLeastUpperBound {X : Type 0} (is_value : X → Type 0) (join : X → X → X) (x y z : X) : Type 0 where
  pub first : Covers join z x
  pub second : Covers join z y
  pub least : (w : X) → is_value w → Covers join w x → Covers join w y → Covers join w z
