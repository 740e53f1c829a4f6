-- At most one value (join semilattices: Shapiro et al. 2011).
use Rattle.std.specs.Prelude.{◌≡◌, Bool, true, cond}
use Rattle.squall_join.specs.declared.flat.Flat.{Flat}
use Rattle.squall_join.specs.declared.flat.Flat.TheVariants.{Unknown, One, Clash}

-- the test tells the values apart
pub record IsExactEq {T : Type 0} (is_one : T → Type 0) (eq : T → T → Bool) : Type 0 where
  pub same : (x y : T) → is_one x → is_one y → eq x y ≡ true → x ≡ y
  pub itself : (x : T) → is_one x → eq x x ≡ true

module _ {T : Type 0} where
  -- nothing yet
  abbrev pub flat_bottom : Flat T
  flat_bottom = Unknown

  -- what holds of one value holds of it here
  abbrev pub flat_is : (T → Type 0) → Flat T → Type 0
  flat_is P Unknown = Unit {0}
  flat_is P (One x) = P x
  flat_is P Clash = Unit {0}

  -- nothing yet adds nothing, equal values are one, and different values clash
  abbrev pub flat_join : (T → T → Bool) → Flat T → Flat T → Flat T
  flat_join eq Unknown y = y
  flat_join eq (One x) Unknown = One x
  flat_join eq (One x) (One y) = cond (eq x y) (One x) Clash
  flat_join eq (One x) Clash = Clash
  flat_join eq Clash y = Clash

-- the function's value of one value
abbrev pub flat_map : {S T : Type 0} → (S → T) → Flat S → Flat T
flat_map f Unknown = Unknown
flat_map f (One x) = One (f x)
flat_map f Clash = Clash
