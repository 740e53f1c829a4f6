-- The laws of at most one value (join semilattices: Shapiro et al. 2011).
use Rattle.std.specs.Prelude.{◌≡◌, ℕ, Bool, true, false, cond, ◌==◌, refl}
use Rattle.std.proofs.Common.{sym, ap, subst, ◌∙◌, arith}
use Rattle.std.proofs.lemmas.Bool.Decides.{nat_tests}
use Rattle.squall_join.specs.declared.flat.Flat.{Flat}
use Rattle.squall_join.specs.declared.flat.Flat.TheVariants.{Unknown, One, Clash}
use Rattle.squall_join.specs.Laws.{JoinLaws}
use Rattle.squall_join.specs.Flats.{IsExactEq, flat_is, flat_join}

pub number_exact : IsExactEq {T = ℕ} (λ _. Unit {0}) ◌==◌
number_exact = record {
  same = λ x y a b e. grind (arith, nat_tests);
  itself = λ x a. grind (arith, nat_tests);
}

module _ {T : Type 0} {P : T → Type 0} {eq : T → T → Bool} (e : IsExactEq P eq) where
  closed : (x y : Flat T) → flat_is P x → flat_is P y → flat_is P (flat_join eq x y)
  closed Unknown y a b = b
  closed (One x) Unknown a b = a
  closed (One x) (One y) a b = elim (eq x y) as (λ t. flat_is P (cond t (One x) Clash)) [ true ↦ a | false ↦ tt ]
  closed (One x) Clash a b = tt
  closed Clash y a b = tt

  comm : (x y : Flat T) → flat_is P x → flat_is P y → flat_join eq x y ≡ flat_join eq y x
  comm Unknown Unknown a b = refl
  comm Unknown (One y) a b = refl
  comm Unknown Clash a b = refl
  comm (One x) Unknown a b = refl
  comm (One x) Clash a b = refl
  comm Clash Unknown a b = refl
  comm Clash (One y) a b = refl
  comm Clash Clash a b = refl
  comm (One x) (One y) a b =
      elim (eq x y) as (λ t. eq x y ≡ t → cond t (One x) Clash ≡ cond (eq y x) (One y) Clash) [
        | true ↦ λ t. let s = e.same x y a b t in ap One s ∙ ap (λ u. cond u (One y) Clash) (sym (subst (λ z. eq y z ≡ true) (sym s) (e.itself y b)))
        | false ↦ λ t. elim (eq y x) as (λ u. eq y x ≡ u → Clash ≡ cond u (One y) Clash) [
          | true ↦ λ u. let s = e.same y x b a u in let h : false ≡ true = sym t ∙ subst (λ z. eq x z ≡ true) (sym s) (e.itself x a) in absurd (let bad : ⊥ = cc in bad)
          | false ↦ λ u. refl
        ] refl
      ] refl

  idem : (x : Flat T) → flat_is P x → flat_join eq x x ≡ x
  idem Unknown a = refl
  idem (One x) a = ap (λ t. cond t (One x) Clash) (e.itself x a)
  idem Clash a = refl

  neutral : (x : Flat T) → flat_is P x → flat_join eq x Unknown ≡ x
  neutral Unknown a = refl
  neutral (One x) a = refl
  neutral Clash a = refl

  to_clash : (x : Flat T) → flat_join eq x Clash ≡ Clash
  to_clash Unknown = refl
  to_clash (One x) = refl
  to_clash Clash = refl

  assoc : (x y z : Flat T) → flat_is P x → flat_is P y → flat_is P z → flat_join eq (flat_join eq x y) z ≡ flat_join eq x (flat_join eq y z)
  assoc Unknown y z a b c = refl
  assoc Clash y z a b c = refl
  assoc (One x) Unknown z a b c = refl
  assoc (One x) Clash z a b c = refl
  assoc (One x) (One y) Unknown a b c = neutral (flat_join eq (One x) (One y)) (closed (One x) (One y) a b)
  assoc (One x) (One y) Clash a b c = to_clash (flat_join eq (One x) (One y))
  assoc (One x) (One y) (One z) a b c =
      elim (eq x y) as (λ t. eq x y ≡ t → flat_join eq (cond t (One x) Clash) (One z) ≡ flat_join eq (One x) (cond (eq y z) (One y) Clash)) [
        | true ↦ λ t. let s = e.same x y a b t in
            elim (eq y z) as (λ u. eq y z ≡ u → cond (eq x z) (One x) Clash ≡ flat_join eq (One x) (cond u (One y) Clash)) [
              | true ↦ λ u. ap (λ w. cond w (One x) Clash) (subst (λ w. eq w z ≡ true) (sym s) u) ∙ sym (ap (λ w. cond w (One x) Clash) t)
              | false ↦ λ u. ap (λ w. cond w (One x) Clash) (subst (λ w. eq w z ≡ false) (sym s) u)
            ] refl
        | false ↦ λ t. elim (eq y z) as (λ u. Clash ≡ flat_join eq (One x) (cond u (One y) Clash)) [
          | true ↦ sym (ap (λ w. cond w (One x) Clash) t)
          | false ↦ refl
        ]
      ] refl

  pub flat_laws : JoinLaws (flat_is P) Unknown (flat_join eq)
  flat_laws = record {
    bottom_is = tt;
    closed = closed;
    assoc = assoc;
    comm = comm;
    idem = idem;
    neutral = neutral;
  }
