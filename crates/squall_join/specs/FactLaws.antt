-- The laws of facts (this project).
use Rattle.std.specs.Prelude.{◌≡◌, ℕ, ◌<◌, Bool, false, ◌||◌, nat_lt, max, List, [], Option, None, Some, refl}
use Rattle.std.proofs.Common.{sym, ap, ◌∙◌, arith, inl, inr}
use Rattle.std.proofs.Math.Bool.{or-false}
use Rattle.std.proofs.lemmas.Bool.{cases_lt}
use Rattle.std.proofs.lemmas.Bool.Decides.{nat_tests}
use Rattle.std.specs.declared.cmp.Ordering.{Ordering}
use Rattle.std.specs.Cmp.{IsTotalOrder}
use Rattle.std.specs.FinMap.Entries.{find}
use Rattle.std.proofs.lemmas.Map.Lookups.{CmpEqualImpliesEq}
use Rattle.squall_join.specs.Laws.{JoinLaws}
use Rattle.squall_join.specs.Basic.{is_max}
use Rattle.squall_join.specs.Pairs.{pair_of, pair_is, pair_join}
use Rattle.squall_join.specs.PairLaws.{same_pair}
use Rattle.squall_join.specs.Facts.{Factual, max_says, flag_says, pair_says, found_says, map_says}
use Rattle.squall_join.specs.Entries.{join_found, merged, IsKept, IsMap}
use Rattle.squall_join.specs.MapLaws.{find_merged, same_map, find_All, Found}
use Rattle.squall_span.specs.Spans.{has, IsSet, union}
use Rattle.squall_span.specs.SpanLaws.{has-union, same_spans}

lt_max : (t a b : ℕ) → nat_lt t (max a b) ≡ (nat_lt t a || nat_lt t b)
lt_max t a b = grind (arith, nat_tests)

differs : (a b : ℕ) → a < b → nat_lt a a ≡ nat_lt a b → ⊥
differs a b lt e = grind (arith, nat_tests)

pub max_factual : Factual is_max 0 max max_says
max_factual = record {
  at_bottom = λ t. grind (arith, nat_tests);
  at_join = λ x y a b t. lt_max t x y;
  same = λ x y a b is. elim (cases_lt x y) [
    | inl lt ↦ absurd (differs x y lt (is x))
    | inr ge ↦ elim (cases_lt y x) [
      | inl lt ↦ absurd (differs y x lt (sym (is y)))
      | inr le ↦ omega arith
    ]
  ];
}

pub flag_factual : Factual (λ _. Unit {0}) false ◌||◌ flag_says
flag_factual = record {
  at_bottom = λ t. refl;
  at_join = λ x y a b t. refl;
  same = λ x y a b is. is tt;
}

-- the facts of a set: its keys
pub set_factual : Factual IsSet [] union has
set_factual = record {
  at_bottom = λ k. refl;
  at_join = λ x y a b k. has-union x y k a.0 b.0;
  same = λ x y a b is. same_spans x y a b (λ k _. is k);
}

module _ {A B F G : Type 0} where
  pub pair_factual : {P : A → Type 0} {Q : B → Type 0} {a : A} {b : B} {f : A → A → A} {g : B → B → B} {p : A → F → Bool} {q : B → G → Bool} → Factual P a f p → Factual Q b g q → Factual (pair_is P Q) (pair_of a b) (pair_join f g) (pair_says p q)
  pair_factual l m = record {
    at_bottom = elim [ inl f ↦ l.at_bottom f | inr g ↦ m.at_bottom g ];
    at_join = λ x y v w. elim [ inl f ↦ l.at_join x.first y.first v.0 w.0 f | inr g ↦ m.at_join x.second y.second v.1 w.1 g ];
    same = λ x y v w is. same_pair x.first y.first x.second y.second (l.same _ _ v.0 w.0 (λ f. is (inl f))) (m.same _ _ v.1 w.1 (λ g. is (inr g)));
  }

module _ {K V F : Type 0} (R : K → K → Ordering) (says : V → F → Bool) where
  pub map_says_none : (es : List (K × V)) (k : K) (f : F) → None ≡ find R k es → false ≡ map_says R says es (k, f)
  map_says_none es k f e = ap (λ v. found_says says v f) e

  pub map_says_some : (es : List (K × V)) (k : K) (v : V) (f : F) → Some v ≡ find R k es → says v f ≡ map_says R says es (k, f)
  map_says_some es k v f e = ap (λ w. found_says says w f) e

module _ {K V F : Type 0} {R : K → K → Ordering} (o : IsTotalOrder R) (exact : CmpEqualImpliesEq R) {is_value : V → Type 0} {bottom : V} {join : V → V → V} {says : V → F → Bool} (l : JoinLaws is_value bottom join) (m : Factual is_value bottom join says) where
  joined_says : (x y : Option V) → Found is_value x → Found is_value y → (f : F) → found_says says (join_found join x y) f ≡ (found_says says x f || found_says says y f)
  joined_says None y a b f = refl
  joined_says (Some x) None a b f = sym (or-false (says x f))
  joined_says (Some x) (Some y) a b f = m.at_join x y a b f

  -- a kept value has a fact, so it differs from nothing
  same_found : (x y : Option V) → Found (IsKept is_value bottom) x → Found (IsKept is_value bottom) y → ((f : F) → found_says says x f ≡ found_says says y f) → x ≡ y
  same_found None None a b is = refl
  same_found None (Some y) a b is = absurd (b.1 (m.same y bottom b.0 l.bottom_is (λ f. sym (is f) ∙ sym (m.at_bottom f))))
  same_found (Some x) None a b is = absurd (a.1 (m.same x bottom a.0 l.bottom_is (λ f. is f ∙ sym (m.at_bottom f))))
  same_found (Some x) (Some y) a b is = ap Some (m.same x y a.0 b.0 is)

  value_of : (x : Option V) → Found (IsKept is_value bottom) x → Found is_value x
  value_of None a = tt
  value_of (Some x) a = a.0

  kept_at : (q : K) (es : List (K × V)) → IsMap R is_value bottom es → Found (IsKept is_value bottom) (find R q es)
  kept_at q es h = find_All R (IsKept is_value bottom) q es h.kept

  pub map_factual : Factual (IsMap R is_value bottom) [] (merged R join) (map_says R says)
  map_factual = record {
    at_bottom = λ q. refl;
    at_join = λ x y a b q. ap (λ v. found_says says v q.1) (find_merged o join q.0 x y a.sorted b.sorted) ∙ joined_says _ _ (value_of _ (kept_at q.0 x a)) (value_of _ (kept_at q.0 y b)) q.1;
    same = λ x y a b is. same_map o exact l x y a b (λ q. same_found _ _ (kept_at q x a) (kept_at q y b) (λ f. is (q, f)));
  }
