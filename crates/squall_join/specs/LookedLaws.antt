-- The laws of what a map has at each key (this project).
use Rattle.std.specs.Prelude.{◌≡◌, List, Option, None, Some, refl}
use Rattle.std.proofs.Common.{sym, ap, ◌∙◌}
use Rattle.std.specs.declared.cmp.Ordering.{Ordering}
use Rattle.std.specs.Cmp.{IsTotalOrder}
use Rattle.std.specs.FinMap.Entries.{find, same_entries}
use Rattle.std.proofs.lemmas.Map.Lookups.{CmpEqualImpliesEq}
use Rattle.squall_join.specs.Laws.{JoinLaws}
use Rattle.squall_join.specs.Entries.{join_found, merged, IsKept, IsMap}
use Rattle.squall_join.specs.Looked.{looked}
use Rattle.squall_join.specs.MapLaws.{find_merged, find_All, Found, values_of_kept}

module _ {V : Type 0} {is_value : V → Type 0} {bottom : V} {join : V → V → V} (l : JoinLaws is_value bottom join) where
  looked_joined : (x y : Option V) → Found is_value x → Found is_value y → looked bottom (join_found join x y) ≡ join (looked bottom x) (looked bottom y)
  looked_joined None None a b = sym (l.idem bottom l.bottom_is)
  looked_joined None (Some y) a b = sym (l.comm bottom y l.bottom_is b ∙ l.neutral y b)
  looked_joined (Some x) None a b = sym (l.neutral x a)
  looked_joined (Some x) (Some y) a b = refl

-- a kept value is not the least, so it differs from none
same_looked : {V : Type 0} (is_value : V → Type 0) (bottom : V) (x y : Option V) → Found (IsKept is_value bottom) x → Found (IsKept is_value bottom) y → looked bottom x ≡ looked bottom y → x ≡ y
same_looked is_value bottom None None a b is = refl
same_looked is_value bottom None (Some y) a b is = absurd (b.1 (sym is))
same_looked is_value bottom (Some x) None a b is = absurd (a.1 is)
same_looked is_value bottom (Some x) (Some y) a b is = ap Some is

module _ {K V : Type 0} {R : K → K → Ordering} (o : IsTotalOrder R) {is_value : V → Type 0} {bottom : V} where
  -- a joined map has at each key the join of what both have there
  pub looked_merged : {join : V → V → V} → JoinLaws is_value bottom join → (q : K) (x y : List (K × V)) → IsMap R is_value bottom x → IsMap R is_value bottom y → looked bottom (find R q (merged R join x y)) ≡ join (looked bottom (find R q x)) (looked bottom (find R q y))
  looked_merged {join} l q x y m n =
      ap (looked bottom) (find_merged o join q x y m.sorted n.sorted)
      ∙ looked_joined l _ _ (find_All R is_value q x (values_of_kept is_value bottom x m.kept)) (find_All R is_value q y (values_of_kept is_value bottom y n.kept))

  -- maps that have the same at each key are equal
  pub same_looked_map : CmpEqualImpliesEq R → (x y : List (K × V)) → IsMap R is_value bottom x → IsMap R is_value bottom y → ((q : K) → looked bottom (find R q x) ≡ looked bottom (find R q y)) → x ≡ y
  same_looked_map exact x y m n is = same_entries R o exact x y m.sorted n.sorted (λ q. same_looked is_value bottom _ _ (find_All R (IsKept is_value bottom) q x m.kept) (find_All R (IsKept is_value bottom) q y n.kept) (is q))
