-- The laws of what a map has beyond another (this project).
use Rattle.std.specs.Prelude.{◌≡◌, ◌≢◌, Bool, true, false, ◌&&◌, cond, T, List, [], ◌∷◌, ◌++◌, Option, None, Some, ◌↔◌, refl}
use Rattle.std.proofs.Common.{sym, ap, subst, ◌∙◌}
use Rattle.std.proofs.Math.Bool.{and-true}
use Rattle.std.specs.List.{AllByRecursion}
use Rattle.std.proofs.lemmas.Bool.{true≢false, and_parts}
use Rattle.std.specs.declared.cmp.Ordering.{Ordering}
use Rattle.std.specs.Ordering.{is_eq, eq_by_cmp}
use Rattle.std.specs.Cmp.{IsTotalOrder, tied_itself}
use Rattle.std.specs.FinMap.Entries.{is_sorted, below_all, find}
use Rattle.std.proofs.lemmas.Map.Lookups.{CmpEqualImpliesEq}
use Rattle.squall_join.specs.Laws.{JoinLaws, Covers}
use Rattle.squall_join.specs.Entries.{merged, IsKept, IsMap}
use Rattle.squall_join.specs.Looked.{looked}
use Rattle.squall_join.specs.LookedLaws.{looked_merged, same_looked_map}
use Rattle.squall_join.specs.MapLaws.{both, first, second, equal, find_tied_below, merged_is, find_All, Found, values_of_kept}
use Rattle.squall_join.specs.Units.{entry_unit}
use Rattle.squall_join.specs.BeyondLaws.{bottom_covered}
use Rattle.squall_join.specs.Rests.{BeyondLaws, found_beyond, entry_of, map_covered, map_beyond}

and_true : (a b : Bool) → a ≡ true → b ≡ true → (a && b) ≡ true
and_true a b p q = ap (λ x. x && b) p ∙ q

-- the value that was found first
abbrev found_or : {V : Type 0} → Option V → Option V → Option V
found_or None w = w
found_or (Some v) w = Some v

or_none : {V : Type 0} (x : Option V) → found_or x None ≡ x
or_none None = refl
or_none (Some v) = refl

module _ {K V : Type 0} (R : K → K → Ordering) where
  find_entry : (q k : K) (o : Option V) (rest : List (K × V)) → find R q (entry_of k o ++ rest) ≡ cond (eq_by_cmp R q k) (found_or o (find R q rest)) (find R q rest)
  find_entry q k None rest = elim (eq_by_cmp R q k) as (λ b. find R q rest ≡ cond b (find R q rest) (find R q rest)) [ true ↦ refl | false ↦ refl ]
  find_entry q k (Some v) rest = refl

  below_entry : (x k : K) (v : V) (o : Option V) (es rest : List (K × V)) → T (below_all R x ((k, v) ∷ es)) → T (below_all R x rest) → T (below_all R x (entry_of k o ++ rest))
  below_entry x k v None es rest h g = g
  below_entry x k v (Some w) es rest h g = both _ _ (first _ _ h) g

  module _ (covered : V → V → Bool) (beyond : V → V → V) where
    pub below_beyond : (x : K) (es fs : List (K × V)) → T (below_all R x es) → T (below_all R x (map_beyond R covered beyond es fs))
    below_beyond x [] fs h = tt
    below_beyond x (e ∷ es) fs h = below_entry x e.0 e.1 (found_beyond covered beyond (Some e.1) (find R e.0 fs)) es _ h (below_beyond x es fs (second _ _ h))

    sorted_entry : (k : K) (o : Option V) (rest : List (K × V)) → T (below_all R k rest) → T (is_sorted R rest) → T (is_sorted R (entry_of k o ++ rest))
    sorted_entry k None rest h g = g
    sorted_entry k (Some v) rest h g = both _ _ h g

    pub sorted_beyond : (es fs : List (K × V)) → T (is_sorted R es) → T (is_sorted R (map_beyond R covered beyond es fs))
    sorted_beyond [] fs h = tt
    sorted_beyond (e ∷ es) fs h = sorted_entry e.0 (found_beyond covered beyond (Some e.1) (find R e.0 fs)) _ (below_beyond e.0 es fs (first _ _ h)) (sorted_beyond es fs (second _ _ h))

    -- at each key what was found in one map has beyond what was found in the other
    pub find_beyond : IsTotalOrder R → CmpEqualImpliesEq R → (q : K) (es fs : List (K × V)) → T (is_sorted R es) → find R q (map_beyond R covered beyond es fs) ≡ found_beyond covered beyond (find R q es) (find R q fs)
    find_beyond o exact q [] fs h = refl
    find_beyond o exact q (e ∷ es) fs h =
        let here = found_beyond covered beyond (Some e.1) (find R e.0 fs) in
        let rest = find_beyond o exact q es fs (second _ _ h) in
        find_entry q e.0 here (map_beyond R covered beyond es fs)
        ∙ elim (eq_by_cmp R q e.0) as (λ b. eq_by_cmp R q e.0 ≡ b → cond b (found_or here (find R q (map_beyond R covered beyond es fs))) (find R q (map_beyond R covered beyond es fs)) ≡ found_beyond covered beyond (cond b (Some e.1) (find R q es)) (find R q fs)) [
          | true ↦ λ t.
              ap (found_or here) (rest ∙ ap (λ f. found_beyond covered beyond f (find R q fs)) (find_tied_below o q e.0 es t (first _ _ h)))
              ∙ or_none here ∙ ap (λ k. found_beyond covered beyond (Some e.1) (find R k fs)) (sym (exact q e.0 (equal _ t)))
          | false ↦ λ t. rest
        ] refl

module _ {V : Type 0} {is_value : V → Type 0} {bottom : V} {join : V → V → V} {covered : V → V → Bool} {unit : V → V → Type 0} {beyond : V → V → V} (l : JoinLaws is_value bottom join) (m : BeyondLaws is_value bottom join covered unit beyond) where
  -- beyond the least value each value is whole
  pub beyond_bottom : (x : V) → is_value x → beyond x bottom ≡ x
  beyond_bottom x a = sym (l.neutral _ (m.closed x bottom a l.bottom_is)) ∙ m.joined x bottom a l.bottom_is ∙ l.neutral x a

  looked_beyond : (x y : Option V) → Found is_value x → Found is_value y → looked bottom (found_beyond covered beyond x y) ≡ beyond (looked bottom x) (looked bottom y)
  looked_beyond None None a b = sym (m.nothing bottom bottom l.bottom_is l.bottom_is (bottom_covered l m bottom l.bottom_is))
  looked_beyond None (Some y) a b = sym (m.nothing bottom y l.bottom_is b (bottom_covered l m y b))
  looked_beyond (Some x) None a b = sym (beyond_bottom x a)
  looked_beyond (Some x) (Some y) a b = elim (covered x y) as (λ t. covered x y ≡ t → looked bottom (cond t None (Some (beyond x y))) ≡ beyond x y) [
    | true ↦ λ t. sym (m.nothing x y a b t)
    | false ↦ λ t. refl
  ] refl

  kept_found : (x y : Option V) → Found (IsKept is_value bottom) x → Found is_value y → Found (IsKept is_value bottom) (found_beyond covered beyond x y)
  kept_found None y a b = tt
  kept_found (Some x) None a b = a
  kept_found (Some x) (Some y) a b = elim (covered x y) as (λ t. covered x y ≡ t → Found (IsKept is_value bottom) (cond t None (Some (beyond x y)))) [
    | true ↦ λ t. tt
    | false ↦ λ t. (m.closed x y a.0 b, m.some x y a.0 b t)
  ] refl

  module _ {K : Type 0} (R : K → K → Ordering) where
    kept_entry : (k : K) (o : Option V) (rest : List (K × V)) → Found (IsKept is_value bottom) o → AllByRecursion (λ e. IsKept is_value bottom e.1) rest → AllByRecursion (λ e. IsKept is_value bottom e.1) (entry_of k o ++ rest)
    kept_entry k None rest h g = g
    kept_entry k (Some v) rest h g = (h, g)

    kept_beyond : (es fs : List (K × V)) → AllByRecursion (λ e. IsKept is_value bottom e.1) es → AllByRecursion (λ e. is_value e.1) fs → AllByRecursion (λ e. IsKept is_value bottom e.1) (map_beyond R covered beyond es fs)
    kept_beyond [] fs h g = tt
    kept_beyond (e ∷ es) fs h g = kept_entry e.0 (found_beyond covered beyond (Some e.1) (find R e.0 fs)) _ (kept_found (Some e.1) (find R e.0 fs) h.0 (find_All R is_value e.0 fs g)) (kept_beyond es fs h.1 g)

module _ {K V : Type 0} {R : K → K → Ordering} (o : IsTotalOrder R) (exact : CmpEqualImpliesEq R) {is_value : V → Type 0} {bottom : V} {join : V → V → V} {covered : V → V → Bool} {unit : V → V → Type 0} {beyond : V → V → V} (l : JoinLaws is_value bottom join) (m : BeyondLaws is_value bottom join covered unit beyond) where
  -- what the map has at the key
  abbrev at : List (K × V) → K → V
  at es q = looked bottom (find R q es)

  value_at : (es : List (K × V)) → IsMap R is_value bottom es → (q : K) → is_value (at es q)
  value_at es h q = found_is (find R q es) (find_All R is_value q es (values_of_kept is_value bottom es h.kept))
    where
      found_is : (x : Option V) → Found is_value x → is_value (looked bottom x)
      found_is None a = l.bottom_is
      found_is (Some x) a = a

  pub map_beyond_is : (x y : List (K × V)) → IsMap R is_value bottom x → IsMap R is_value bottom y → IsMap R is_value bottom (map_beyond R covered beyond x y)
  map_beyond_is x y a b = record { sorted = sorted_beyond R covered beyond x y a.sorted; kept = kept_beyond l m R x y a.kept (values_of_kept is_value bottom y b.kept) }

  -- at each key what one map has there beyond what the other has there
  pub looked_map_beyond : (q : K) (x y : List (K × V)) → IsMap R is_value bottom x → IsMap R is_value bottom y → looked bottom (find R q (map_beyond R covered beyond x y)) ≡ beyond (looked bottom (find R q x)) (looked bottom (find R q y))
  looked_map_beyond q x y a b =
      ap (looked bottom) (find_beyond R covered beyond o exact q x y a.sorted)
      ∙ looked_beyond l m _ _ (find_All R is_value q x (values_of_kept is_value bottom x a.kept)) (find_All R is_value q y (values_of_kept is_value bottom y b.kept))

  -- a map covers another if it does at each key
  pub covers_at : (x y : List (K × V)) → IsMap R is_value bottom x → IsMap R is_value bottom y → Covers (merged R join) x y → (q : K) → Covers join (at x q) (at y q)
  covers_at x y a b e q = sym (looked_merged o l q x y a b) ∙ ap (λ es. at es q) e

  pub covers_by_keys : (x y : List (K × V)) → IsMap R is_value bottom x → IsMap R is_value bottom y → ((q : K) → Covers join (at x q) (at y q)) → Covers (merged R join) x y
  covers_by_keys x y a b h = same_looked_map o exact _ x (merged_is o exact l x y a b) a (λ q. looked_merged o l q x y a b ∙ h q)

  covered_at : (x y : List (K × V)) → IsMap R is_value bottom y → map_covered R bottom covered x y ≡ true → (q : K) → covered (at x q) (at y q) ≡ true
  covered_at [] y b e q = bottom_covered l m (at y q) (value_at y b q)
  covered_at (f ∷ x) y b e q =
      let parts = and_parts (covered f.1 (at y f.0)) (map_covered R bottom covered x y) e in
      elim (eq_by_cmp R q f.0) as (λ t. eq_by_cmp R q f.0 ≡ t → covered (looked bottom (cond t (Some f.1) (find R q x))) (at y q) ≡ true) [
        | true ↦ λ t. subst (λ k. covered f.1 (at y k) ≡ true) (sym (exact q f.0 (equal _ t))) parts.0
        | false ↦ λ t. covered_at x y b parts.1 q
      ] refl

  -- a sorted map covers by each key what it covers entry by entry
  covered_from : (x y : List (K × V)) → T (is_sorted R x) → ((q : K) → covered (at x q) (at y q) ≡ true) → AllByRecursion (λ e. is_value e.1) x → IsMap R is_value bottom y → map_covered R bottom covered x y ≡ true
  covered_from [] y h c v b = refl
  covered_from (f ∷ x) y h c v b =
      and_true _ _
      (ap (λ r. covered (looked bottom (cond (is_eq r) (Some f.1) (find R f.0 x))) (at y f.0)) (sym (tied_itself o f.0)) ∙ c f.0)
      (covered_from x y (second _ _ h) (λ q. elim (eq_by_cmp R q f.0) as (λ t. eq_by_cmp R q f.0 ≡ t → covered (looked bottom (cond t (Some f.1) (find R q x))) (at y q) ≡ true → covered (at x q) (at y q) ≡ true) [
        | true ↦ λ t _. ap (λ w. covered (looked bottom w) (at y q)) (find_tied_below o q f.0 x t (first _ _ h)) ∙ bottom_covered l m (at y q) (value_at y b q)
        | false ↦ λ t e. e
      ] refl (c q)) v.1 b)

  map_tested : (x y : List (K × V)) → IsMap R is_value bottom x → IsMap R is_value bottom y → (map_covered R bottom covered x y ≡ true) ↔ Covers (merged R join) y x
  map_tested x y a b = (
    λ e. covers_by_keys y x b a (λ q. (m.tested _ _ (value_at x a q) (value_at y b q)).0 (covered_at x y b e q)),
    λ e. covered_from x y a.sorted (λ q. (m.tested _ _ (value_at x a q) (value_at y b q)).1 (covers_at y x b a e q)) (values_of_kept is_value bottom x a.kept) b,
  )

  map_nothing : (x y : List (K × V)) → IsMap R is_value bottom x → IsMap R is_value bottom y → map_covered R bottom covered x y ≡ true → map_beyond R covered beyond x y ≡ []
  map_nothing x y a b e = same_looked_map o exact (map_beyond R covered beyond x y) [] (map_beyond_is x y a b) (record { sorted = tt; kept = tt }) (λ q.
      looked_map_beyond q x y a b ∙ m.nothing _ _ (value_at x a q) (value_at y b q) (covered_at x y b e q))

  -- if nothing is left, each value was covered
  covered_where_nothing : (v w : V) → is_value v → is_value w → beyond v w ≡ bottom → covered v w ≡ true
  covered_where_nothing v w a b is = elim (covered v w) as (λ t. covered v w ≡ t → t ≡ true) [ true ↦ λ t. refl | false ↦ λ t. absurd (m.some v w a b t is) ] refl

  map_some : (x y : List (K × V)) → IsMap R is_value bottom x → IsMap R is_value bottom y → map_covered R bottom covered x y ≡ false → map_beyond R covered beyond x y ≢ []
  map_some x y a b e is = true≢false (sym (covered_from x y a.sorted (λ q.
      covered_where_nothing _ _ (value_at x a q) (value_at y b q) (sym (looked_map_beyond q x y a b) ∙ ap (λ es. at es q) is)) (values_of_kept is_value bottom x a.kept) b) ∙ e)

  map_joined : (x y : List (K × V)) → IsMap R is_value bottom x → IsMap R is_value bottom y → merged R join (map_beyond R covered beyond x y) y ≡ merged R join x y
  map_joined x y a b = let rest = map_beyond_is x y a b in same_looked_map o exact _ _ (merged_is o exact l _ y rest b) (merged_is o exact l x y a b) (λ q.
      looked_merged o l q (map_beyond R covered beyond x y) y rest b ∙ ap (λ v. join v (at y q)) (looked_map_beyond q x y a b)
      ∙ m.joined _ _ (value_at x a q) (value_at y b q) ∙ sym (looked_merged o l q x y a b))

  map_at_most : (x y : List (K × V)) → IsMap R is_value bottom x → IsMap R is_value bottom y → Covers (merged R join) x (map_beyond R covered beyond x y)
  map_at_most x y a b = covers_by_keys x _ a (map_beyond_is x y a b) (λ q. ap (join (at x q)) (looked_map_beyond q x y a b) ∙ m.at_most _ _ (value_at x a q) (value_at y b q))

  -- ---- its units

  -- the map of one entry has the value at its key, and nothing at others
  single_is : (k : K) (w : V) → is_value w → w ≢ bottom → IsMap R is_value bottom ((k, w) ∷ [])
  single_is k w a n = record { sorted = tt; kept = ((a, n), tt) }

  single_at : (k : K) (w : V) → at ((k, w) ∷ []) k ≡ w
  single_at k w = ap (λ r. looked bottom (cond (is_eq r) (Some w) None)) (tied_itself o k)

  -- a map covers the map of one entry if it does at the key
  covers_single : (x : List (K × V)) (k : K) (w : V) → IsMap R is_value bottom x → is_value w → w ≢ bottom → Covers join (at x k) w → Covers (merged R join) x ((k, w) ∷ [])
  covers_single x k w a b n c = covers_by_keys x ((k, w) ∷ []) a (single_is k w b n) (λ q.
      elim (eq_by_cmp R q k) as (λ t. eq_by_cmp R q k ≡ t → Covers join (at x q) (looked bottom (cond t (Some w) None))) [
        | true ↦ λ t. subst (λ i. Covers join (at x i) w) (sym (exact q k (equal _ t))) c
        | false ↦ λ t. l.neutral (at x q) (value_at x a q)
      ] refl)

  single_covered : (x : List (K × V)) (k : K) (w : V) → IsMap R is_value bottom x → is_value w → w ≢ bottom → Covers (merged R join) x ((k, w) ∷ []) → Covers join (at x k) w
  single_covered x k w a b n c = subst (Covers join (at x k)) (single_at k w) (covers_at x ((k, w) ∷ []) a (single_is k w b n) c k)

  unit_value : (x : List (K × V)) (k : K) (w : V) → IsMap R is_value bottom x → unit (at x k) w → is_value w
  unit_value x k w a e = m.unit_is (at x k) w (value_at x a k) e

  map_unit_is : (x u : List (K × V)) → IsMap R is_value bottom x → entry_unit R bottom unit x u → IsMap R is_value bottom u
  map_unit_is x u a (k, w, e, n, is) = subst (IsMap R is_value bottom) (sym is) (single_is k w (unit_value x k w a e) n)

  map_unit_in : (x u : List (K × V)) → IsMap R is_value bottom x → entry_unit R bottom unit x u → Covers (merged R join) x u
  map_unit_in x u a (k, w, e, n, is) = subst (Covers (merged R join) x) (sym is) (covers_single x k w a (unit_value x k w a e) n (m.unit_in (at x k) w (value_at x a k) e))

  one_covered : (w v : V) → (covered w v && true) ≡ covered w v
  one_covered w v = and-true (covered w v)

  map_has : (x y u : List (K × V)) → IsMap R is_value bottom x → IsMap R is_value bottom y → entry_unit R bottom unit x u → map_covered R bottom covered u y ≡ false → Covers (merged R join) (map_beyond R covered beyond x y) u
  map_has x y u a b (k, w, e, n, is) t =
      let lacks : covered w (at y k) ≡ false = sym (one_covered w (at y k)) ∙ ap (λ z. map_covered R bottom covered z y) (sym is) ∙ t in
      subst (Covers (merged R join) (map_beyond R covered beyond x y)) (sym is) (covers_single (map_beyond R covered beyond x y) k w (map_beyond_is x y a b) (unit_value x k w a e) n
      (subst (λ v. Covers join v w) (sym (looked_map_beyond k x y a b)) (m.has (at x k) (at y k) w (value_at x a k) (value_at y b k) e lacks)))

  map_least : (x y z : List (K × V)) → IsMap R is_value bottom x → IsMap R is_value bottom y → IsMap R is_value bottom z → ((u : List (K × V)) → entry_unit R bottom unit x u → map_covered R bottom covered u y ≡ false → Covers (merged R join) z u) → Covers (merged R join) z (map_beyond R covered beyond x y)
  map_least x y z a b c all = covers_by_keys z (map_beyond R covered beyond x y) c (map_beyond_is x y a b) (λ q.
      subst (Covers join (at z q)) (sym (looked_map_beyond q x y a b)) (m.least (at x q) (at y q) (at z q) (value_at x a q) (value_at y b q) (value_at z c q) (λ w e t.
      let n : w ≢ bottom = λ none. true≢false (sym (ap (λ v. covered v (at y q)) none ∙ bottom_covered l m (at y q) (value_at y b q)) ∙ t) in
      single_covered z q w c (unit_value x q w a e) n (all ((q, w) ∷ []) (q, w, e, n, refl) (one_covered w (at y q) ∙ t)))))

  pub map_beyond_laws : BeyondLaws (IsMap R is_value bottom) [] (merged R join) (map_covered R bottom covered) (entry_unit R bottom unit) (map_beyond R covered beyond)
  map_beyond_laws = record {
    closed = map_beyond_is;
    tested = map_tested;
    nothing = map_nothing;
    some = map_some;
    joined = map_joined;
    at_most = map_at_most;
    unit_is = map_unit_is;
    unit_in = map_unit_in;
    has = map_has;
    least = map_least;
  }
