-- The laws of maps under `merged` (maps of join semilattices: Shapiro et al. 2011).
use Rattle.std.specs.Prelude.{◌≡◌, Bool, true, false, cond, ◌&&◌, T, List, [], ◌∷◌, Option, None, Some, refl}
use Rattle.std.proofs.Common.{sym, ap, subst, ◌∙◌}
use Rattle.std.specs.declared.cmp.Ordering.{Ordering}
use Rattle.std.specs.declared.cmp.Ordering.TheVariants.{Less, Equal, Greater}
use Rattle.std.specs.Ordering.{is_lt, is_eq, ordering_reverse, eq_by_cmp}
use Rattle.std.specs.List.{AllByRecursion}
use Rattle.std.specs.Cmp.{IsTotalOrder, alike_right}
use Rattle.std.specs.FinMap.Entries.{by_order, is_sorted, below_all, find, same_entries}
use Rattle.std.proofs.lemmas.Map.Lookups.{CmpEqualImpliesEq}
use Rattle.squall_join.specs.Laws.{JoinLaws}
use Rattle.squall_join.specs.Entries.{join_found, merge_step, merged, IsKept, IsMap}

pub both : (a b : Bool) → T a → T b → T (a && b)
both true b p q = q
both false b p q = p

pub first : (a b : Bool) → T (a && b) → T a
first true b p = tt
first false b p = p

pub second : (a b : Bool) → T (a && b) → T b
second true b p = p
second false b p = absurd p

pub less : (o : Ordering) → T (is_lt o) → o ≡ Less
less Less p = refl
less Equal p = absurd p
less Greater p = absurd p

pub equal : (r : Ordering) → is_eq r ≡ true → r ≡ Equal
equal Less p = absurd (subst T (sym p) tt)
equal Equal p = refl
equal Greater p = absurd (subst T (sym p) tt)

pub join_found_none : {V : Type 0} (j : V → V → V) (x : Option V) → x ≡ join_found j x None
join_found_none j None = refl
join_found_none j (Some x) = refl

pub turned : {K : Type 0} {R : K → K → Ordering} → IsTotalOrder R → (x y : K) → R x y ≡ Greater → R y x ≡ Less
turned o x y p = o.antisymm y x ∙ ap ordering_reverse p

module _ {K V : Type 0} {R : K → K → Ordering} (o : IsTotalOrder R) where
  pub below_trans : (x y : K) (es : List (K × V)) → R x y ≡ Less → T (below_all R y es) → T (below_all R x es)
  below_trans x y [] p h = tt
  below_trans x y (e ∷ es) p h = both _ _ (subst (λ r. T (is_lt r)) (sym (o.trans x y e.0 p (less _ (first _ _ h)))) tt) (below_trans x y es p (second _ _ h))

  pub below_tied : (x y : K) (es : List (K × V)) → R x y ≡ Equal → T (below_all R y es) → T (below_all R x es)
  below_tied x y [] p h = tt
  below_tied x y (e ∷ es) p h = both _ _ (subst (λ r. T (is_lt r)) (sym (o.congr x y e.0 p)) (first _ _ h)) (below_tied x y es p (second _ _ h))

  pub find_below : (q : K) (es : List (K × V)) → T (below_all R q es) → find R q es ≡ None
  find_below q [] h = refl
  find_below q (e ∷ es) h = ap (λ r. cond (is_eq r) (Some e.1) (find R q es)) (less _ (first _ _ h)) ∙ find_below q es (second _ _ h)

  -- a key that ties with one below all entries is not found
  pub find_tied_below : (q x : K) (es : List (K × V)) → eq_by_cmp R q x ≡ true → T (below_all R x es) → find R q es ≡ None
  find_tied_below q x es t h = find_below q es (below_tied q x es (equal _ t) h)

  -- the head is below the tail of another list with a greater head
  pub below_other : (x : K) (f : K × V) (fs : List (K × V)) → R x f.0 ≡ Less → T (is_sorted R (f ∷ fs)) → T (below_all R x (f ∷ fs))
  below_other x f fs p h = both _ _ (subst (λ r. T (is_lt r)) (sym p) tt) (below_trans x f.0 fs p (first _ _ h))

  module _ (join : V → V → V) where
    below_merge_step : (x : K) (e : K × V) (es : List (K × V)) → T (below_all R x (e ∷ es)) → ((fs : List (K × V)) → T (below_all R x fs) → T (below_all R x (merged R join es fs))) → (fs : List (K × V)) → T (below_all R x fs) → T (below_all R x (merge_step R join e es (merged R join es) fs))
    below_merge_step x e es h on [] g = h
    below_merge_step x e es h on (f ∷ fs) g =
        elim (R e.0 f.0) as (λ r. T (below_all R x (by_order r (e ∷ merged R join es (f ∷ fs)) ((e.0, join e.1 f.1) ∷ merged R join es fs) (f ∷ merge_step R join e es (merged R join es) fs)))) [
          | Less ↦ both _ _ (first _ _ h) (on (f ∷ fs) g)
          | Equal ↦ both _ _ (first _ _ h) (on fs (second _ _ g))
          | Greater ↦ both _ _ (first _ _ g) (below_merge_step x e es h on fs (second _ _ g))
        ]

    pub below_merged : (x : K) (es fs : List (K × V)) → T (below_all R x es) → T (below_all R x fs) → T (below_all R x (merged R join es fs))
    below_merged x [] fs h g = g
    below_merged x (e ∷ es) fs h g = below_merge_step x e es h (λ gs i. below_merged x es gs (second _ _ h) i) fs g

    sorted_merge_step : (e : K × V) (es : List (K × V)) → T (is_sorted R (e ∷ es)) → ((fs : List (K × V)) → T (is_sorted R fs) → T (is_sorted R (merged R join es fs))) → (fs : List (K × V)) → T (is_sorted R fs) → T (is_sorted R (merge_step R join e es (merged R join es) fs))
    sorted_merge_step e es h on [] g = h
    sorted_merge_step e es h on (f ∷ fs) g =
        elim (R e.0 f.0) as (λ r. R e.0 f.0 ≡ r → T (is_sorted R (by_order r (e ∷ merged R join es (f ∷ fs)) ((e.0, join e.1 f.1) ∷ merged R join es fs) (f ∷ merge_step R join e es (merged R join es) fs)))) [
          | Less ↦ λ p. both _ _ (below_merged e.0 es (f ∷ fs) (first _ _ h) (below_other e.0 f fs p g)) (on (f ∷ fs) g)
          | Equal ↦ λ p. both _ _ (below_merged e.0 es fs (first _ _ h) (below_tied e.0 f.0 fs p (first _ _ g))) (on fs (second _ _ g))
          | Greater ↦ λ p. both _ _ (below_merged f.0 (e ∷ es) fs (below_other f.0 e es (turned o e.0 f.0 p) h) (first _ _ g)) (sorted_merge_step e es h on fs (second _ _ g))
        ] refl

    pub sorted_merged : (es fs : List (K × V)) → T (is_sorted R es) → T (is_sorted R fs) → T (is_sorted R (merged R join es fs))
    sorted_merged [] fs h g = g
    sorted_merged (e ∷ es) fs h g = sorted_merge_step e es h (λ gs i. sorted_merged es gs (second _ _ h) i) fs g

    -- what is found before the rest: at a key that ties with x, x's value
    found_less : (q : K) (e : K × V) (es : List (K × V)) (rest : Option V) (other : Option V) → (eq_by_cmp R q e.0 ≡ true → other ≡ None) → rest ≡ join_found join (find R q es) other → cond (eq_by_cmp R q e.0) (Some e.1) rest ≡ join_found join (cond (eq_by_cmp R q e.0) (Some e.1) (find R q es)) other
    found_less q e es rest other none is =
        elim (eq_by_cmp R q e.0) as (λ b. (b ≡ true → other ≡ None) → cond b (Some e.1) rest ≡ join_found join (cond b (Some e.1) (find R q es)) other) [
          | true ↦ λ n. ap (join_found join (Some e.1)) (sym (n refl))
          | false ↦ λ n. is
        ] none

    found_greater : (q : K) (f : K × V) (fs : List (K × V)) (rest : Option V) (mine : Option V) → (eq_by_cmp R q f.0 ≡ true → mine ≡ None) → rest ≡ join_found join mine (find R q fs) → cond (eq_by_cmp R q f.0) (Some f.1) rest ≡ join_found join mine (cond (eq_by_cmp R q f.0) (Some f.1) (find R q fs))
    found_greater q f fs rest mine none is =
        elim (eq_by_cmp R q f.0) as (λ b. (b ≡ true → mine ≡ None) → cond b (Some f.1) rest ≡ join_found join mine (cond b (Some f.1) (find R q fs))) [
          | true ↦ λ n. ap (λ m. join_found join m (Some f.1)) (sym (n refl))
          | false ↦ λ n. is
        ] none

    found_equal : (q : K) (e f : K × V) (es fs : List (K × V)) (rest : Option V) → R e.0 f.0 ≡ Equal → rest ≡ join_found join (find R q es) (find R q fs) → cond (eq_by_cmp R q e.0) (Some (join e.1 f.1)) rest ≡ join_found join (find R q (e ∷ es)) (find R q (f ∷ fs))
    found_equal q e f es fs rest p is =
        subst (λ r. cond (eq_by_cmp R q e.0) (Some (join e.1 f.1)) rest ≡ join_found join (find R q (e ∷ es)) (cond (is_eq r) (Some f.1) (find R q fs))) (alike_right o e.0 f.0 q p)
        (elim (eq_by_cmp R q e.0) as (λ b. cond b (Some (join e.1 f.1)) rest ≡ join_found join (cond b (Some e.1) (find R q es)) (cond b (Some f.1) (find R q fs))) [ true ↦ refl | false ↦ is ])

    find_merge_step : (q : K) (e : K × V) (es : List (K × V)) → T (is_sorted R (e ∷ es)) → ((fs : List (K × V)) → T (is_sorted R fs) → find R q (merged R join es fs) ≡ join_found join (find R q es) (find R q fs)) → (fs : List (K × V)) → T (is_sorted R fs) → find R q (merge_step R join e es (merged R join es) fs) ≡ join_found join (find R q (e ∷ es)) (find R q fs)
    find_merge_step q e es h on [] g = join_found_none join _
    find_merge_step q e es h on (f ∷ fs) g =
        elim (R e.0 f.0) as (λ r. R e.0 f.0 ≡ r → find R q (by_order r (e ∷ merged R join es (f ∷ fs)) ((e.0, join e.1 f.1) ∷ merged R join es fs) (f ∷ merge_step R join e es (merged R join es) fs)) ≡ join_found join (find R q (e ∷ es)) (find R q (f ∷ fs))) [
          | Less ↦ λ p. found_less q e es _ _ (λ t. find_tied_below q e.0 (f ∷ fs) t (below_other e.0 f fs p g)) (on (f ∷ fs) g)
          | Equal ↦ λ p. found_equal q e f es fs _ p (on fs (second _ _ g))
          | Greater ↦ λ p. found_greater q f fs _ _ (λ t. find_tied_below q f.0 (e ∷ es) t (below_other f.0 e es (turned o e.0 f.0 p) h)) (find_merge_step q e es h on fs (second _ _ g))
        ] refl

    -- at each key the join of what both have
    pub find_merged : (q : K) (es fs : List (K × V)) → T (is_sorted R es) → T (is_sorted R fs) → find R q (merged R join es fs) ≡ join_found join (find R q es) (find R q fs)
    find_merged q [] fs h g = refl
    find_merged q (e ∷ es) fs h g = find_merge_step q e es h (λ gs i. find_merged q es gs (second _ _ h) i) fs g

module _ {V : Type 0} {is_value : V → Type 0} {bottom : V} {join : V → V → V} (l : JoinLaws is_value bottom join) where
  -- what is not bottom stays so
  pub kept_join : (x y : V) → IsKept is_value bottom x → is_value y → IsKept is_value bottom (join x y)
  kept_join x y k h = (
    l.closed x y k.0 h,
    λ is.
        let e : x ≡ bottom = sym (l.neutral x k.0) ∙ ap (join x) (sym is) ∙ sym (l.assoc x x y k.0 k.0 h) ∙ ap (λ z. join z y) (l.idem x k.0) ∙ is in
        k.1 e,
  )

  module _ {K : Type 0} (R : K → K → Ordering) where
    kept_merge_step : (e : K × V) (es : List (K × V)) → AllByRecursion (λ e. IsKept is_value bottom e.1) (e ∷ es) → ((fs : List (K × V)) → AllByRecursion (λ e. IsKept is_value bottom e.1) fs → AllByRecursion (λ e. IsKept is_value bottom e.1) (merged R join es fs)) → (fs : List (K × V)) → AllByRecursion (λ e. IsKept is_value bottom e.1) fs → AllByRecursion (λ e. IsKept is_value bottom e.1) (merge_step R join e es (merged R join es) fs)
    kept_merge_step e es h on [] g = h
    kept_merge_step e es h on (f ∷ fs) g =
        elim (R e.0 f.0) as (λ r. AllByRecursion (λ e. IsKept is_value bottom e.1) (by_order r (e ∷ merged R join es (f ∷ fs)) ((e.0, join e.1 f.1) ∷ merged R join es fs) (f ∷ merge_step R join e es (merged R join es) fs))) [
          | Less ↦ (h.0, on (f ∷ fs) g)
          | Equal ↦ (kept_join e.1 f.1 h.0 g.0.0, on fs g.1)
          | Greater ↦ (g.0, kept_merge_step e es h on fs g.1)
        ]

    pub kept_merged : (es fs : List (K × V)) → AllByRecursion (λ e. IsKept is_value bottom e.1) es → AllByRecursion (λ e. IsKept is_value bottom e.1) fs → AllByRecursion (λ e. IsKept is_value bottom e.1) (merged R join es fs)
    kept_merged [] fs h g = g
    kept_merged (e ∷ es) fs h g = kept_merge_step e es h (λ gs i. kept_merged es gs h.1 i) fs g

-- what holds of a value that was found
abbrev pub Found : {V : Type 0} → (V → Type 0) → Option V → Type 0
Found P None = Unit {0}
Found P (Some x) = P x

module _ {V : Type 0} {is_value : V → Type 0} {bottom : V} {join : V → V → V} (l : JoinLaws is_value bottom join) where
  found_assoc : (x y z : Option V) → Found is_value x → Found is_value y → Found is_value z → join_found join (join_found join x y) z ≡ join_found join x (join_found join y z)
  found_assoc None y z a b c = refl
  found_assoc (Some x) None z a b c = refl
  found_assoc (Some x) (Some y) None a b c = refl
  found_assoc (Some x) (Some y) (Some z) a b c = ap Some (l.assoc x y z a b c)

  found_comm : (x y : Option V) → Found is_value x → Found is_value y → join_found join x y ≡ join_found join y x
  found_comm None None a b = refl
  found_comm None (Some y) a b = refl
  found_comm (Some x) None a b = refl
  found_comm (Some x) (Some y) a b = ap Some (l.comm x y a b)

  found_idem : (x : Option V) → Found is_value x → join_found join x x ≡ x
  found_idem None a = refl
  found_idem (Some x) a = ap Some (l.idem x a)

module _ {K V : Type 0} (R : K → K → Ordering) (P : V → Type 0) where
  pub find_All : (q : K) (es : List (K × V)) → AllByRecursion (λ e. P e.1) es → Found P (find R q es)
  find_All q [] h = tt
  find_All q (e ∷ es) h = elim (eq_by_cmp R q e.0) as (λ b. Found P (cond b (Some e.1) (find R q es))) [ true ↦ h.0 | false ↦ find_All q es h.1 ]

pub values_of_kept : {K V : Type 0} (is_value : V → Type 0) (bottom : V) (es : List (K × V)) → AllByRecursion (λ e. IsKept is_value bottom e.1) es → AllByRecursion (λ e. is_value e.1) es
values_of_kept is_value bottom [] h = tt
values_of_kept is_value bottom (e ∷ es) h = (h.0.0, values_of_kept is_value bottom es h.1)

module _ {K V : Type 0} {R : K → K → Ordering} (o : IsTotalOrder R) (exact : CmpEqualImpliesEq R) {is_value : V → Type 0} {bottom : V} {join : V → V → V} (l : JoinLaws is_value bottom join) where
  found_value : (q : K) (es : List (K × V)) → IsMap R is_value bottom es → Found is_value (find R q es)
  found_value q es m = find_All R is_value q es (values_of_kept is_value bottom es m.kept)

  -- maps with the same value at each key are equal
  pub same_map : (es fs : List (K × V)) → IsMap R is_value bottom es → IsMap R is_value bottom fs → ((q : K) → find R q es ≡ find R q fs) → es ≡ fs
  same_map es fs m n is = same_entries R o exact es fs m.sorted n.sorted is

  pub merged_is : (es fs : List (K × V)) → IsMap R is_value bottom es → IsMap R is_value bottom fs → IsMap R is_value bottom (merged R join es fs)
  merged_is es fs m n = record { sorted = sorted_merged o join es fs m.sorted n.sorted; kept = kept_merged l R es fs m.kept n.kept }

  find_of : (q : K) (es fs : List (K × V)) → IsMap R is_value bottom es → IsMap R is_value bottom fs → find R q (merged R join es fs) ≡ join_found join (find R q es) (find R q fs)
  find_of q es fs m n = find_merged o join q es fs m.sorted n.sorted

  merged_assoc : (x y z : List (K × V)) → IsMap R is_value bottom x → IsMap R is_value bottom y → IsMap R is_value bottom z → merged R join (merged R join x y) z ≡ merged R join x (merged R join y z)
  merged_assoc x y z a b c = same_map _ _ (merged_is _ z (merged_is x y a b) c) (merged_is x _ a (merged_is y z b c)) (λ q.
      find_of q _ z (merged_is x y a b) c ∙ ap (λ f. join_found join f (find R q z)) (find_of q x y a b)
      ∙ found_assoc l _ _ _ (found_value q x a) (found_value q y b) (found_value q z c)
      ∙ sym (find_of q x _ a (merged_is y z b c) ∙ ap (join_found join (find R q x)) (find_of q y z b c)))

  merged_comm : (x y : List (K × V)) → IsMap R is_value bottom x → IsMap R is_value bottom y → merged R join x y ≡ merged R join y x
  merged_comm x y a b = same_map _ _ (merged_is x y a b) (merged_is y x b a) (λ q.
      find_of q x y a b ∙ found_comm l _ _ (found_value q x a) (found_value q y b) ∙ sym (find_of q y x b a))

  merged_idem : (x : List (K × V)) → IsMap R is_value bottom x → merged R join x x ≡ x
  merged_idem x a = same_map _ _ (merged_is x x a a) a (λ q. find_of q x x a a ∙ found_idem l _ (found_value q x a))

  empty_is : IsMap R is_value bottom []
  empty_is = record { sorted = tt; kept = tt }

  merged_neutral : (x : List (K × V)) → merged R join x [] ≡ x
  merged_neutral [] = refl
  merged_neutral (e ∷ es) = refl

  pub map_laws : JoinLaws (IsMap R is_value bottom) [] (merged R join)
  map_laws = record {
    bottom_is = empty_is;
    closed = merged_is;
    assoc = merged_assoc;
    comm = merged_comm;
    idem = merged_idem;
    neutral = λ x a. merged_neutral x;
  }
