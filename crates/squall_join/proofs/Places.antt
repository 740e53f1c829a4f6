-- What a search finds among sorted entries, and what an edit at that place does.
use Rattle.std.proofs.Common.{◌≡◌, ℕ, zero, suc, ◌+◌, ◌<◌, ◌≤◌, true, false, cond, T, List, [], ◌∷◌, ◌++◌, length, get_or, set, take, drop, None, Some, Result, Ok, Err, refl, sym, ap, subst, ◌∙◌, arith, inl, inr, ◌⊎◌, ◌≢◌, OnOk, OnErr, append-nil, append_assoc, ◌-◌, length-drop}
use Rattle.std.specs.declared.cmp.Ordering.{Ordering}
use Rattle.std.specs.declared.cmp.Ordering.TheVariants.{Less, Equal, Greater}
use Rattle.std.specs.Ordering.{is_eq, ordering_reverse, eq_by_cmp}
use Rattle.std.specs.List.{insert}
use Rattle.std.specs.Cmp.{IsTotalOrder}
use Rattle.std.specs.FinMap.Entries.{by_order, is_sorted, below_all, find}
use Rattle.std.proofs.lemmas.Bool.{cases_lt}
use Rattle.std.proofs.lemmas.Cmp.{tied_back, tied_itself}
use Rattle.std.proofs.lemmas.List.{set-get_or, get_or_default, drop_all, take_all}
use Rattle.std.proofs.lemmas.Option.{same_Some}
use Rattle.std.proofs.lemmas.Map.Lookups.{CmpEqualImpliesEq}
use Rattle.squall_join.specs.Laws.{JoinLaws}
use Rattle.squall_join.specs.Entries.{join_found, merge_step, merged, IsMap, IsAt, IsGap, CoversEntry}
use Rattle.squall_join.specs.MapLaws.{first, second, less, equal, join_found_none, find_merged, same_map, merged_is}

take_rest : {X : Type 0} (xs : List X) (i : ℕ) → take (length xs - i) (drop i xs) ≡ drop i xs
take_rest xs i = take_all _ (drop i xs) (omega (arith, length-drop i xs))

-- a fact of each element, and of one more
pub elements_more : {X : Type 0} (P : X → Type 0) (xs : List X) (i : ℕ) (x : X) → i < length xs → x ≡ get_or xs i x → ((k : ℕ) (d : X) → k < i → P (get_or xs k d)) → P x → (k : ℕ) (d : X) → k < i + 1 → P (get_or xs k d)
elements_more P xs i x within is before here k d lt =
    elim (cases_lt k i) [
      | inl below ↦ before k d below
      | inr at_least ↦ let same : k ≡ i = omega arith in subst P (is ∙ get_or_default xs i x d within ∙ ap (λ j. get_or xs j d) (sym same)) here
    ]

pub not_None : {A : Type 0} (x : A) → Some x ≢ None
not_None x e = cc

module _ {K V : Type 0} {R : K → K → Ordering} (o : IsTotalOrder R) where
  below_at : (x : K) (es : List (K × V)) → T (below_all R x es) → (j : ℕ) (d : K × V) → j < length es → R x (get_or es j d).0 ≡ Less
  below_at x [] h j d lt = absurd (omega arith)
  below_at x (e ∷ es) h zero d lt = less _ (first _ _ h)
  below_at x (e ∷ es) h (suc j) d lt = below_at x es (second _ _ h) j d (omega arith)

  pub sorted_at : (es : List (K × V)) → T (is_sorted R es) → (i j : ℕ) (d : K × V) → i < j → j < length es → R (get_or es i d).0 (get_or es j d).0 ≡ Less
  sorted_at [] h i j d lt in_range = absurd (omega arith)
  sorted_at (e ∷ es) h i zero d lt in_range = absurd (omega arith)
  sorted_at (e ∷ es) h zero (suc j) d lt in_range = below_at e.0 es (first _ _ h) j d (omega arith)
  sorted_at (e ∷ es) h (suc i) (suc j) d lt in_range = sorted_at es (second _ _ h) i j d (omega arith) (omega arith)

  -- past a smaller key
  pub find_past : (k : K) (e : K × V) (es : List (K × V)) → R e.0 k ≡ Less → find R k (e ∷ es) ≡ find R k es
  find_past k e es p = ap (λ r. cond (is_eq r) (Some e.1) (find R k es)) (o.antisymm k e.0 ∙ ap ordering_reverse p)

  at_tail : (k : K) (e : K × V) (es : List (K × V)) (i : ℕ) → IsAt R (e ∷ es) k (suc i) → IsAt R es k i
  at_tail k e es i h = record {
    in_range = omega (arith, h.in_range);
    has_key = λ d. h.has_key d;
    less_before = λ j d lt. h.less_before (suc j) d (omega arith);
  }

  gap_tail : (k : K) (e : K × V) (es : List (K × V)) (i : ℕ) → IsGap R (e ∷ es) k (suc i) → IsGap R es k i
  gap_tail k e es i h = record {
    in_range = omega (arith, h.in_range);
    less_before = λ j d lt. h.less_before (suc j) d (omega arith);
    greater_from = λ j d le lt. h.greater_from (suc j) d (omega arith) (omega arith);
  }

  pub find_at : (es : List (K × V)) (k : K) (i : ℕ) (d : K × V) → IsAt R es k i → find R k es ≡ Some (get_or es i d).1
  find_at [] k i d h = absurd (omega (arith, h.in_range))
  find_at (e ∷ es) k zero d h = ap (λ r. cond (is_eq r) (Some e.1) (find R k es)) (tied_back o e.0 k (h.has_key d))
  find_at (e ∷ es) k (suc i) d h = find_past k e es (h.less_before 0 d (omega arith)) ∙ find_at es k i d (at_tail k e es i h)

  pub find_gap : (es : List (K × V)) (k : K) (i : ℕ) → IsGap R es k i → find R k es ≡ None
  find_gap [] k i h = refl
  find_gap (e ∷ es) k zero h =
      ap (λ r. cond (is_eq r) (Some e.1) (find R k es)) (o.antisymm k e.0 ∙ ap ordering_reverse (h.greater_from 0 e (omega arith) (omega arith)))
      ∙ find_gap es k zero (record { in_range = omega arith; less_before = λ j d lt. absurd (omega arith); greater_from = λ j d le lt. h.greater_from (suc j) d (omega arith) (omega arith) })
  find_gap (e ∷ es) k (suc i) h = find_past k e es (h.less_before 0 e (omega arith)) ∙ find_gap es k i (gap_tail k e es i h)

  module _ (join : V → V → V) where
    merged_less : (e f : K × V) (es fs : List (K × V)) → R e.0 f.0 ≡ Less → merged R join (e ∷ es) (f ∷ fs) ≡ e ∷ merged R join es (f ∷ fs)
    merged_less e f es fs p = ap (λ r. by_order r (e ∷ merged R join es (f ∷ fs)) ((e.0, join e.1 f.1) ∷ merged R join es fs) (f ∷ merge_step R join e es (merged R join es) fs)) p

    merged_equal : (e f : K × V) (es fs : List (K × V)) → R e.0 f.0 ≡ Equal → merged R join (e ∷ es) (f ∷ fs) ≡ (e.0, join e.1 f.1) ∷ merged R join es fs
    merged_equal e f es fs p = ap (λ r. by_order r (e ∷ merged R join es (f ∷ fs)) ((e.0, join e.1 f.1) ∷ merged R join es fs) (f ∷ merge_step R join e es (merged R join es) fs)) p

    merged_greater : (e f : K × V) (es fs : List (K × V)) → R e.0 f.0 ≡ Greater → merged R join (e ∷ es) (f ∷ fs) ≡ f ∷ merged R join (e ∷ es) fs
    merged_greater e f es fs p = ap (λ r. by_order r (e ∷ merged R join es (f ∷ fs)) ((e.0, join e.1 f.1) ∷ merged R join es fs) (f ∷ merge_step R join e es (merged R join es) fs)) p

    pub merged_none : (es : List (K × V)) → merged R join es [] ≡ es
    merged_none [] = refl
    merged_none (e ∷ es) = refl

    -- one entry whose key is there is joined in its place
    pub merged_at : (es : List (K × V)) (k : K) (w : V) (i : ℕ) (d : K × V) → IsAt R es k i → merged R join es ((k, w) ∷ []) ≡ set es i ((get_or es i d).0, join (get_or es i d).1 w)
    merged_at [] k w i d h = absurd (omega (arith, h.in_range))
    merged_at (e ∷ es) k w zero d h = merged_equal e (k, w) es [] (h.has_key d) ∙ ap (λ l. (e.0, join e.1 w) ∷ l) (merged_none es)
    merged_at (e ∷ es) k w (suc i) d h = merged_less e (k, w) es [] (h.less_before 0 d (omega arith)) ∙ ap (λ l. e ∷ l) (merged_at es k w i d (at_tail k e es i h))

    -- one entry whose key is not there goes into the gap
    pub merged_gap : (es : List (K × V)) (k : K) (w : V) (i : ℕ) → IsGap R es k i → merged R join es ((k, w) ∷ []) ≡ insert es i (k, w)
    merged_gap [] k w zero h = refl
    merged_gap [] k w (suc i) h = absurd (omega (arith, h.in_range))
    merged_gap (e ∷ es) k w zero h = merged_greater e (k, w) es [] (h.greater_from 0 e (omega arith) (omega arith))
    merged_gap (e ∷ es) k w (suc i) h = merged_less e (k, w) es [] (h.less_before 0 e (omega arith)) ∙ ap (λ l. e ∷ l) (merged_gap es k w i (gap_tail k e es i h))

    -- if one list is used up, the other is left
    pub merged_rest : (es fs : List (K × V)) (i j : ℕ) → (length es ≤ i) ⊎ (length fs ≤ j) → merged R join (drop i es) (drop j fs) ≡ drop i es ++ drop j fs
    merged_rest es fs i j (inl h) = rw (drop_all i es h) refl
    merged_rest es fs i j (inr h) = rw (drop_all j fs h) (merged_none (drop i es) ∙ sym (append-nil (drop i es)))

    -- the end of a merge
    pub merge_done : (out out1 out2 es fs : List (K × V)) (i j : ℕ) → (length es ≤ i) ⊎ (length fs ≤ j) → out ++ merged R join (drop i es) (drop j fs) ≡ merged R join es fs → out1 ≡ out ++ take (length es - i) (drop i es) → out2 ≡ out1 ++ take (length fs - j) (drop j fs) → out2 ≡ merged R join es fs
    merge_done out out1 out2 es fs i j used so_far first second =
        second ∙ ap (λ l. out1 ++ l) (take_rest fs j) ∙ ap (λ l. l ++ drop j fs) (first ∙ ap (λ l. out ++ l) (take_rest es i)) ∙ append_assoc out (drop i es) (drop j fs) ∙ ap (λ l. out ++ l) (sym (merged_rest es fs i j used)) ∙ so_far

-- an edit of the value at one key
pub record EditsAt {K V E : Type 0} (R : K → K → Ordering) (is_value : V → Type 0) (bottom : V) (join : V → V → V) (old new : List (K × V)) (k : K) (w : V) (r : Result (Unit {0}) E) : Type 0 where
  pub whole : IsMap R is_value bottom new
  pub ok : OnOk r (new ≡ merged R join old ((k, w) ∷ []))
  pub err : OnErr r (new ≡ old)

module _ {K V : Type 0} {R : K → K → Ordering} (o : IsTotalOrder R) (exact : CmpEqualImpliesEq R) {is_value : V → Type 0} {bottom : V} {join : V → V → V} (l : JoinLaws is_value bottom join) where
  pub single_is : (k : K) (w : V) → is_value w → w ≢ bottom → IsMap R is_value bottom ((k, w) ∷ [])
  single_is k w v n = record { sorted = tt; kept = ((v, n), tt) }

  pub merged_single_is : (es : List (K × V)) → IsMap R is_value bottom es → (k : K) (w : V) → is_value w → w ≢ bottom → IsMap R is_value bottom (merged R join es ((k, w) ∷ []))
  merged_single_is es m k w v n = merged_is o exact l es _ m (single_is k w v n)

  pub in_place : {E : Type 0} (es : List (K × V)) → IsMap R is_value bottom es → (k : K) (w : V) → is_value w → w ≢ bottom → (i : ℕ) → IsAt R es k i → (x : K × V) → x ≡ get_or es i x → (v : V) (r : Result (Unit {0}) E) → OnOk r (v ≡ join x.1 w) → OnErr r (v ≡ x.1) → EditsAt R is_value bottom join es (set es i (x.0, v)) k w r
  in_place es m k w h n i at x is v (Ok u) ok err =
      let e : merged R join es ((k, w) ∷ []) ≡ set es i (x.0, v) = merged_at o join es k w i x at ∙ ap (λ (y : K × V). set es i (y.0, join y.1 w)) (sym is) ∙ ap (λ z. set es i (x.0, z)) (sym ok) in
      record { whole = subst (IsMap R is_value bottom) e (merged_single_is es m k w h n); ok = sym e; err = tt }
  in_place es m k w h n i at x is v (Err u) ok err =
      let e : es ≡ set es i (x.0, v) = sym (set-get_or es i x) ∙ ap (set es i) (sym is) ∙ ap (λ z. set es i (x.0, z)) (sym err) in
      record { whole = subst (IsMap R is_value bottom) e m; ok = tt; err = sym e }

  pub in_gap : {E : Type 0} (es : List (K × V)) → IsMap R is_value bottom es → (k : K) (w : V) → is_value w → w ≢ bottom → (i : ℕ) → IsGap R es k i → (new : List (K × V)) (v : V) → v ≡ w → (r : Result (Unit {0}) E) → OnOk r (new ≡ insert es i (k, v)) → OnErr r (new ≡ es) → EditsAt R is_value bottom join es new k w r
  in_gap es m k w h n i gap new v same (Ok u) ok err =
      let e : merged R join es ((k, w) ∷ []) ≡ new = merged_gap o join es k w i gap ∙ ap (λ z. insert es i (k, z)) (sym same) ∙ sym ok in
      record { whole = subst (IsMap R is_value bottom) e (merged_single_is es m k w h n); ok = sym e; err = tt }
  in_gap es m k w h n i gap new v same (Err u) ok err = record { whole = subst (IsMap R is_value bottom) (sym err) m; ok = tt; err = err }

  covered : (a b : List (K × V)) → ((k : ℕ) (d : K × V) → k < length b → CoversEntry R join a (get_or b k d)) → (q : K) → join_found join (find R q a) (find R q b) ≡ find R q a
  covered a [] h q = sym (join_found_none join _)
  covered a (e ∷ b) h q =
      elim (eq_by_cmp R q e.0) as (λ t. eq_by_cmp R q e.0 ≡ t → join_found join (find R q a) (cond t (Some e.1) (find R q b)) ≡ find R q a) [
        | true ↦ λ t. subst (λ k. join_found join (find R k a) (Some e.1) ≡ find R k a) (sym (exact q e.0 (equal _ t))) (h 0 e (omega arith))
        | false ↦ λ t. covered a b (λ k d lt. h (suc k) d (omega arith)) q
      ] refl

  -- a map covers another if it covers each entry
  pub covers_from_entries : (a b : List (K × V)) → IsMap R is_value bottom a → IsMap R is_value bottom b → ((k : ℕ) (d : K × V) → k < length b → CoversEntry R join a (get_or b k d)) → merged R join a b ≡ a
  covers_from_entries a b m n h = same_map o exact l _ _ (merged_is o exact l a b m n) m (λ q. find_merged o join q a b m.sorted n.sorted ∙ covered a b h q)

  pub entry_from_covers : (a b : List (K × V)) → IsMap R is_value bottom a → IsMap R is_value bottom b → merged R join a b ≡ a → (k : ℕ) (d : K × V) → k < length b → CoversEntry R join a (get_or b k d)
  entry_from_covers a b m n h k d lt =
      let e = get_or b k d in
      let at : IsAt R b e.0 k = record { in_range = lt; has_key = λ f. rw (get_or_default b k f d lt) (tied_itself o e.0); less_before = λ j f less. rw (get_or_default b k d f lt) (sorted_at o b n.sorted j k f less lt) } in
      ap (join_found join (find R e.0 a)) (sym (find_at o b e.0 k d at)) ∙ sym (find_merged o join e.0 a b m.sorted n.sorted) ∙ ap (find R e.0) h

  -- at one entry, from what a look-up and a test of its value say
  pub not_found_not_covered : (a b : List (K × V)) → IsMap R is_value bottom a → IsMap R is_value bottom b → (k : ℕ) (x : K × V) → k < length b → x ≡ get_or b k x → None ≡ find R x.0 a → merged R join a b ≡ a → ⊥
  not_found_not_covered a b m n k x lt is none h =
      let e : CoversEntry R join a x = subst (CoversEntry R join a) (sym is) (entry_from_covers a b m n h k x lt) in
      not_None x.1 (ap (λ f. join_found join f (Some x.1)) none ∙ e ∙ sym none)

  pub not_below_not_covered : (a b : List (K × V)) → IsMap R is_value bottom a → IsMap R is_value bottom b → (k : ℕ) (x : K × V) (v : V) → k < length b → x ≡ get_or b k x → Some v ≡ find R x.0 a → (join v x.1 ≡ v → ⊥) → merged R join a b ≡ a → ⊥
  not_below_not_covered a b m n k x v lt is some not h =
      let e : CoversEntry R join a x = subst (CoversEntry R join a) (sym is) (entry_from_covers a b m n h k x lt) in
      not (same_Some _ _ (ap (λ f. join_found join f (Some x.1)) some ∙ e ∙ sym some))

  pub covers_entry : (a : List (K × V)) (x : K × V) (v : V) → Some v ≡ find R x.0 a → join v x.1 ≡ v → CoversEntry R join a x
  covers_entry a x v some is = ap (λ f. join_found join f (Some x.1)) (sym some) ∙ ap Some is ∙ some
