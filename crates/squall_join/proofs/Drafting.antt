-- The steps of a join of a map that is drafted.
use Rattle.std.proofs.Common.{◌≡◌, ℕ, zero, suc, ◌+◌, ◌<◌, ◌≤◌, Bool, true, false, cond, T, List, [], ◌∷◌, ◌++◌, length, get_or, set, take, Option, None, Some, Result, Ok, Err, OnOk, OnErr, refl, sym, ap, subst, ◌∙◌, arith, append-nil}
use Rattle.std.specs.declared.cmp.Ordering.{Ordering}
use Rattle.std.specs.declared.cmp.Ordering.TheVariants.{Less}
use Rattle.std.specs.Ordering.{eq_by_cmp, is_lt}
use Rattle.std.specs.List.{AllByRecursion, insert}
use Rattle.std.specs.Cmp.{IsTotalOrder}
use Rattle.std.specs.FinMap.Entries.{is_sorted, below_all, find, same_entries}
use Rattle.std.proofs.lemmas.List.{take_more, take_all, length-set}
use Rattle.std.proofs.lemmas.Map.Lookups.{CmpEqualImpliesEq}
use Rattle.squall_join.specs.declared.draft.Part.{Part}
use Rattle.squall_join.specs.declared.draft.Part.TheVariants.{Joined, Fresh}
use Rattle.squall_join.specs.Laws.{JoinLaws}
use Rattle.squall_join.specs.Entries.{join_found, merged, IsMap, IsAt, IsGap}
use Rattle.squall_join.specs.MapLaws.{both, first, second, less, equal, find_merged, sorted_merged, merged_is}
use Rattle.squall_join.specs.Drafts.{later, IsFound, missing, fresh_of, fresh_count, IsThere, IsValid, value_after, entry_before, befores, afters, IsEmptied, IsTaken, IsCopied, IsPartOf, IsDrafted, undone, kept}
use Rattle.squall_join.proofs.Places.{find_at, find_gap, find_past, merged_at, merged_gap, merged_none, not_None}
use Rattle.squall_join.proofs.Remains.{IsBelow}

-- the first of two that were found
abbrev or_found : {V : Type 0} → Option V → Option V → Option V
or_found None y = y
or_found (Some x) y = Some x

-- the list with one more part
module _ {K V A : Type 0} (before after : A → V) where
  befores_push : (ps : List (K × Part V A)) (k : K) (p : Part V A) → befores before (ps ++ (k, p) ∷ []) ≡ befores before ps ++ entry_before before k p []
  befores_push [] k p = refl
  befores_push ((j, Joined d) ∷ ps) k p = ap (λ l. (j, before d) ∷ l) (befores_push ps k p)
  befores_push ((j, Fresh v) ∷ ps) k p = befores_push ps k p

  afters_push : (ps : List (K × Part V A)) (k : K) (p : Part V A) → afters after (ps ++ (k, p) ∷ []) ≡ afters after ps ++ (k, value_after after p) ∷ []
  afters_push [] k p = refl
  afters_push (q ∷ ps) k p = ap (λ l. (q.0, value_after after q.1) ∷ l) (afters_push ps k p)

fresh_push : {K V A : Type 0} (ps : List (K × Part V A)) (p : K × Part V A) → fresh_count (ps ++ p ∷ []) ≡ fresh_count ps + fresh_of p.1
fresh_push [] p = omega arith
fresh_push (q ∷ ps) p = let on = fresh_push ps p in omega (arith, on)

pub fresh_more : {K V A : Type 0} (ps : List (K × Part V A)) (i : ℕ) (x : K × Part V A) → i < length ps → x ≡ get_or ps i x → fresh_count (take (i + 1) ps) ≡ fresh_count (take i ps) + fresh_of x.1
fresh_more ps i x lt is = ap fresh_count (take_more ps i x lt ∙ ap (λ y. take i ps ++ y ∷ []) (sym is)) ∙ fresh_push (take i ps) x

pub fresh_at_most : {V A : Type 0} (p : Part V A) → fresh_of p ≤ 1
fresh_at_most (Joined r) = omega arith
fresh_at_most (Fresh v) = omega arith

pub fresh_left : {K V A : Type 0} (ps qs : List (K × Part V A)) (p : K × Part V A) → ps ≡ qs ++ p ∷ [] → fresh_count ps ≡ fresh_count qs + fresh_of p.1
fresh_left ps qs p popped = ap fresh_count popped ∙ fresh_push qs p

all_push : {X : Type 0} (P : X → Type 0) (xs : List X) (x : X) → AllByRecursion P xs → P x → AllByRecursion P (xs ++ x ∷ [])
all_push P [] x h is = (is, tt)
all_push P (y ∷ xs) x h is = (h.0, all_push P xs x h.1 is)

all_front : {X : Type 0} (P : X → Type 0) (xs : List X) (x : X) → AllByRecursion P (xs ++ x ∷ []) → AllByRecursion P xs
all_front P [] x h = tt
all_front P (y ∷ xs) x h = (h.0, all_front P xs x h.1)

all_last : {X : Type 0} (P : X → Type 0) (xs : List X) (x : X) → AllByRecursion P (xs ++ x ∷ []) → P x
all_last P [] x h = h.0
all_last P (y ∷ xs) x h = all_last P xs x h.1

all_change : {X : Type 0} (P Q : X → Type 0) → ((x : X) → P x → Q x) → (xs : List X) → AllByRecursion P xs → AllByRecursion Q xs
all_change P Q on [] h = tt
all_change P Q on (x ∷ xs) h = (on x h.0, all_change P Q on xs h.1)

-- the keys of the parts are those of the entries
abbrev pub SameKeys : {K V A : Type 0} → List (K × Part V A) → List (K × V) → Type 0
SameKeys [] [] = Unit {0}
SameKeys [] (f ∷ fs) = ⊥
SameKeys (p ∷ ps) [] = ⊥
SameKeys (p ∷ ps) (f ∷ fs) = (p.0 ≡ f.0) × SameKeys ps fs

keys_push : {K V A : Type 0} (ps : List (K × Part V A)) (fs : List (K × V)) (p : K × Part V A) (f : K × V) → SameKeys ps fs → p.0 ≡ f.0 → SameKeys (ps ++ p ∷ []) (fs ++ f ∷ [])
keys_push [] [] p f h is = (is, tt)
keys_push [] (g ∷ fs) p f h is = absurd h
keys_push (q ∷ ps) [] p f h is = absurd h
keys_push (q ∷ ps) (g ∷ fs) p f h is = (h.0, keys_push ps fs p f h.1 is)

-- orders of a part of a list
module _ {K V : Type 0} {R : K → K → Ordering} (o : IsTotalOrder R) where
  below_front : (x : K) (es : List (K × V)) (f : K × V) → T (below_all R x (es ++ f ∷ [])) → T (below_all R x es)
  below_front x [] f h = tt
  below_front x (e ∷ es) f h = both _ _ (first _ _ h) (below_front x es f (second _ _ h))

  below_last : (x : K) (es : List (K × V)) (f : K × V) → T (below_all R x (es ++ f ∷ [])) → R x f.0 ≡ Less
  below_last x [] f h = less _ (first _ _ h)
  below_last x (e ∷ es) f h = below_last x es f (second _ _ h)

  sorted_front : (es : List (K × V)) (f : K × V) → T (is_sorted R (es ++ f ∷ [])) → T (is_sorted R es)
  sorted_front [] f h = tt
  sorted_front (e ∷ es) f h = both _ _ (below_front e.0 es f (first _ _ h)) (sorted_front es f (second _ _ h))

  below_take : (x : K) (n : ℕ) (es : List (K × V)) → T (below_all R x es) → T (below_all R x (take n es))
  below_take x zero es h = tt
  below_take x (suc n) [] h = tt
  below_take x (suc n) (e ∷ es) h = both _ _ (first _ _ h) (below_take x n es (second _ _ h))

  sorted_take : (n : ℕ) (es : List (K × V)) → T (is_sorted R es) → T (is_sorted R (take n es))
  sorted_take zero es h = tt
  sorted_take (suc n) [] h = tt
  sorted_take (suc n) (e ∷ es) h = both _ _ (below_take e.0 n es (first _ _ h)) (sorted_take n es (second _ _ h))

  -- a key that comes last is not among those before it
  last_absent_here : (es : List (K × V)) (f : K × V) → T (is_sorted R (es ++ f ∷ [])) → find R f.0 es ≡ None
  last_absent_here [] f h = refl
  last_absent_here (e ∷ es) f h = find_past o f.0 e es (below_last e.0 es f (first _ _ h)) ∙ last_absent_here es f (second _ _ h)

  module _ {A : Type 0} (before after : A → V) where
    below_afters : (x : K) (ps : List (K × Part V A)) (fs : List (K × V)) → SameKeys ps fs → T (below_all R x fs) → T (below_all R x (afters after ps))
    below_afters x [] [] h is = tt
    below_afters x [] (f ∷ fs) h is = absurd h
    below_afters x (p ∷ ps) [] h is = absurd h
    below_afters x (p ∷ ps) (f ∷ fs) h is = both _ _ (subst (λ k. T (is_lt (R x k))) (sym h.0) (first _ _ is)) (below_afters x ps fs h.1 (second _ _ is))

    afters_rise : (ps : List (K × Part V A)) (fs : List (K × V)) → SameKeys ps fs → T (is_sorted R fs) → T (is_sorted R (afters after ps))
    afters_rise [] [] h is = tt
    afters_rise [] (f ∷ fs) h is = absurd h
    afters_rise (p ∷ ps) [] h is = absurd h
    afters_rise (p ∷ ps) (f ∷ fs) h is = both _ _ (subst (λ k. T (below_all R k (afters after ps))) (sym h.0) (below_afters f.0 ps fs h.1 (first _ _ is))) (afters_rise ps fs h.1 (second _ _ is))

    below_befores : (x : K) (ps : List (K × Part V A)) → T (below_all R x (afters after ps)) → T (below_all R x (befores before ps))
    below_befores x [] is = tt
    below_befores x ((k, Joined d) ∷ ps) is = both _ _ (first _ _ is) (below_befores x ps (second _ _ is))
    below_befores x ((k, Fresh v) ∷ ps) is = below_befores x ps (second _ _ is)

    befores_rise : (ps : List (K × Part V A)) → T (is_sorted R (afters after ps)) → T (is_sorted R (befores before ps))
    befores_rise [] is = tt
    befores_rise ((k, Joined d) ∷ ps) is = both _ _ (below_befores k ps (first _ _ is)) (befores_rise ps (second _ _ is))
    befores_rise ((k, Fresh v) ∷ ps) is = befores_rise ps (second _ _ is)

-- what is found in a list with one more entry
module _ {K V : Type 0} (R : K → K → Ordering) where
  find_append : (q : K) (es fs : List (K × V)) → find R q (es ++ fs) ≡ or_found (find R q es) (find R q fs)
  find_append q [] fs = refl
  find_append q (e ∷ es) fs = elim (eq_by_cmp R q e.0) as (λ t. cond t (Some e.1) (find R q (es ++ fs)) ≡ or_found (cond t (Some e.1) (find R q es)) (find R q fs)) [
    | true ↦ refl
    | false ↦ find_append q es fs
  ]

-- what is found at one key, where t says whether it is the last one
module _ {V : Type 0} where
  put_then_found : (x b : Option V) (t : Bool) (v : V) → (t ≡ true → b ≡ None) → join_found later x (or_found b (cond t (Some v) None)) ≡ join_found later (join_found later x (cond t (Some v) None)) b
  put_then_found None None true v none = refl
  put_then_found (Some x) None true v none = refl
  put_then_found x (Some b) true v none = absurd (not_None b (none refl))
  put_then_found None None false v none = refl
  put_then_found (Some x) None false v none = refl
  put_then_found None (Some b) false v none = refl
  put_then_found (Some x) (Some b) false v none = refl

  back_found : (x : Option V) (t : Bool) (b v : V) → (t ≡ true → x ≡ Some v) → join_found later (join_found later x (cond t (Some b) None)) (cond t (Some v) None) ≡ x
  back_found None true b v some = sym (some refl)
  back_found (Some x) true b v some = sym (some refl)
  back_found None false b v some = refl
  back_found (Some x) false b v some = refl

  over_found : (x a : Option V) (t : Bool) (b v : V) → join_found later (join_found later x (cond t (Some b) None)) (or_found a (cond t (Some v) None)) ≡ join_found later x (or_found a (cond t (Some v) None))
  over_found None None true b v = refl
  over_found (Some x) None true b v = refl
  over_found None (Some a) true b v = refl
  over_found (Some x) (Some a) true b v = refl
  over_found None None false b v = refl
  over_found (Some x) None false b v = refl
  over_found None (Some a) false b v = refl
  over_found (Some x) (Some a) false b v = refl

  joined_found : (join : V → V → V) (x a : Option V) (t : Bool) (v w : V) → (t ≡ true → a ≡ None) → (t ≡ true → Some v ≡ join_found join x (Some w)) → join_found later x (or_found a (cond t (Some v) None)) ≡ join_found join (join_found later x a) (cond t (Some w) None)
  joined_found join None None true v w none is = is refl
  joined_found join (Some x) None true v w none is = is refl
  joined_found join x (Some a) true v w none is = absurd (not_None a (none refl))
  joined_found join None None false v w none is = refl
  joined_found join (Some x) None false v w none is = refl
  joined_found join None (Some a) false v w none is = refl
  joined_found join (Some x) (Some a) false v w none is = refl

  more_found : (join : V → V → V) (x f : Option V) (t : Bool) (w : V) → (t ≡ true → f ≡ None) → join_found join (join_found join x f) (cond t (Some w) None) ≡ join_found join x (or_found f (cond t (Some w) None))
  more_found join None None true w none = refl
  more_found join (Some x) None true w none = refl
  more_found join x (Some f) true w none = absurd (not_None f (none refl))
  more_found join None None false w none = refl
  more_found join (Some x) None false w none = refl
  more_found join None (Some f) false w none = refl
  more_found join (Some x) (Some f) false w none = refl

  put_keeps_found : (x y : Option V) → IsFound x → IsFound (join_found later x y)
  put_keeps_found None y h = absurd h
  put_keeps_found (Some x) None h = tt
  put_keeps_found (Some x) (Some y) h = tt

still_there : {V A : Type 0} (x y : Option V) (p : Part V A) → IsThere x p → IsThere (join_found later x y) p
still_there x y (Joined d) h = put_keeps_found x y h
still_there x y (Fresh v) h = tt

-- lists of entries, one of which comes last
module _ {K V : Type 0} {R : K → K → Ordering} (o : IsTotalOrder R) (exact : CmpEqualImpliesEq R) where
  -- at the last key nothing else is found
  last_absent : (es : List (K × V)) (k : K) (v : V) (q : K) → T (is_sorted R (es ++ (k, v) ∷ [])) → eq_by_cmp R q k ≡ true → find R q es ≡ None
  last_absent es k v q h is = ap (λ x. find R x es) (exact q k (equal _ is)) ∙ last_absent_here o es (k, v) h

  one_rises : (k : K) (v : V) → T (is_sorted R ((k, v) ∷ []))
  one_rises k v = tt

  put_rises : (es : List (K × V)) (k : K) (v : V) → T (is_sorted R es) → T (is_sorted R (merged R later es ((k, v) ∷ [])))
  put_rises es k v s = sorted_merged o later es _ s (one_rises k v)

  -- the last entry is put first, and then the others
  pub put_then : (es bs : List (K × V)) (k : K) (v : V) → T (is_sorted R es) → T (is_sorted R (bs ++ (k, v) ∷ [])) → merged R later es (bs ++ (k, v) ∷ []) ≡ merged R later (merged R later es ((k, v) ∷ [])) bs
  put_then es bs k v s t = same_entries R o exact _ _ (sorted_merged o later es _ s t) (sorted_merged o later _ bs (put_rises es k v s) (sorted_front o bs (k, v) t)) (λ q.
      find_merged o later q es _ s t
      ∙ ap (join_found later (find R q es)) (find_append R q bs ((k, v) ∷ []))
      ∙ put_then_found (find R q es) (find R q bs) (eq_by_cmp R q k) v (last_absent bs k v q t)
      ∙ sym (find_merged o later q _ bs (put_rises es k v s) (sorted_front o bs (k, v) t) ∙ ap (λ x. join_found later x (find R q bs)) (find_merged o later q es _ s (one_rises k v))))

  found_tied : (es : List (K × V)) (k q : K) (x : Option V) → find R k es ≡ x → eq_by_cmp R q k ≡ true → find R q es ≡ x
  found_tied es k q x is t = ap (λ y. find R y es) (exact q k (equal _ t)) ∙ is

  -- what was taken out is put back
  put_back : (es : List (K × V)) (k : K) (b v : V) → T (is_sorted R es) → find R k es ≡ Some v → merged R later (merged R later es ((k, b) ∷ [])) ((k, v) ∷ []) ≡ es
  put_back es k b v s is = same_entries R o exact _ _ (put_rises _ k v (put_rises es k b s)) s (λ q.
      find_merged o later q _ _ (put_rises es k b s) (one_rises k v)
      ∙ ap (λ x. join_found later x (find R q ((k, v) ∷ []))) (find_merged o later q es _ s (one_rises k b))
      ∙ back_found (find R q es) (eq_by_cmp R q k) b v (found_tied es k q (Some v) is))

  -- what was taken out does not matter once the key has another value
  put_over : (es bs : List (K × V)) (k : K) (b v : V) → T (is_sorted R es) → T (is_sorted R (bs ++ (k, v) ∷ [])) → merged R later (merged R later es ((k, b) ∷ [])) (bs ++ (k, v) ∷ []) ≡ merged R later es (bs ++ (k, v) ∷ [])
  put_over es bs k b v s t = same_entries R o exact _ _ (sorted_merged o later _ _ (put_rises es k b s) t) (sorted_merged o later es _ s t) (λ q.
      find_merged o later q _ _ (put_rises es k b s) t
      ∙ ap (λ x. join_found later x (find R q (bs ++ (k, v) ∷ []))) (find_merged o later q es _ s (one_rises k b))
      ∙ ap (join_found later (join_found later (find R q es) (find R q ((k, b) ∷ [])))) (find_append R q bs ((k, v) ∷ []))
      ∙ over_found (find R q es) (find R q bs) (eq_by_cmp R q k) b v
      ∙ sym (find_merged o later q es _ s t ∙ ap (join_found later (find R q es)) (find_append R q bs ((k, v) ∷ []))))

  -- the value at the last key is its join
  put_joined : (join : V → V → V) (es cs : List (K × V)) (k : K) (v w : V) → T (is_sorted R es) → T (is_sorted R (cs ++ (k, v) ∷ [])) → Some v ≡ join_found join (find R k es) (Some w) → merged R later es (cs ++ (k, v) ∷ []) ≡ merged R join (merged R later es cs) ((k, w) ∷ [])
  put_joined join es cs k v w s t is =
      let front = sorted_front o cs (k, v) t in
      same_entries R o exact _ _ (sorted_merged o later es _ s t) (sorted_merged o join _ _ (sorted_merged o later es cs s front) (one_rises k w)) (λ q.
      find_merged o later q es _ s t
      ∙ ap (join_found later (find R q es)) (find_append R q cs ((k, v) ∷ []))
      ∙ joined_found join (find R q es) (find R q cs) (eq_by_cmp R q k) v w (last_absent cs k v q t) (λ tied. is ∙ ap (λ x. join_found join x (Some w)) (sym (found_tied es k q _ refl tied)))
      ∙ sym (find_merged o join q _ _ (sorted_merged o later es cs s front) (one_rises k w) ∙ ap (λ x. join_found join x (find R q ((k, w) ∷ []))) (find_merged o later q es cs s front)))

  -- one more entry is joined
  joined_more : (join : V → V → V) (es fs : List (K × V)) (k : K) (w : V) → T (is_sorted R es) → T (is_sorted R (fs ++ (k, w) ∷ [])) → merged R join (merged R join es fs) ((k, w) ∷ []) ≡ merged R join es (fs ++ (k, w) ∷ [])
  joined_more join es fs k w s t =
      let front = sorted_front o fs (k, w) t in
      same_entries R o exact _ _ (sorted_merged o join _ _ (sorted_merged o join es fs s front) (one_rises k w)) (sorted_merged o join es _ s t) (λ q.
      find_merged o join q _ _ (sorted_merged o join es fs s front) (one_rises k w)
      ∙ ap (λ x. join_found join x (find R q ((k, w) ∷ []))) (find_merged o join q es fs s front)
      ∙ more_found join (find R q es) (find R q fs) (eq_by_cmp R q k) w (last_absent fs k w q t)
      ∙ sym (find_merged o join q es _ s t ∙ ap (join_found join (find R q es)) (find_append R q fs ((k, w) ∷ []))))

module _ {K V A : Type 0} {R : K → K → Ordering} (o : IsTotalOrder R) (exact : CmpEqualImpliesEq R) (bottom : V) (join : V → V → V) (before after : A → V) (is_draft : A → Type 0) where
  -- the parts of the first i entries, and what comes of the entries
  pub record IsSoFar (whole fs es : List (K × V)) (ps : List (K × Part V A)) (i : ℕ) : Type 0 where
    pub keys : SameKeys ps (take i fs)
    pub drafted : IsDrafted R before after is_draft es ps
    pub undone_is : undone R before after es ps ≡ whole
    pub kept_is : kept R before after es ps ≡ merged R join whole (take i fs)

  pub none_so_far : (whole fs : List (K × V)) → T (is_sorted R whole) → IsSoFar whole fs whole [] 0
  none_so_far whole fs s = record {
    keys = tt;
    drafted = record { sorted = s; befores_rise = tt; afters_rise = tt; there = tt; valid = tt };
    undone_is = merged_none o later whole;
    kept_is = merged_none o later whole ∙ sym (merged_none o join whole);
  }

  pub emptied_is : (old new : List (K × V)) (k : K) → IsEmptied R bottom old new k → new ≡ merged R later old ((k, bottom) ∷ [])
  emptied_is old new k e = e.new_is ∙ sym (merged_at o later old k bottom e.at e.entry e.is_at ∙ ap (λ (y : K × V). set old e.at (y.0, bottom)) (sym e.entry_is))

  there_push : (old new : List (K × V)) (k : K) (w : V) (p : Part V A) (ps : List (K × Part V A)) → T (is_sorted R old) → IsPartOf R bottom join before after is_draft old new k w p → AllByRecursion (λ q. IsThere (find R q.0 old) q.1) ps → AllByRecursion (λ q. IsThere (find R q.0 new) q.1) (ps ++ (k, p) ∷ [])
  there_push old new k w (Joined d) ps s t h =
      let now = (λ (q : K). ap (find R q) (emptied_is old new k t.emptied) ∙ find_merged o later q old _ s (one_rises o exact k bottom)) in
      all_push (λ q. IsThere (find R q.0 new) q.1) ps (k, Joined d)
      (all_change _ _ (λ q is. subst (λ x. IsThere x q.1) (sym (now q.0)) (still_there _ _ q.1 is)) ps h)
      (subst IsFound (sym (now k)) (put_keeps_found (find R k old) _ (subst IsFound (sym t.found) tt)))
  there_push old new k w (Fresh v) ps s c h =
      all_push (λ q. IsThere (find R q.0 new) q.1) ps (k, Fresh v) (subst (λ l. AllByRecursion (λ q. IsThere (find R q.0 l) q.1) ps) (sym c.same) h) tt

  valid_push : (old new : List (K × V)) (k : K) (w : V) (p : Part V A) (ps : List (K × Part V A)) → IsPartOf R bottom join before after is_draft old new k w p → AllByRecursion (λ q. IsValid is_draft q.1) ps → AllByRecursion (λ q. IsValid is_draft q.1) (ps ++ (k, p) ∷ [])
  valid_push old new k w (Joined d) ps t h = all_push (λ q. IsValid is_draft q.1) ps (k, Joined d) h t.valid
  valid_push old new k w (Fresh v) ps c h = all_push (λ q. IsValid is_draft q.1) ps (k, Fresh v) h tt

  sorted_with : (old new : List (K × V)) (k : K) (w : V) (p : Part V A) → T (is_sorted R old) → IsPartOf R bottom join before after is_draft old new k w p → T (is_sorted R new)
  sorted_with old new k w (Joined d) s t = subst (λ l. T (is_sorted R l)) (sym (emptied_is old new k t.emptied)) (put_rises o exact old k bottom s)
  sorted_with old new k w (Fresh v) s c = subst (λ l. T (is_sorted R l)) (sym c.same) s

  -- the entries before the join stay the same
  undone_with : (old new bs : List (K × V)) (k : K) (w : V) (p : Part V A) → T (is_sorted R old) → T (is_sorted R (bs ++ entry_before before k p [])) → IsPartOf R bottom join before after is_draft old new k w p → merged R later new (bs ++ entry_before before k p []) ≡ merged R later old bs
  undone_with old new bs k w (Joined d) s rise t =
      ap (λ l. merged R later l (bs ++ (k, before d) ∷ [])) (emptied_is old new k t.emptied)
      ∙ put_then o exact _ bs k (before d) (put_rises o exact old k bottom s) rise
      ∙ ap (λ l. merged R later l bs) (put_back o exact old k bottom (before d) s t.found)
  undone_with old new bs k w (Fresh v) s rise c = ap (λ l. merged R later l (bs ++ [])) c.same ∙ ap (merged R later old) (append-nil bs)

  -- those with it are joined with one more
  kept_with : (old new cs : List (K × V)) (k : K) (w : V) (p : Part V A) → T (is_sorted R old) → T (is_sorted R (cs ++ (k, value_after after p) ∷ [])) → IsPartOf R bottom join before after is_draft old new k w p → merged R later new (cs ++ (k, value_after after p) ∷ []) ≡ merged R join (merged R later old cs) ((k, w) ∷ [])
  kept_with old new cs k w (Joined d) s rise t =
      ap (λ l. merged R later l (cs ++ (k, after d) ∷ [])) (emptied_is old new k t.emptied)
      ∙ put_over o exact old cs k bottom (after d) s rise
      ∙ put_joined o exact join old cs k (after d) w s rise (ap Some t.joined ∙ ap (λ x. join_found join x (Some w)) (sym t.found))
  kept_with old new cs k w (Fresh v) s rise c =
      ap (λ l. merged R later l (cs ++ (k, v) ∷ [])) c.same
      ∙ put_joined o exact join old cs k v w s rise (ap Some c.value ∙ ap (λ x. join_found join x (Some w)) (sym c.absent))

  -- one more part
  pub more_so_far : (whole fs es new : List (K × V)) (ps more : List (K × Part V A)) (i : ℕ) (x : K × V) (p : Part V A) → T (is_sorted R whole) → T (is_sorted R fs) → i < length fs → x ≡ get_or fs i x → IsPartOf R bottom join before after is_draft es new x.0 x.1 p → more ≡ ps ++ (x.0, p) ∷ [] → IsSoFar whole fs es ps i → IsSoFar whole fs new more (i + 1)
  more_so_far whole fs es new ps more i x p s sorted within is part more_is m =
      let front : take (i + 1) fs ≡ take i fs ++ x ∷ [] = take_more fs i x within ∙ ap (λ y. take i fs ++ y ∷ []) (sym is) in
      let rises : T (is_sorted R (take i fs ++ x ∷ [])) = subst (λ l. T (is_sorted R l)) front (sorted_take o (i + 1) fs sorted) in
      let keys : SameKeys (ps ++ (x.0, p) ∷ []) (take i fs ++ x ∷ []) = keys_push ps (take i fs) (x.0, p) x m.keys refl in
      let later_rise : T (is_sorted R (afters after (ps ++ (x.0, p) ∷ []))) = afters_rise o before after (ps ++ (x.0, p) ∷ []) (take i fs ++ x ∷ []) keys rises in
      let before_rise : T (is_sorted R (befores before (ps ++ (x.0, p) ∷ []))) = befores_rise o before after (ps ++ (x.0, p) ∷ []) later_rise in
      subst (λ l. IsSoFar whole fs new l (i + 1)) (sym more_is) (record {
        keys = subst (SameKeys (ps ++ (x.0, p) ∷ [])) (sym front) keys;
        drafted = record {
          sorted = sorted_with es new x.0 x.1 p m.drafted.sorted part;
          befores_rise = before_rise;
          afters_rise = later_rise;
          there = there_push es new x.0 x.1 p ps m.drafted.sorted part m.drafted.there;
          valid = valid_push es new x.0 x.1 p ps part m.drafted.valid;
        };
        undone_is =
            ap (merged R later new) (befores_push before after ps x.0 p)
            ∙ undone_with es new (befores before ps) x.0 x.1 p m.drafted.sorted (subst (λ l. T (is_sorted R l)) (befores_push before after ps x.0 p) before_rise) part
            ∙ m.undone_is;
        kept_is =
            ap (merged R later new) (afters_push before after ps x.0 p)
            ∙ kept_with es new (afters after ps) x.0 x.1 p m.drafted.sorted (subst (λ l. T (is_sorted R l)) (afters_push before after ps x.0 p) later_rise) part
            ∙ ap (λ l. merged R join l (x ∷ [])) m.kept_is
            ∙ joined_more o exact join whole (take i fs) x.0 x.1 s rises
            ∙ ap (merged R join whole) (sym front);
      })

  pub all_so_far : (whole fs es : List (K × V)) (ps : List (K × Part V A)) (i : ℕ) → length fs ≤ i → IsSoFar whole fs es ps i → kept R before after es ps ≡ merged R join whole fs
  all_so_far whole fs es ps i le m = m.kept_is ∙ ap (merged R join whole) (take_all i fs le)

-- one part less
module _ {K V A : Type 0} {R : K → K → Ordering} (o : IsTotalOrder R) (exact : CmpEqualImpliesEq R) (before after : A → V) (is_draft : A → Type 0) (es new : List (K × V)) (ps qs : List (K × Part V A)) (k : K) (p : Part V A) (popped : ps ≡ qs ++ (k, p) ∷ []) (d : IsDrafted R before after is_draft es ps) where
  pub popped_there : IsThere (find R k es) p
  popped_there = all_last (λ q. IsThere (find R q.0 es) q.1) qs (k, p) (subst (AllByRecursion (λ q. IsThere (find R q.0 es) q.1)) popped d.there)

  pub popped_valid : IsValid is_draft p
  popped_valid = all_last (λ q. IsValid is_draft q.1) qs (k, p) (subst (AllByRecursion (λ q. IsValid is_draft q.1)) popped d.valid)

  afters_split : afters after ps ≡ afters after qs ++ (k, value_after after p) ∷ []
  afters_split = ap (afters after) popped ∙ afters_push before after qs k p

  befores_split : befores before ps ≡ befores before qs ++ entry_before before k p []
  befores_split = ap (befores before) popped ∙ befores_push before after qs k p

  afters_left : T (is_sorted R (afters after qs))
  afters_left = sorted_front o (afters after qs) _ (subst (λ l. T (is_sorted R l)) afters_split d.afters_rise)

  -- entries that are put leave the other parts as they are
  drafted_left : (fs : List (K × V)) → T (is_sorted R fs) → new ≡ merged R later es fs → IsDrafted R before after is_draft new qs
  drafted_left fs s is =
      let now = (λ (q : K). ap (find R q) is ∙ find_merged o later q es fs d.sorted s) in
      record {
        sorted = subst (λ l. T (is_sorted R l)) (sym is) (sorted_merged o later es fs d.sorted s);
        befores_rise = befores_rise o before after qs afters_left;
        afters_rise = afters_left;
        there = all_change _ _ (λ q h. subst (λ x. IsThere x q.1) (sym (now q.0)) (still_there _ _ q.1 h)) qs (all_front (λ q. IsThere (find R q.0 es) q.1) qs (k, p) (subst (AllByRecursion (λ q. IsThere (find R q.0 es) q.1)) popped d.there));
        valid = all_front (λ q. IsValid is_draft q.1) qs (k, p) (subst (AllByRecursion (λ q. IsValid is_draft q.1)) popped d.valid);
      }

  pub keep_drafted : new ≡ merged R later es ((k, value_after after p) ∷ []) → IsDrafted R before after is_draft new qs
  keep_drafted is = drafted_left _ (one_rises o exact k (value_after after p)) is

  pub keep_kept : new ≡ merged R later es ((k, value_after after p) ∷ []) → kept R before after new qs ≡ kept R before after es ps
  keep_kept is =
      ap (λ l. merged R later l (afters after qs)) is
      ∙ sym (ap (merged R later es) afters_split ∙ put_then o exact es (afters after qs) k (value_after after p) d.sorted (subst (λ l. T (is_sorted R l)) afters_split d.afters_rise))

-- one part less, undone
module _ {K V A : Type 0} {R : K → K → Ordering} (o : IsTotalOrder R) (exact : CmpEqualImpliesEq R) (before after : A → V) (is_draft : A → Type 0) where
  entry_rises : (k : K) (p : Part V A) → T (is_sorted R (entry_before before k p []))
  entry_rises k (Joined d) = tt
  entry_rises k (Fresh v) = tt

  put_entry_then : (es bs : List (K × V)) (k : K) (p : Part V A) → T (is_sorted R es) → T (is_sorted R (bs ++ entry_before before k p [])) → merged R later es (bs ++ entry_before before k p []) ≡ merged R later (merged R later es (entry_before before k p [])) bs
  put_entry_then es bs k (Joined d) s t = put_then o exact es bs k (before d) s t
  put_entry_then es bs k (Fresh v) s t = ap (merged R later es) (append-nil bs) ∙ ap (λ l. merged R later l bs) (sym (merged_none o later es))

  module _ (es new : List (K × V)) (ps qs : List (K × Part V A)) (k : K) (p : Part V A) (popped : ps ≡ qs ++ (k, p) ∷ []) (d : IsDrafted R before after is_draft es ps) (is : new ≡ merged R later es (entry_before before k p [])) where
    pub undo_drafted : IsDrafted R before after is_draft new qs
    undo_drafted = drafted_left o exact before after is_draft es new ps qs k p popped d _ (entry_rises k p) is

    pub undo_undone : undone R before after new qs ≡ undone R before after es ps
    undo_undone =
        let split = befores_split o exact before after is_draft es new ps qs k p popped d in
        ap (λ l. merged R later l (befores before qs)) is
        ∙ sym (ap (merged R later es) split ∙ put_entry_then es (befores before qs) k p d.sorted (subst (λ l. T (is_sorted R l)) split d.befores_rise))

-- a value in place of another one leaves the keys as they are
module _ {K V : Type 0} where
  key_of_set : (es : List (K × V)) (i : ℕ) (x : K × V) (b : V) → x ≡ get_or es i x → (j : ℕ) (d : K × V) → (get_or (set es i (x.0, b)) j d).0 ≡ (get_or es j d).0
  key_of_set [] i x b is j d = refl
  key_of_set (e ∷ es) zero x b is zero d = ap (λ (y : K × V). y.0) is
  key_of_set (e ∷ es) zero x b is (suc j) d = refl
  key_of_set (e ∷ es) (suc i) x b is zero d = refl
  key_of_set (e ∷ es) (suc i) x b is (suc j) d = key_of_set es i x b is j d

module _ {K V A : Type 0} (R : K → K → Ordering) (bottom : V) (join : V → V → V) (before after : A → V) (is_draft : A → Type 0) where
  below_emptied : (fs old new : List (K × V)) (k : K) (i at : ℕ) → IsEmptied R bottom old new k → IsBelow R fs old i at → IsBelow R fs new i at
  below_emptied fs old new k i at e m = subst (λ l. IsBelow R fs l i at) (sym e.new_is) (record {
    in_range = omega (arith, m.in_range, length-set old e.at (e.entry.0, bottom));
    less = λ j n d lt le within. subst (λ y. R y (get_or fs n d).0 ≡ Less) (sym (key_of_set old e.at e.entry bottom e.entry_is j d)) (m.less j n d lt le within);
  })

  pub below_with : (fs old new : List (K × V)) (k : K) (w : V) (p : Part V A) (i at : ℕ) → IsPartOf R bottom join before after is_draft old new k w p → IsBelow R fs old i at → IsBelow R fs new i at
  below_with fs old new k w (Joined d) i at t m = below_emptied fs old new k i at t.emptied m
  below_with fs old new k w (Fresh v) i at c m = subst (λ l. IsBelow R fs l i at) (sym c.same) m

-- an edit at the key of a part, which was sought among the entries
module _ {K V : Type 0} {R : K → K → Ordering} (o : IsTotalOrder R) (es sought : List (K × V)) (same : sought ≡ es) (key : K) where
  here_at : (i : ℕ) → IsAt R sought key i → IsAt R es key i
  here_at i at = subst (λ l. IsAt R l key i) same at

  here_gap : (i : ℕ) → IsGap R sought key i → IsGap R es key i
  here_gap i gap = subst (λ l. IsGap R l key i) same gap

  pub taken_at : {A : Type 0} (bottom : V) (join : V → V → V) (before after : A → V) (is_draft : A → Type 0) (w : V) (i : ℕ) (x : K × V) (d : A) (b : V) → IsAt R sought key i → x ≡ get_or es i x → b ≡ bottom → before d ≡ x.1 → after d ≡ join x.1 w → is_draft d → IsTaken R bottom join before after is_draft es (set es i (x.0, b)) key w d
  taken_at bottom join before after is_draft w i x d b at here least before_is after_is valid = record {
    found = find_at o es key i x (here_at i at) ∙ ap (λ (y : K × V). Some y.1) (sym here) ∙ ap Some (sym before_is);
    joined = after_is ∙ ap (λ v. join v w) (sym before_is);
    valid = valid;
    emptied = record { at = i; entry = x; is_at = here_at i at; entry_is = here; new_is = ap (λ v. set es i (x.0, v)) least };
  }

  pub copied_at : {A : Type 0} (bottom : V) (join : V → V → V) (before after : A → V) (is_draft : A → Type 0) (w v : V) (i : ℕ) → IsGap R sought key i → v ≡ w → IsCopied R bottom join before after is_draft es es key w v
  copied_at bottom join before after is_draft w v i gap is = record { absent = find_gap o es key i (here_gap i gap); value = is; same = refl }

  pub put_at : (v : V) (i : ℕ) (x : K × V) → IsAt R sought key i → x ≡ get_or es i x → set es i (x.0, v) ≡ merged R later es ((key, v) ∷ [])
  put_at v i x at here = sym (merged_at o later es key v i x (here_at i at) ∙ ap (λ (y : K × V). set es i (y.0, v)) (sym here))

  pub put_gap : (v : V) (i : ℕ) (new : List (K × V)) → IsGap R sought key i → new ≡ insert es i (key, v) → new ≡ merged R later es ((key, v) ∷ [])
  put_gap v i new gap put = put ∙ sym (merged_gap o later es key v i (here_gap i gap))

  pub missing_at : (i : ℕ) (x : K × V) → IsAt R sought key i → missing (find R key es) ≡ 0
  missing_at i x at = ap missing (find_at o es key i x (here_at i at))

  pub missing_gap : (i : ℕ) → IsGap R sought key i → missing (find R key es) ≡ 1
  missing_gap i gap = ap missing (find_gap o es key i (here_gap i gap))

-- the key of a part that joins into a value is there
pub there_missing : {V A : Type 0} (found : Option V) (p : Part V A) → IsThere found p → missing found ≤ fresh_of p
there_missing None (Joined d) h = absurd h
there_missing (Some v) (Joined d) h = omega arith
there_missing None (Fresh v) h = omega arith
there_missing (Some w) (Fresh v) h = omega arith

-- all parts are used up
pub none_left : {X : Type 0} (xs : List X) → length xs ≡ 0 → xs ≡ []
none_left [] h = refl
none_left (x ∷ xs) h = absurd (omega (arith, h))

-- the entries are a map, whether the join came about or not
module _ {K V : Type 0} {R : K → K → Ordering} (o : IsTotalOrder R) (exact : CmpEqualImpliesEq R) {is_value : V → Type 0} {bottom : V} {join : V → V → V} (l : JoinLaws is_value bottom join) where
  pub map_either_way : {E : Type 0} (es fs new : List (K × V)) (r : Result (Unit {0}) E) → IsMap R is_value bottom es → IsMap R is_value bottom fs → OnOk r (new ≡ merged R join es fs) → OnErr r (new ≡ es) → IsMap R is_value bottom new
  map_either_way es fs new (Ok u) m n ok err = subst (IsMap R is_value bottom) (sym ok) (merged_is o exact l es fs m n)
  map_either_way es fs new (Err e) m n ok err = subst (IsMap R is_value bottom) (sym err) m
