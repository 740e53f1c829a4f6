-- Walks over the entries of a table.
use Rattle.std.proofs.Common.{◌≡◌, ℕ, ◌+◌, ◌-◌, ◌<◌, ◌≤◌, min, true, cond, List, [], ◌∷◌, Some, None, drop, refl, sym, ap, subst, ◌∙◌, arith, inl, inr}
use Rattle.std.specs.Prelude.{slice_get}
use Rattle.std.proofs.lemmas.Option.{same_Some, none-some}
use Rattle.std.proofs.lemmas.Bool.{cases_lt}
use Rattle.std.proofs.lemmas.List.Sums.{sum_by-cons}
use Rattle.squall_key.specs.Keys.{top}
use Rattle.squall_span.specs.Spans.{Interval, interval}
use Rattle.squall_plan.specs.declared.range.PlanRange.{PlanRange}
use Rattle.squall_plan.specs.Ranges.{owner_of}
use Rattle.squall_plan.specs.Ranges.{IsCanonical as IsCanonicalTable}
use Rattle.squall_blocks.specs.Entries.{RiseFrom, last_from, beyond, up_to}
use Rattle.squall_blocks.specs.EntriesLaws.{is_below, not_below, beyond_first, beyond_next, up_to_first, up_to_next}
use Rattle.squall_table.specs.Tables.{leg_of}
use Rattle.squall_table.specs.Legs.{Legs, Grows}
use Rattle.squall_table.specs.LegLaws.{grows_more, grows_as, grows_none, canonical_legs}
use Rattle.squall_table.specs.LegEntries.{legs_from, legs_beyond}
use Rattle.squall_table.specs.Reach.{is_near, legs_near}
use Rattle.squall_table.specs.Patching.{IsReach}
use Rattle.squall_table.proofs.Entered.{found, none_beyond, last_is_end, legs_rise, legs_end}

same_head : (x y : ℕ × ℕ) (xs ys : List (ℕ × ℕ)) → x ∷ xs ≡ y ∷ ys → x ≡ y
same_head x y xs ys e = same_Some x y (ap (λ (l : List (ℕ × ℕ)). slice_get l 0) e)

same_tail : (x y : ℕ × ℕ) (xs ys : List (ℕ × ℕ)) → x ∷ xs ≡ y ∷ ys → xs ≡ ys
same_tail x y xs ys e = ap (drop 1) e

-- ---- legs that are copied

-- what is copied up to `reach`, and the entries behind it unless all is copied
pub record Copied (es rest : List (ℕ × ℕ)) (lo reach hi : ℕ) (old out : List PlanRange) : Type 0 where
  pub low : lo ≤ reach
  pub high : reach ≤ hi
  pub rest_is : reach < hi → rest ≡ beyond reach es
  pub grows : Grows (owner_of (legs_from 0 es)) lo reach old out

pub copied_none : (es rest : List (ℕ × ℕ)) (lo hi : ℕ) (out : List PlanRange) → lo ≤ hi → rest ≡ beyond lo es → Copied es rest lo lo hi out out
copied_none es rest lo hi out le e = record { low = omega arith; high = le; rest_is = λ lt. e; grows = grows_none _ lo lo out refl }

pub copied_more : (es rest left : List (ℕ × ℕ)) (lo reach hi end part stop : ℕ) (x : ℕ × ℕ) (old out next : List PlanRange) → Legs (owner_of (legs_from 0 es)) 0 top (legs_from 0 es) → hi ≤ top → reach < hi
    → Copied es rest lo reach hi old out → rest ≡ x ∷ left → end ≡ x.0 → part ≡ x.1 → stop ≡ min end hi → Grows (λ _. part) reach stop out next → Copied es left lo stop hi old next
copied_more es rest left lo reach hi end part stop x old out next table high lt c is first second at grows =
    let f = found (owner_of (legs_from 0 es)) 0 top reach es table (omega arith) (omega (arith, lt, high)) in
    let same : x ∷ left ≡ f.first ∷ f.rest = sym is ∙ c.rest_is lt ∙ f.is in
    let head = same_head x f.first left f.rest same in
    let end_is : end ≡ f.first.0 = first ∙ ap (λ (y : ℕ × ℕ). y.0) head in
    let part_is : part ≡ f.first.1 = second ∙ ap (λ (y : ℕ × ℕ). y.1) head in
    record {
      low = omega (arith, c.low, at, end_is, f.above, lt);
      high = omega (arith, at);
      rest_is = λ less.
          let here : f.first.0 ≡ stop = omega (arith, at, less, end_is) in
          same_tail x f.first left f.rest same ∙ f.next ∙ ap (λ n. beyond n es) here;
      grows = grows_more (owner_of (legs_from 0 es)) lo reach stop old out next c.low (omega (arith, at, end_is, f.above, lt)) c.grows
          (grows_as (λ _. part) (owner_of (legs_from 0 es)) reach stop out next (λ k a b. part_is ∙ sym (f.routes k (omega (arith, f.from, a)) (omega (arith, b, at, end_is)))) grows);
    }

-- the next entry ends beyond
pub copied_up : (es rest left : List (ℕ × ℕ)) (lo reach hi end : ℕ) (x : ℕ × ℕ) (old out : List PlanRange) → Legs (owner_of (legs_from 0 es)) 0 top (legs_from 0 es) → hi ≤ top → reach < hi
    → Copied es rest lo reach hi old out → rest ≡ x ∷ left → end ≡ x.0 → reach < end
copied_up es rest left lo reach hi end x old out table high lt c is first =
    let f = found (owner_of (legs_from 0 es)) 0 top reach es table (omega arith) (omega (arith, lt, high)) in
    let same : x ∷ left ≡ f.first ∷ f.rest = sym is ∙ c.rest_is lt ∙ f.is in
    let end_is : end ≡ f.first.0 = first ∙ ap (λ (y : ℕ × ℕ). y.0) (same_head x f.first left f.rest same) in
    omega (arith, end_is, f.above)

pub copied_on : (es rest : List (ℕ × ℕ)) (lo reach hi : ℕ) (old out : List PlanRange) → Legs (owner_of (legs_from 0 es)) 0 top (legs_from 0 es) → hi ≤ top → reach < hi → Copied es rest lo reach hi old out → rest ≡ [] → ⊥
copied_on es rest lo reach hi old out table high lt c none =
    let f = found (owner_of (legs_from 0 es)) 0 top reach es table (omega arith) (omega (arith, lt, high)) in
    none-some f.first (ap (λ (l : List (ℕ × ℕ)). slice_get l 0) (sym none ∙ c.rest_is lt ∙ f.is))

pub copied_all : (es rest : List (ℕ × ℕ)) (lo reach hi : ℕ) (old out : List PlanRange) → Copied es rest lo reach hi old out → hi ≤ reach → Grows (owner_of (legs_from 0 es)) lo hi old out
copied_all es rest lo reach hi old out c le = let same : reach ≡ hi = omega (arith, c.high) in subst (λ n. Grows (owner_of (legs_from 0 es)) lo n old out) same c.grows

-- ---- legs near a set that are counted

near_more : (set : List Interval) (l : PlanRange) (ls : List PlanRange) → legs_near set ls ≤ legs_near set (l ∷ ls)
near_more set l ls = let e = sum_by-cons (λ (x : PlanRange). cond (is_near set x.span) 1 0) l ls in omega (arith, e)

near_one : (set : List Interval) (l : PlanRange) (ls : List PlanRange) → is_near set l.span ≡ true → legs_near set ls + 1 ≡ legs_near set (l ∷ ls)
near_one set l ls is =
    let e = sum_by-cons (λ (x : PlanRange). cond (is_near set x.span) 1 0) l ls in
    let one : ◌≡◌ {A = ℕ} (cond (is_near set l.span) 1 0) 1 = ap (λ b. cond b 1 0) is in
    omega (arith, e, one)

-- the legs behind a bound at which an entry ends are among all
near_behind : (set : List Interval) (lo m : ℕ) (es : List (ℕ × ℕ)) → last_from lo (up_to m es) ≡ m → legs_near set (legs_from m (beyond m es)) ≤ legs_near set (legs_from lo es)
near_behind set lo m [] e = omega arith
near_behind set lo m (x ∷ es) e = elim (cases_lt m x.0) [
  | inl here ↦
      let same : lo ≡ m = sym (ap (last_from lo) (up_to_first m x es here)) ∙ e in
      rw (beyond_first m x es here) (subst (λ n. legs_near set (legs_from n (x ∷ es)) ≤ legs_near set (legs_from lo (x ∷ es))) same (omega arith))
  | inr past ↦
      let rest = near_behind set x.0 m es (sym (ap (last_from lo) (up_to_next m x es past)) ∙ e) in
      let more = near_more set (leg_of lo x.0 x.1) (legs_from x.0 es) in
      rw (beyond_next m x es past) (omega (arith, rest, more))
]

-- that many are counted up to a bound, and these entries come behind it
pub record Counted (set : List Interval) (es rest : List (ℕ × ℕ)) (reach count : ℕ) : Type 0 where
  pub small : count ≤ reach
  pub rest_is : rest ≡ beyond reach es
  pub bound : count + legs_near set (legs_from reach rest) ≤ legs_near set (legs_from 0 es)

pub counted_none : (set : List Interval) (es rest : List (ℕ × ℕ)) (from : ℕ) → last_from 0 (up_to from es) ≡ from → rest ≡ beyond from es → Counted set es rest from 0
counted_none set es rest from e is = record {
  small = omega arith;
  rest_is = is;
  bound = let b = near_behind set 0 from es e in let s = ap (λ xs. legs_near set (legs_from from xs)) is in omega (arith, b, s);
}

-- one more entry, which is counted only if it is near
pub counted_more : (set : List Interval) (es rest left : List (ℕ × ℕ)) (reach count next : ℕ) (x : ℕ × ℕ) → Legs (owner_of (legs_from 0 es)) 0 top (legs_from 0 es)
    → Counted set es rest reach count → rest ≡ x ∷ left → count ≤ next → next ≤ count + 1 → (count < next → is_near set (interval reach x.0) ≡ true) → Counted set es left x.0 next
counted_more set es rest left reach count next x table c is more most near =
    let below : reach < top = elim (cases_lt reach top) [
      | inl lt ↦ lt
      | inr ge ↦ absurd (none-some x (ap (λ (l : List (ℕ × ℕ)). slice_get l 0) (sym (none_beyond (owner_of (legs_from 0 es)) 0 top reach es table ge).0 ∙ sym c.rest_is ∙ is)))
    ] in
    let f = found (owner_of (legs_from 0 es)) 0 top reach es table (omega arith) below in
    let same : x ∷ left ≡ f.first ∷ f.rest = sym is ∙ c.rest_is ∙ f.is in
    let end_is : x.0 ≡ f.first.0 = ap (λ (y : ℕ × ℕ). y.0) (same_head x f.first left f.rest same) in
    let whole : legs_near set (legs_from reach rest) ≡ legs_near set (leg_of reach x.0 x.1 ∷ legs_from x.0 left) = ap (λ xs. legs_near set (legs_from reach xs)) is in
    record {
      small = omega (arith, c.small, most, end_is, f.above);
      rest_is = same_tail x f.first left f.rest same ∙ f.next ∙ ap (λ n. beyond n es) (sym end_is);
      bound = elim (cases_lt count next) [
        | inl lt ↦ let one = near_one set (leg_of reach x.0 x.1) (legs_from x.0 left) (near lt) in omega (arith, c.bound, whole, one, most)
        | inr ge ↦ let all = near_more set (leg_of reach x.0 x.1) (legs_from x.0 left) in omega (arith, c.bound, whole, all, more, ge)
      ];
    }

pub counted_all : (set : List Interval) (es rest : List (ℕ × ℕ)) (reach count : ℕ) → Counted set es rest reach count → count ≤ legs_near set (legs_from 0 es)
counted_all set es rest reach count c = omega (arith, c.bound)

-- ---- what goes when the keys from one bound to another are renewed

first_at : (es : List (ℕ × ℕ)) (k : ℕ) (x : ℕ × ℕ) (xs : List (ℕ × ℕ)) → beyond k es ≡ x ∷ xs → slice_get (beyond k es) 0 ≡ Some x
first_at es k x xs e = ap (λ (l : List (ℕ × ℕ)). slice_get l 0) e

begins_low : (es : List (ℕ × ℕ)) (low b lo : ℕ) → Legs (owner_of (legs_from 0 es)) 0 top (legs_from 0 es) → b ≡ low - 1 → low < top → lo ≡ last_from 0 (up_to b es) → lo ≤ b
begins_low es low b lo table before less is = let f = found (owner_of (legs_from 0 es)) 0 top b es table (omega arith) (omega (arith, before, less)) in omega (arith, is, f.from)

begins_at : (es : List (ℕ × ℕ)) (b lo : ℕ) → Legs (owner_of (legs_from 0 es)) 0 top (legs_from 0 es) → lo ≡ last_from 0 (up_to b es) → last_from 0 (up_to lo es) ≡ lo
begins_at es b lo table is = subst (λ n. last_from 0 (up_to n es) ≡ n) (sym is) (last_is_end 0 b es (legs_rise (owner_of (legs_from 0 es)) 0 top es table))

-- up to the end of an entry
pub reach_some : (es : List (ℕ × ℕ)) (low high b lo : ℕ) (x : ℕ × ℕ) → IsCanonicalTable (legs_from 0 es) → low < high → high ≤ top → b ≡ low - 1 → lo ≡ last_from 0 (up_to b es) → Some x ≡ slice_get (beyond high es) 0 → IsReach es low high lo x.0
reach_some es low high b lo x canonical order high-top before is found-x =
    let table = canonical_legs (legs_from 0 es) canonical in
    let less : high < top = elim (cases_lt high top) [
      | inl lt ↦ lt
      | inr ge ↦ absurd (none-some x (ap (λ (l : List (ℕ × ℕ)). slice_get l 0) (sym (none_beyond (owner_of (legs_from 0 es)) 0 top high es table ge).0) ∙ sym found-x))
    ] in
    let f = found (owner_of (legs_from 0 es)) 0 top high es table (omega arith) less in
    let same : x ≡ f.first = same_Some x f.first (found-x ∙ first_at es high f.first f.rest f.is) in
    let low-up = begins_low es low b lo table before (omega (arith, order, high-top)) is in
    let end_is : x.0 ≡ f.first.0 = ap (λ (y : ℕ × ℕ). y.0) same in
    record {
      begins = begins_at es b lo table is;
      ends = subst (λ (y : ℕ × ℕ). last_from 0 (up_to y.0 es) ≡ y.0) (sym same) f.ends;
      low = omega (arith, low-up, before);
      before = λ some. omega (arith, low-up, before, some);
      high = omega (arith, end_is, f.above);
      after = λ lt. omega (arith, end_is, f.above);
      within = omega (arith, end_is, f.within);
    }

-- up to the top
pub reach_all : (es : List (ℕ × ℕ)) (low high b lo : ℕ) → IsCanonicalTable (legs_from 0 es) → low < high → high ≤ top → b ≡ low - 1 → lo ≡ last_from 0 (up_to b es) → None ≡ slice_get (beyond high es) 0 → IsReach es low high lo top
reach_all es low high b lo canonical order high-top before is none =
    let table = canonical_legs (legs_from 0 es) canonical in
    let low-up = begins_low es low b lo table before (omega (arith, order, high-top)) is in
    let last : high ≡ top = elim (cases_lt high top) [
      | inl lt ↦ let f = found (owner_of (legs_from 0 es)) 0 top high es table (omega arith) lt in absurd (none-some f.first (none ∙ first_at es high f.first f.rest f.is))
      | inr ge ↦ omega (arith, ge, high-top)
    ] in
    record {
      begins = begins_at es b lo table is;
      ends = ap (last_from 0) (none_beyond (owner_of (legs_from 0 es)) 0 top top es table (omega arith)).1 ∙ legs_end (owner_of (legs_from 0 es)) 0 top es table;
      low = omega (arith, low-up, before);
      before = λ some. omega (arith, low-up, before, some);
      high = high-top;
      after = λ lt. omega (arith, lt, last);
      within = omega arith;
    }

-- ---- the partition of a key

pub found_owner : (es : List (ℕ × ℕ)) (k key : ℕ) (x : ℕ × ℕ) → IsCanonicalTable (legs_from 0 es) → k ≡ key → key < top → Some x ≡ slice_get (beyond k es) 0 → x.1 ≡ owner_of (legs_from 0 es) key
found_owner es k key x canonical at lt found-x =
    let table = canonical_legs (legs_from 0 es) canonical in
    let f = found (owner_of (legs_from 0 es)) 0 top k es table (omega arith) (omega (arith, at, lt)) in
    let same : x ≡ f.first = same_Some x f.first (found-x ∙ first_at es k f.first f.rest f.is) in
    ap (λ (y : ℕ × ℕ). y.1) same ∙ sym (f.routes k f.from f.above) ∙ ap (owner_of (legs_from 0 es)) at

pub some_owner : (es : List (ℕ × ℕ)) (k : ℕ) → IsCanonicalTable (legs_from 0 es) → k < top → None ≡ slice_get (beyond k es) 0 → ⊥
some_owner es k canonical lt none =
    let f = found (owner_of (legs_from 0 es)) 0 top k es (canonical_legs (legs_from 0 es) canonical) (omega arith) lt in
    none-some f.first (none ∙ first_at es k f.first f.rest f.is)

-- the entries from that of a key on are the legs from that on
pub beyond_legs : (lo k : ℕ) (es : List (ℕ × ℕ)) → legs_from (last_from lo (up_to k es)) (beyond k es) ≡ legs_beyond k (legs_from lo es)
beyond_legs lo k [] = refl
beyond_legs lo k (x ∷ es) = elim (cases_lt k x.0) [
  | inl here ↦
      (λ i. legs_from (last_from lo (up_to_first k x es here i)) (beyond_first k x es here i)) ∙ sym (ap (λ b. cond b (leg_of lo x.0 x.1 ∷ legs_from x.0 es) (legs_beyond k (legs_from x.0 es))) (is_below k x.0 here))
  | inr past ↦
      (λ i. legs_from (last_from lo (up_to_next k x es past i)) (beyond_next k x es past i)) ∙ beyond_legs x.0 k es ∙ sym (ap (λ b. cond b (leg_of lo x.0 x.1 ∷ legs_from x.0 es) (legs_beyond k (legs_from x.0 es))) (not_below k x.0 past))
]

pub entries_rise : (es : List (ℕ × ℕ)) (k : ℕ) → IsCanonicalTable (legs_from 0 es) → RiseFrom (last_from 0 (up_to k es)) (beyond k es)
entries_rise es k canonical = from 0 es (legs_rise (owner_of (legs_from 0 es)) 0 top es (canonical_legs (legs_from 0 es) canonical))
  where
    from : (lo : ℕ) (xs : List (ℕ × ℕ)) → RiseFrom lo xs → RiseFrom (last_from lo (up_to k xs)) (beyond k xs)
    from lo [] r = tt
    from lo (x ∷ xs) r = elim (cases_lt k x.0) [
      | inl here ↦ rw (up_to_first k x xs here, beyond_first k x xs here) r
      | inr past ↦ rw (up_to_next k x xs past, beyond_next k x xs past) (from x.0 xs r.1)
    ]

pub all_rise : (es : List (ℕ × ℕ)) → IsCanonicalTable (legs_from 0 es) → RiseFrom 0 es
all_rise es canonical = legs_rise (owner_of (legs_from 0 es)) 0 top es (canonical_legs (legs_from 0 es) canonical)

-- the next entry ends beyond the bound up to which legs are counted
pub counted_up : (set : List Interval) (es rest left : List (ℕ × ℕ)) (reach count : ℕ) (x : ℕ × ℕ) → IsCanonicalTable (legs_from 0 es) → Counted set es rest reach count → rest ≡ x ∷ left → (reach < x.0) × (x.0 ≤ top)
counted_up set es rest left reach count x canonical c is =
    let table = canonical_legs (legs_from 0 es) canonical in
    let below : reach < top = elim (cases_lt reach top) [
      | inl lt ↦ lt
      | inr ge ↦ absurd (none-some x (ap (λ (l : List (ℕ × ℕ)). slice_get l 0) (sym (none_beyond (owner_of (legs_from 0 es)) 0 top reach es table ge).0 ∙ sym c.rest_is ∙ is)))
    ] in
    let f = found (owner_of (legs_from 0 es)) 0 top reach es table (omega arith) below in
    let end_is : x.0 ≡ f.first.0 = ap (λ (y : ℕ × ℕ). y.0) (same_head x f.first left f.rest (sym is ∙ c.rest_is ∙ f.is)) in
    (omega (arith, end_is, f.above), omega (arith, end_is, f.within))
