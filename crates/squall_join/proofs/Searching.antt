-- The steps of a search among sorted entries.
use Rattle.std.proofs.Common.{◌≡◌, ℕ, ◌+◌, ◌-◌, ◌<◌, ◌≤◌, T, List, length, get_or, refl, sym, ap, subst, ◌∙◌, arith, inl, inr, ◌≢◌, true, false}
use Rattle.std.specs.declared.cmp.Ordering.{Ordering}
use Rattle.std.specs.declared.cmp.Ordering.TheVariants.{Less, Equal, Greater}
use Rattle.std.specs.Cmp.{IsTotalOrder}
use Rattle.std.specs.FinMap.Entries.{is_sorted}
use Rattle.std.proofs.lemmas.Bool.{cases_lt, false≢true}
use Rattle.std.proofs.lemmas.List.{get_or_default}
use Rattle.std.specs.Ordering.{is_eq, is_lt}
use Rattle.std.proofs.lemmas.Cmp.{alike_right}
use Rattle.squall_join.specs.Entries.{IsPlace, IsAmong, IsFrom, IsAt, IsGap}
use Rattle.squall_join.specs.MapLaws.{equal}
use Rattle.squall_join.proofs.Places.{sorted_at}

-- the step of a comparison with the entry x
pub record IsStep {K V : Type 0} (R : K → K → Ordering) (key : K) (x : K × V) (step taken : ℕ) : Type 0 where
  pub less : R x.0 key ≡ Less → taken ≡ step
  pub not_less : R x.0 key ≢ Less → taken ≡ 0

is_less_or_not : (o : Ordering) (P : Type 0) → (o ≡ Less → P) → (o ≢ Less → P) → P
is_less_or_not Less P f g = f refl
is_less_or_not Equal P f g = g (λ e. cc)
is_less_or_not Greater P f g = g (λ e. cc)

less_if : (r : Ordering) → is_lt r ≡ true → r ≡ Less
less_if Less e = refl
less_if Equal e = absurd (false≢true e)
less_if Greater e = absurd (false≢true e)

not_less_if : (r : Ordering) → is_lt r ≡ false → r ≢ Less
not_less_if r e is = false≢true (sym e ∙ ap is_lt is)

pub among_all : {K V : Type 0} (R : K → K → Ordering) (es : List (K × V)) (key : K) (size : ℕ) → size ≡ length es → IsAmong R es key 0 size
among_all R es key size e = record {
  in_range = omega arith;
  less_before = λ j d lt. absurd (omega arith);
  no_less_from = λ j d le lt. absurd (omega arith);
}

module _ {K V : Type 0} {R : K → K → Ordering} (o : IsTotalOrder R) (es : List (K × V)) (sorted : T (is_sorted R es)) (key : K) where
  -- smaller keys up to a smaller one, and none from one that is not smaller
  less_upto : (i j : ℕ) (c d : K × V) → i < length es → j ≤ i → R (get_or es i c).0 key ≡ Less → R (get_or es j d).0 key ≡ Less
  less_upto i j c d lt le h = elim (cases_lt j i) [
    | inl below ↦ o.trans _ _ _ (sorted_at o es sorted j i d below lt) (subst (λ (x : K × V). R x.0 key ≡ Less) (get_or_default es i c d lt) h)
    | inr ge ↦ let same : i ≡ j = omega arith in subst (λ k. R (get_or es k d).0 key ≡ Less) same (subst (λ (x : K × V). R x.0 key ≡ Less) (get_or_default es i c d lt) h)
  ]

  no_less_on : (i j : ℕ) (c d : K × V) → i ≤ j → j < length es → R (get_or es i c).0 key ≢ Less → R (get_or es j d).0 key ≢ Less
  no_less_on i j c d le lt h e = h (less_upto j i d c lt le e)

  -- half of the places are left
  pub among_half : (from size half taken : ℕ) (x : K × V) → 0 < half → half + half ≤ size → IsStep R key (get_or es (from + half - 1) x) half taken → IsAmong R es key from size → IsAmong R es key (from + taken) (size - half)
  among_half from size half taken x some few s m = is_less_or_not (R (get_or es (from + half - 1) x).0 key) (IsAmong R es key (from + taken) (size - half))
      (λ less. let all : taken ≡ half = s.less less in record {
        in_range = omega (arith, m.in_range);
        less_before = λ j d lt. less_upto (from + half - 1) j x d (omega (arith, m.in_range)) (omega arith) less;
        no_less_from = λ j d le lt. m.no_less_from j d (omega arith) lt;
      })
      (λ not. let none : taken ≡ 0 = s.not_less not in record {
        in_range = omega (arith, m.in_range);
        less_before = λ j d lt. m.less_before j d (omega arith);
        no_less_from = λ j d le lt. no_less_on (from + half - 1) j x d (omega arith) lt not;
      })

  pub place_by_one : (from taken : ℕ) (x : K × V) → IsStep R key (get_or es from x) 1 taken → IsAmong R es key from 1 → IsPlace R es key (from + taken)
  place_by_one from taken x s m = is_less_or_not (R (get_or es from x).0 key) (IsPlace R es key (from + taken))
      (λ less. let all : taken ≡ 1 = s.less less in record {
        in_range = omega (arith, m.in_range);
        less_before = λ j d lt. less_upto from j x d (omega (arith, m.in_range)) (omega arith) less;
        no_less_from = λ j d le lt. m.no_less_from j d (omega arith) lt;
      })
      (λ not. let none : taken ≡ 0 = s.not_less not in record {
        in_range = omega (arith, m.in_range);
        less_before = λ j d lt. m.less_before j d (omega arith);
        no_less_from = λ j d le lt. no_less_on from j x d (omega arith) lt not;
      })

module _ {K V : Type 0} {R : K → K → Ordering} (o : IsTotalOrder R) (es : List (K × V)) (sorted : T (is_sorted R es)) (key : K) where
  -- beyond the entry at a place, which has a smaller key
  pub from_next : (i : ℕ) (x : K × V) → i < length es → is_lt (R (get_or es i x).0 key) ≡ true → IsFrom R es key (i + 1)
  from_next i x lt less = record {
    in_range = omega arith;
    less_before = λ j d below. less_upto o es sorted key i j x d lt (omega arith) (less_if _ less);
  }

  -- before the entry at a place or at it, whose key is not smaller
  pub among_before : (from left : ℕ) (x : K × V) → from + left < length es → is_lt (R (get_or es (from + left) x).0 key) ≡ false → IsFrom R es key from → IsAmong R es key from left
  among_before from left x lt not m = record {
    in_range = omega arith;
    less_before = m.less_before;
    no_less_from = λ j d at below. no_less_on o es sorted key (from + left) j x d at below (not_less_if _ not);
  }

  pub place_at_end : (from : ℕ) → length es ≤ from → IsFrom R es key from → IsPlace R es key from
  place_at_end from le m = record {
    in_range = m.in_range;
    less_before = m.less_before;
    no_less_from = λ j d at below. absurd (omega arith);
  }

module _ {K V : Type 0} {R : K → K → Ordering} (o : IsTotalOrder R) (es : List (K × V)) (sorted : T (is_sorted R es)) (key : K) where
  -- the place of an entry that has the key
  pub place_at_key : (i : ℕ) (x : K × V) → i < length es → x ≡ get_or es i x → is_eq (R x.0 key) ≡ true → IsPlace R es key i
  place_at_key i x lt is same = record {
    in_range = omega arith;
    less_before = λ j d below. sym (alike_right o (get_or es i d).0 key (get_or es j d).0 (tie d)) ∙ sorted_at o es sorted j i d below lt;
    no_less_from = λ j d le below e. equal_not_less (sym (tie x) ∙ less_upto o es sorted key j i d x below le e);
  }
    where
      tie : (d : K × V) → R (get_or es i d).0 key ≡ Equal
      tie d = subst (λ (y : K × V). R y.0 key ≡ Equal) (is ∙ get_or_default es i x d lt) (equal _ same)

      equal_not_less : Equal ≢ Less
      equal_not_less e = cc

pub place_by_none : {K V : Type 0} (R : K → K → Ordering) (es : List (K × V)) (key : K) (from size : ℕ) → size ≡ 0 → IsAmong R es key from size → IsPlace R es key from
place_by_none R es key from size e m = record {
  in_range = omega (arith, m.in_range);
  less_before = m.less_before;
  no_less_from = λ j d le lt. m.no_less_from j d (omega arith) lt;
}

-- what is at the place
pub found_at_place : {K V : Type 0} (R : K → K → Ordering) (es : List (K × V)) (key : K) (i : ℕ) (x : K × V) → i < length es → x ≡ get_or es i x → is_eq (R x.0 key) ≡ true → IsPlace R es key i → IsAt R es key i
found_at_place R es key i x lt is same m = record {
  in_range = lt;
  has_key = λ d. subst (λ (y : _ × _). R y.0 key ≡ Equal) (is ∙ get_or_default es i x d lt) (equal _ same);
  less_before = m.less_before;
}

pub gap_at_end : {K V : Type 0} (R : K → K → Ordering) (es : List (K × V)) (key : K) (i : ℕ) → length es ≤ i → IsPlace R es key i → IsGap R es key i
gap_at_end R es key i le m = record {
  in_range = m.in_range;
  less_before = m.less_before;
  greater_from = λ j d from lt. absurd (omega arith);
}

pub gap_at_place : {K V : Type 0} {R : K → K → Ordering} → IsTotalOrder R → (es : List (K × V)) → T (is_sorted R es) → (key : K) (i : ℕ) (x : K × V) → i < length es → x ≡ get_or es i x → is_eq (R x.0 key) ≡ false → IsPlace R es key i → IsGap R es key i
gap_at_place {R} o es sorted key i x lt is other m = record {
  in_range = m.in_range;
  less_before = m.less_before;
  greater_from = λ j d from below. elim (cases_lt i j) [
    | inl later ↦ greater _ (m.no_less_from j d from below) (λ e. m.no_less_from i x (omega arith) lt (sym (alike_right o (get_or es j d).0 key (get_or es i x).0 e) ∙ subst (λ (y : _ × _). R (get_or es i x).0 y.0 ≡ Less) (get_or_default es j x d below) (sorted_at o es sorted i j x later below)))
    | inr ge ↦
        let same : i ≡ j = omega arith in
        let at : x ≡ get_or es j d = is ∙ get_or_default es i x d lt ∙ ap (λ k. get_or es k d) same in
        greater _ (m.no_less_from j d from below) (λ e. false≢true (sym other ∙ ap is_eq (ap (λ (y : _ × _). R y.0 key) at ∙ e)))
  ];
}
  where
    greater : (r : Ordering) → r ≢ Less → r ≢ Equal → r ≡ Greater
    greater Less p q = absurd (p refl)
    greater Equal p q = absurd (q refl)
    greater Greater p q = refl
