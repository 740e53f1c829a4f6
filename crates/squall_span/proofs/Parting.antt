-- The steps of a walk along two sets for the keys of the first alone.
use Rattle.std.proofs.Common.{◌≡◌, ℕ, ◌<◌, ◌≤◌, max, min, Bool, true, false, List, [], ◌∷◌, ◌++◌, refl, sym, ap, subst, ◌∙◌, arith, inl, inr, ◌||◌}
use Rattle.std.specs.Prelude.{◌⊎◌, ◌&&◌, not, nat_le}
use Rattle.std.proofs.Math.Bool.{and-true, and-false, or-false}
use Rattle.std.proofs.lemmas.Bool.{cases_lt}
use Rattle.std.proofs.lemmas.Bool.Decides.{nat_tests}
use Rattle.std.proofs.lemmas.List.{append-nil}
use Rattle.squall_span.specs.Spans.{Interval, interval, span_has, has, Beyond, IsCanonical, EndsBeyond}
use Rattle.squall_span.specs.SpanLaws.{has-append, has_below, outside_above, outside_below, inside}
use Rattle.squall_span.specs.Sweeps.{cut_first}
use Rattle.squall_span.proofs.Adding.{EndsBefore, canonical_join, Added, AddedBy, added}
use Rattle.squall_span.proofs.Sweeping.{has_early, rest_ends}

-- no span touches the keys of the first span from the bound on
abbrev pub ClearFrom : ℕ → List Interval → List Interval → Type 0
ClearFrom from [] out = Unit {0}
ClearFrom from (s ∷ ss) out = EndsBefore (max from s.lo) out

-- what is done of a walk along x and y: the keys of a from the bound on are still to come, without those of b
pub record Parting (x y out a b : List Interval) (from : ℕ) : Type 0 where
  pub canonical : IsCanonical out
  pub canonical_a : IsCanonical a
  pub canonical_b : IsCanonical b
  pub ends_a : EndsBeyond from a
  pub ends_b : EndsBeyond from b
  pub clear : ClearFrom from a out
  pub keys : (k : ℕ) → (has out k || (has a k && (nat_le from k && not (has b k)))) ≡ (has x k && not (has y k))

le_yes : (a b : ℕ) → a ≤ b → nat_le a b ≡ true
le_yes a b le = grind (arith, nat_tests)

le_no : (a b : ℕ) → b < a → nat_le a b ≡ false
le_no a b lt = grind (arith, nat_tests)

pub parting_none : (y b : List Interval) (s : Interval) (ss : List Interval) → IsCanonical (s ∷ ss) → IsCanonical b → EndsBeyond s.lo b → ((k : ℕ) → s.lo ≤ k → has b k ≡ has y k) → Parting (s ∷ ss) y [] (s ∷ ss) b s.lo
parting_none y b s ss c d ends same = record {
  canonical = tt;
  canonical_a = c;
  canonical_b = d;
  ends_a = c.0;
  ends_b = ends;
  clear = tt;
  keys = λ k. elim (cases_lt k s.lo) [
    | inl early ↦ (λ i. has_early k s ss c early i && (nat_le s.lo k && not (has b k))) ∙ sym (ap (λ u. u && not (has y k)) (has_early k s ss c early))
    | inr from ↦ (λ i. has (s ∷ ss) k && (le_yes s.lo k from i && not (same k from i)))
  ];
}

spread : (o a r n : Bool) → ((o || (a && n)) || (r && n)) ≡ (o || ((a || r) && n))
spread true a r n = refl
spread false true true true = refl
spread false true true false = refl
spread false true false true = refl
spread false true false false = refl
spread false false r n = refl

-- the keys before t of what is left of a span that ends no later than t are those that t and what follows lack
here : (from : ℕ) (s t : Interval) (ts : List Interval) (k : ℕ) → s.hi ≤ t.hi → IsCanonical (t ∷ ts) → span_has (interval (max from s.lo) (min s.hi t.lo)) k ≡ (span_has s k && (nat_le from k && not (span_has t k || has ts k)))
here from s t ts k le c = elim (cases_lt k s.hi) [
  | inl lt ↦ inner lt ∙ sym (ap (λ u. span_has s k && (nat_le from k && not (span_has t k || u))) (has_below t.hi k ts c.1 c.2 (omega arith)) ∙ ap (λ u. span_has s k && (nat_le from k && not u)) (or-false (span_has t k)))
  | inr ge ↦ outside_above (interval (max from s.lo) (min s.hi t.lo)) k (omega arith) ∙ sym (ap (λ u. u && (nat_le from k && not (span_has t k || has ts k))) (outside_above s k ge))
]
  where
    inner : k < s.hi → span_has (interval (max from s.lo) (min s.hi t.lo)) k ≡ (span_has s k && (nat_le from k && not (span_has t k)))
    inner lt = grind (arith, nat_tests)

-- the first span of a is passed
pub parting_first : (x y out new : List Interval) (s : Interval) (ss : List Interval) (t : Interval) (ts : List Interval) (from : ℕ) → s.hi ≤ t.hi → AddedBy (max from s.lo) (min s.hi t.lo) out new → Parting x y out (s ∷ ss) (t ∷ ts) from → Parting x y new ss (t ∷ ts) from
parting_first x y out new s ss t ts from le how m =
    let d : Added (max from s.lo) (min s.hi t.lo) out new = added (max from s.lo) (min s.hi t.lo) out new m.canonical m.clear how in
    record {
      canonical = d.canonical;
      canonical_a = m.canonical_a.2;
      canonical_b = m.canonical_b;
      ends_a = rest_ends s ss from m.canonical_a (let ends : from < s.hi = m.ends_a in omega arith);
      ends_b = m.ends_b;
      clear = clear d ss m.canonical_a.1;
      keys = λ k. (λ i. (d.keys k ∙ ap (λ u. has out k || u) (here from s t ts k le m.canonical_b)) i || (has ss k && (nat_le from k && not (span_has t k || has ts k))))
          ∙ spread (has out k) (span_has s k) (has ss k) (nat_le from k && not (span_has t k || has ts k))
          ∙ m.keys k;
    }
  where
    clear : Added (max from s.lo) (min s.hi t.lo) out new → (us : List Interval) → Beyond s.hi us → ClearFrom from us new
    clear d [] b = tt
    clear d (u ∷ us) b = let some = m.canonical_a.0 in d.clear (max from u.lo) (omega arith) (omega arith)

low : (o a f : Bool) → ((o || (a && f)) || ((a || false) && (false && true))) ≡ (o || ((a || false) && (f && true)))
low true a f = refl
low false true true = refl
low false true false = refl
low false false f = refl

middle : (o x f u : Bool) → ((o || false) || (x && (false && not u))) ≡ (o || (x && (f && false)))
middle true x f u = refl
middle false true true u = refl
middle false true false u = refl
middle false false f u = refl

high : (o x u : Bool) → ((o || false) || (x && (true && not u))) ≡ (o || (x && (true && not u)))
high true x u = refl
high false x u = refl

-- the first span of b is passed
pub parting_second : (x y out new : List Interval) (s : Interval) (ss : List Interval) (t : Interval) (ts : List Interval) (from : ℕ) → t.hi < s.hi → AddedBy (max from s.lo) (min s.hi t.lo) out new → Parting x y out (s ∷ ss) (t ∷ ts) from → Parting x y new (s ∷ ss) ts t.hi
parting_second x y out new s ss t ts from lt how m =
    let d : Added (max from s.lo) (min s.hi t.lo) out new = added (max from s.lo) (min s.hi t.lo) out new m.canonical m.clear how in
    let ends : from < t.hi = m.ends_b in
    let some : t.lo < t.hi = m.canonical_b.0 in
    record {
      canonical = d.canonical;
      canonical_a = m.canonical_a;
      canonical_b = m.canonical_b.2;
      ends_a = lt;
      ends_b = rest_ends t ts t.hi m.canonical_b (omega arith);
      clear = d.clear (max t.hi s.lo) (omega arith) (omega arith);
      keys = λ k. ap (λ u. u || ((span_has s k || has ss k) && (nat_le t.hi k && not (has ts k)))) (d.keys k) ∙ step k ∙ m.keys k;
    }
  where
    piece : ℕ → Bool
    piece k = span_has (interval (max from s.lo) (min s.hi t.lo)) k

    some : t.lo < t.hi
    some = m.canonical_b.0

    ends : from < t.hi
    ends = m.ends_b

    before : (k : ℕ) → k < t.lo → piece k ≡ (span_has s k && nat_le from k)
    before k below = grind (arith, nat_tests)

    step : (k : ℕ) → ((has out k || piece k) || ((span_has s k || has ss k) && (nat_le t.hi k && not (has ts k)))) ≡ (has out k || ((span_has s k || has ss k) && (nat_le from k && not (span_has t k || has ts k))))
    step k = elim (cases_lt k t.lo) [
      | inl below ↦
          let r : has ss k ≡ false = has_below s.hi k ss m.canonical_a.1 m.canonical_a.2 (omega arith) in
          let u : has ts k ≡ false = has_below t.hi k ts m.canonical_b.1 m.canonical_b.2 (omega arith) in
          let t_no : span_has t k ≡ false = outside_below t k below in
          let f_no : nat_le t.hi k ≡ false = le_no t.hi k (omega arith) in
          (λ i. (has out k || before k below i) || ((span_has s k || r i) && (f_no i && not (u i))))
          ∙ low (has out k) (span_has s k) (nat_le from k)
          ∙ sym (λ i. has out k || ((span_has s k || r i) && (nat_le from k && not (t_no i || u i))))
      | inr from_lo ↦ elim (cases_lt k t.hi) [
        | inl upto ↦
            let none : piece k ≡ false = outside_above (interval (max from s.lo) (min s.hi t.lo)) k (omega arith) in
            (λ i. (has out k || none i) || ((span_has s k || has ss k) && (le_no t.hi k upto i && not (has ts k))))
            ∙ middle (has out k) (span_has s k || has ss k) (nat_le from k) (has ts k)
            ∙ sym (λ i. has out k || ((span_has s k || has ss k) && (nat_le from k && not (inside t k from_lo upto i || has ts k))))
        | inr above ↦
            let none : piece k ≡ false = outside_above (interval (max from s.lo) (min s.hi t.lo)) k (omega arith) in
            (λ i. (has out k || none i) || ((span_has s k || has ss k) && (le_yes t.hi k above i && not (has ts k))))
            ∙ high (has out k) (span_has s k || has ss k) (has ts k)
            ∙ sym (λ i. has out k || ((span_has s k || has ss k) && (le_yes from k (omega arith) i && not (outside_above t k above i || has ts k))))
      ]
    ]

-- a walk begins
pub parting_start : (y out : List Interval) (s : Interval) (ss : List Interval) (t : Interval) (ts : List Interval) (from : ℕ) → IsCanonical (s ∷ ss) → IsCanonical y → EndsBeyond s.lo y → y ≡ t ∷ ts → out ≡ [] → from ≡ s.lo → Parting (s ∷ ss) y out (s ∷ ss) (t ∷ ts) from
parting_start y out s ss t ts from c d ends is none at =
    subst (λ n. Parting (s ∷ ss) y out (s ∷ ss) (t ∷ ts) n) (sym at)
    (subst (λ (o : List Interval). Parting (s ∷ ss) y o (s ∷ ss) (t ∷ ts) s.lo) (sym none)
    (subst (λ (l : List Interval). Parting (s ∷ ss) y [] (s ∷ ss) l s.lo) is (parting_none y y s ss c d ends (λ k le. refl))))

-- the first span of a is passed, and those behind it are left
pub parting_next : (x y out new : List Interval) (s : Interval) (ss left : List Interval) (t : Interval) (ts : List Interval) (from : ℕ) → s.hi ≤ t.hi → AddedBy (max from s.lo) (min s.hi t.lo) out new → ss ≡ left → Parting x y out (s ∷ ss) (t ∷ ts) from → Parting x y new left (t ∷ ts) from
parting_next x y out new s ss left t ts from le how is m =
    subst (λ (l : List Interval). Parting x y new l (t ∷ ts) from) is (parting_first x y out new s ss t ts from le how m)

-- the first span of b is passed
pub parting_other : (x y out new : List Interval) (s : Interval) (ss : List Interval) (t : Interval) (ts left : List Interval) (from upto : ℕ) → t.hi < s.hi → AddedBy (max from s.lo) (min s.hi t.lo) out new → ts ≡ left → upto ≡ t.hi → Parting x y out (s ∷ ss) (t ∷ ts) from → Parting x y new (s ∷ ss) left upto
parting_other x y out new s ss t ts left from upto lt how is at m =
    subst (λ n. Parting x y new (s ∷ ss) left n) (sym at) (subst (λ (l : List Interval). Parting x y new (s ∷ ss) l t.hi) is (parting_second x y out new s ss t ts from lt how m))

-- none is left of a
pub parting_out : (x y out b : List Interval) (from : ℕ) → Parting x y out [] b from → (k : ℕ) → has out k ≡ (has x k && not (has y k))
parting_out x y out b from m k = sym (or-false (has out k)) ∙ m.keys k

-- a list of spans of the keys of x that y lacks
pub record IsApart (x y out : List Interval) : Type 0 where
  pub canonical : IsCanonical out
  pub keys : (k : ℕ) → has out k ≡ (has x k && not (has y k))

-- none is left of one list, and what is left of the first is added
pub parting_done : (x y out a b : List Interval) (from : ℕ) → (a ≡ []) ⊎ (b ≡ []) → Parting x y out a b from → IsApart x y (out ++ cut_first from a)
parting_done x y out [] b from h m = record {
  canonical = subst IsCanonical (sym (append-nil out)) m.canonical;
  keys = λ k. ap (λ l. has l k) (append-nil out) ∙ sym (or-false (has out k)) ∙ m.keys k;
}
parting_done x y out (s ∷ ss) b from (inl e) m = absurd (let bad : ⊥ = cc in bad)
parting_done x y out (s ∷ ss) b from (inr e) m = record {
  canonical = canonical_join out one ss m.canonical m.clear (let ends : from < s.hi = m.ends_a in (omega (arith, m.canonical_a.0), m.canonical_a.1, m.canonical_a.2));
  keys = λ k. has-append out (one ∷ ss) k ∙ ap (λ u. has out k || u) (cut k ∙ ap (λ l. (span_has s k || has ss k) && (nat_le from k && not (has l k))) (sym e)) ∙ m.keys k;
}
  where
    one : Interval
    one = interval (max from s.lo) s.hi

    ends : from < s.hi
    ends = m.ends_a

    cut : (k : ℕ) → (span_has one k || has ss k) ≡ ((span_has s k || has ss k) && (nat_le from k && true))
    cut k = elim (cases_lt k from) [
      | inl early ↦
          let r : has ss k ≡ false = has_below s.hi k ss m.canonical_a.1 m.canonical_a.2 (omega arith) in
          (λ i. outside_below one k (omega arith) i || r i) ∙ sym (ap (λ u. (span_has s k || has ss k) && (u && true)) (le_no from k early) ∙ and-false (span_has s k || has ss k))
      | inr late ↦ ap (λ u. u || has ss k) (same k late) ∙ sym (ap (λ u. (span_has s k || has ss k) && (u && true)) (le_yes from k late) ∙ and-true (span_has s k || has ss k))
    ]
      where
        same : (k : ℕ) → from ≤ k → span_has one k ≡ span_has s k
        same k late = grind (arith, nat_tests)
