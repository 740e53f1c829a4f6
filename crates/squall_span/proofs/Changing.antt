-- Edits of spans that are entries by rising end.
use Rattle.std.proofs.Common.{◌≡◌, ℕ, zero, suc, ◌+◌, ◌-◌, ◌<◌, ◌≤◌, max, min, List, [], ◌∷◌, ◌++◌, length, get_or, take, Option, None, Some, true, false, cond, nat_lt, nat_le, refl, sym, ap, subst, ◌∙◌, arith, add-one, inl, inr, option_to_list}
use Rattle.std.specs.Prelude.{slice_get, Bool, ◌↔◌, IsTrue, option_map, Result, Ok, Err, OnOk, OnErr}
use Rattle.squall_key.specs.Keys.{top}
use Rattle.std.proofs.lemmas.Bool.{cases_lt}
use Rattle.std.proofs.lemmas.Bool.Decides.{nat_tests}
use Rattle.std.proofs.lemmas.List.{append_assoc, append-nil}
use Rattle.std.proofs.lemmas.Option.{same_Some}
use Rattle.squall_blocks.specs.Entries.{RiseFrom, last_from, beyond, up_to, replaced}
use Rattle.squall_blocks.specs.EntriesLaws.{beyond_first, beyond_next, up_to_first, up_to_next}
use Rattle.squall_span.specs.Spans.{Interval, interval, Beyond, IsCanonical, IsSet, first_span, hull, insert_span, spans_beyond, span_at, spans_between, keys_below, keys_from, without_span}
use Rattle.squall_span.specs.Many.{spans_of, entries_of, start_with, end_with, head_below, tail_from, cut_start, cut_end}
use Rattle.squall_span.specs.SpanLaws.{set-insert}
use Rattle.squall_span.proofs.Removing.{set_without}
use Rattle.squall_span.proofs.Merging.{insert_after, insert_touching, insert_before}

pub spans_append : (xs ys : List (ℕ × ℕ)) → spans_of (xs ++ ys) ≡ spans_of xs ++ spans_of ys
spans_append [] ys = refl
spans_append (x ∷ xs) ys = ap (λ l. interval x.1 x.0 ∷ l) (spans_append xs ys)

-- all start beyond a bound
pub all_beyond : (h k : ℕ) (es : List (ℕ × ℕ)) → Beyond h (spans_of es) → IsCanonical (spans_of es) → k ≤ h → beyond k es ≡ es
all_beyond h k [] b c le = refl
all_beyond h k (e ∷ es) b c le = beyond_first k e es (omega (arith, b, c.0))

pub none_before : (h k : ℕ) (es : List (ℕ × ℕ)) → Beyond h (spans_of es) → IsCanonical (spans_of es) → k ≤ h → up_to k es ≡ []
none_before h k [] b c le = refl
none_before h k (e ∷ es) b c le = up_to_first k e es (omega (arith, b, c.0))

-- the first that ends beyond a bound does so
pub first_past : (k : ℕ) (es : List (ℕ × ℕ)) (e : ℕ × ℕ) → slice_get (beyond k es) 0 ≡ Some e → k < e.0
first_past k [] e is = absurd cc
first_past k (d ∷ es) e is = elim (cases_lt k d.0) [
  | inl lt ↦
      let same : d ≡ e = (let got : slice_get (d ∷ es) 0 ≡ Some e = ap (λ l. slice_get l 0) (sym (beyond_first k d es lt)) ∙ is in cc) in
      subst (λ (x : ℕ × ℕ). k < x.0) same lt
  | inr ge ↦ first_past k es e (ap (λ l. slice_get l 0) (sym (beyond_next k d es ge)) ∙ is)
]

end_some : (s : Interval) (e : ℕ × ℕ) → e.1 ≤ s.hi → end_with s (Some e) ≡ e.0
end_some s e le = let t : nat_le e.1 s.hi ≡ true = grind (arith, nat_tests) in ap (λ b. cond b e.0 s.hi) t

end_none : (s : Interval) (e : ℕ × ℕ) → s.hi < e.1 → end_with s (Some e) ≡ s.hi
end_none s e lt = let t : nat_le e.1 s.hi ≡ false = grind (arith, nat_tests) in ap (λ b. cond b e.0 s.hi) t

-- the end of all lies at that of the span or beyond it
pub end_from : (s : Interval) (es : List (ℕ × ℕ)) → s.hi ≤ end_with s (slice_get (beyond s.hi es) 0)
end_from s es = elim (slice_get (beyond s.hi es) 0) as (λ o. slice_get (beyond s.hi es) 0 ≡ o → s.hi ≤ end_with s o) [
  | None ↦ λ is. omega arith
  | Some e ↦ λ is. (let past = first_past s.hi es e is in elim (cases_lt s.hi e.1) [
    | inl lt ↦ omega (arith, end_none s e lt)
    | inr le ↦ omega (arith, end_some s e le, past)
  ])
] refl

-- spans, one more, and others
abbrev pub with_one : List (ℕ × ℕ) → ℕ → ℕ → List (ℕ × ℕ) → List Interval
with_one u lo hi b = spans_of u ++ (interval lo hi ∷ spans_of b)

alone : (s : Interval) (ts : List Interval) → Beyond s.hi ts → insert_span s ts ≡ s ∷ ts
alone s [] b = refl
alone s (t ∷ ts) b = insert_before s t ts b

first_above : (h : ℕ) (es : List (ℕ × ℕ)) (s : Interval) → Beyond h (spans_of es) → s.lo ≤ h → start_with s (slice_get es 0) ≡ s.lo
first_above h [] s b le = refl
first_above h (e ∷ es) s b le = omega (arith, b)

-- the spans with one span more, as its ends are found
abbrev pub joined : Interval → List (ℕ × ℕ) → List Interval
joined s es = with_one (up_to (s.lo - 1) es) (start_with s (slice_get (beyond (s.lo - 1) es) 0)) (end_with s (slice_get (beyond s.hi es) 0)) (beyond (end_with s (slice_get (beyond s.hi es) 0)) es)

joined_before : (s : Interval) (e : ℕ × ℕ) (es : List (ℕ × ℕ)) → s.lo < s.hi → e.1 < e.0 → s.hi < e.1 → joined s (e ∷ es) ≡ insert_span s (spans_of (e ∷ es))
joined_before s e es p q lt =
    let u : up_to (s.lo - 1) (e ∷ es) ≡ [] = up_to_first (s.lo - 1) e es (omega arith) in
    let m : min e.1 s.lo ≡ s.lo = omega arith in
    let lo : start_with s (slice_get (beyond (s.lo - 1) (e ∷ es)) 0) ≡ s.lo = ap (λ l. start_with s (slice_get l 0)) (beyond_first (s.lo - 1) e es (omega arith)) ∙ m in
    let first : beyond s.hi (e ∷ es) ≡ e ∷ es = beyond_first s.hi e es (omega arith) in
    let hi : end_with s (slice_get (beyond s.hi (e ∷ es)) 0) ≡ s.hi = ap (λ l. end_with s (slice_get l 0)) first ∙ end_none s e lt in
    let b : beyond (end_with s (slice_get (beyond s.hi (e ∷ es)) 0)) (e ∷ es) ≡ e ∷ es = ap (λ k. beyond k (e ∷ es)) hi ∙ first in
    (λ i. with_one (u i) (lo i) (hi i) (b i)) ∙ sym (insert_before s (interval e.1 e.0) (spans_of es) lt)

joined_after : (s : Interval) (e : ℕ × ℕ) (es : List (ℕ × ℕ)) → s.lo < s.hi → e.1 < e.0 → e.0 < s.lo → joined s es ≡ insert_span s (spans_of es) → joined s (e ∷ es) ≡ insert_span s (spans_of (e ∷ es))
joined_after s e es p q lt rest =
    let u : up_to (s.lo - 1) (e ∷ es) ≡ e ∷ up_to (s.lo - 1) es = up_to_next (s.lo - 1) e es (omega arith) in
    let lo = ap (λ l. start_with s (slice_get l 0)) (beyond_next (s.lo - 1) e es (omega arith)) in
    let hi = ap (λ l. end_with s (slice_get l 0)) (beyond_next s.hi e es (omega arith)) in
    let b = ap (λ k. beyond k (e ∷ es)) hi ∙ beyond_next (end_with s (slice_get (beyond s.hi es) 0)) e es (omega (arith, end_from s es)) in
    (λ i. with_one (u i) (lo i) (hi i) (b i)) ∙ ap (λ l. interval e.1 e.0 ∷ l) rest ∙ sym (insert_after s (interval e.1 e.0) (spans_of es) p q lt)

-- where the first of those that touch it lies, and the low end
low_end : (s : Interval) (e : ℕ × ℕ) (es : List (ℕ × ℕ)) → e.1 < e.0 → s.lo ≤ e.0 → start_with s (slice_get (beyond (s.lo - 1) (e ∷ es)) 0) ≡ (hull s (interval e.1 e.0)).lo
low_end s e es q touch =
    let m : min e.1 s.lo ≡ min s.lo e.1 = omega arith in
    ap (λ l. start_with s (slice_get l 0)) (beyond_first (s.lo - 1) e es (omega arith)) ∙ m

joined_high : (s : Interval) (e : ℕ × ℕ) (es : List (ℕ × ℕ)) → IsCanonical (spans_of (e ∷ es)) → e.1 ≤ s.hi → s.lo ≤ e.0 → s.hi < e.0 → joined s (e ∷ es) ≡ insert_span s (spans_of (e ∷ es))
joined_high s e es c f g lt =
    let h : Interval = hull s (interval e.1 e.0) in
    let u : up_to (s.lo - 1) (e ∷ es) ≡ [] = up_to_first (s.lo - 1) e es (omega (arith, c.0)) in
    let lo = low_end s e es c.0 g in
    let top : h.hi ≡ e.0 = omega arith in
    let hi : end_with s (slice_get (beyond s.hi (e ∷ es)) 0) ≡ e.0 = ap (λ l. end_with s (slice_get l 0)) (beyond_first s.hi e es lt) ∙ end_some s e f in
    let b : beyond (end_with s (slice_get (beyond s.hi (e ∷ es)) 0)) (e ∷ es) ≡ es = ap (λ k. beyond k (e ∷ es)) hi ∙ beyond_next e.0 e es (omega arith) ∙ all_beyond e.0 e.0 es c.1 c.2 (omega arith) in
    (λ i. with_one (u i) (lo i) ((hi ∙ sym top) i) (b i))
    ∙ sym (alone h (spans_of es) (subst (λ k. Beyond k (spans_of es)) (sym top) c.1))
    ∙ sym (insert_touching s (interval e.1 e.0) (spans_of es) f g)

same_end : (s h : Interval) (es : List (ℕ × ℕ)) → h.hi ≡ s.hi → end_with s (slice_get (beyond s.hi es) 0) ≡ end_with h (slice_get (beyond h.hi es) 0)
same_end s h es top = at (slice_get (beyond s.hi es) 0) ∙ ap (λ k. end_with h (slice_get (beyond k es) 0)) (sym top)
  where
    at : (o : Option (ℕ × ℕ)) → end_with s o ≡ end_with h o
    at None = sym top
    at (Some d) = ap (λ k. cond (nat_le d.1 k) d.0 k) (sym top)

joined_low : (s : Interval) (e : ℕ × ℕ) (es : List (ℕ × ℕ)) → IsCanonical (spans_of (e ∷ es)) → e.1 ≤ s.hi → s.lo ≤ e.0 → e.0 ≤ s.hi → joined (hull s (interval e.1 e.0)) es ≡ insert_span (hull s (interval e.1 e.0)) (spans_of es) → joined s (e ∷ es) ≡ insert_span s (spans_of (e ∷ es))
joined_low s e es c f g ge rest =
    let h : Interval = hull s (interval e.1 e.0) in
    let u : up_to (s.lo - 1) (e ∷ es) ≡ [] = up_to_first (s.lo - 1) e es (omega (arith, c.0)) in
    let lo = low_end s e es c.0 g in
    let top : h.hi ≡ s.hi = omega arith in
    let hi : end_with s (slice_get (beyond s.hi (e ∷ es)) 0) ≡ end_with h (slice_get (beyond h.hi es) 0) =
    ap (λ l. end_with s (slice_get l 0)) (beyond_next s.hi e es ge) ∙ same_end s h es top in
    let far = end_from h es in
    let b : beyond (end_with s (slice_get (beyond s.hi (e ∷ es)) 0)) (e ∷ es) ≡ beyond (end_with h (slice_get (beyond h.hi es) 0)) es =
    ap (λ k. beyond k (e ∷ es)) hi ∙ beyond_next (end_with h (slice_get (beyond h.hi es) 0)) e es (omega (arith, far, top)) in
    let u2 : up_to (h.lo - 1) es ≡ [] = none_before e.0 (h.lo - 1) es c.1 c.2 (omega arith) in
    let lo2 : start_with h (slice_get (beyond (h.lo - 1) es) 0) ≡ h.lo =
    ap (λ l. start_with h (slice_get l 0)) (all_beyond e.0 (h.lo - 1) es c.1 c.2 (omega arith)) ∙ first_above e.0 es h c.1 (omega arith) in
    (λ i. with_one ((u ∙ sym u2) i) ((lo ∙ sym lo2) i) (hi i) (b i)) ∙ rest ∙ sym (insert_touching s (interval e.1 e.0) (spans_of es) f g)

-- one span in place of those that the new one overlaps or touches
pub joined_is : (s : Interval) (es : List (ℕ × ℕ)) → s.lo < s.hi → IsCanonical (spans_of es) → joined s es ≡ insert_span s (spans_of es)
joined_is s [] p c = refl
joined_is s (e ∷ es) p c = elim (cases_lt s.hi e.1) [
  | inl before ↦ joined_before s e es p c.0 before
  | inr f ↦ elim (cases_lt e.0 s.lo) [
    | inl after ↦ joined_after s e es p c.0 after (joined_is s es p c.2)
    | inr g ↦ elim (cases_lt s.hi e.0) [
      | inl high ↦ joined_high s e es c f g high
      | inr low ↦ joined_low s e es c f g low (joined_is (hull s (interval e.1 e.0)) es (omega (arith, c.0)) c.2)
    ]
  ]
]

-- the same of entries that replace others
pub inserted_is : (s : Interval) (es fresh : List (ℕ × ℕ)) (from lo to : ℕ) → s.lo < s.hi → IsCanonical (spans_of es) → from ≡ s.lo - 1 → lo ≡ start_with s (slice_get (beyond from es) 0) → to ≡ end_with s (slice_get (beyond s.hi es) 0)
    → fresh ≡ (to, lo) ∷ [] → spans_of (replaced from to fresh es) ≡ insert_span s (spans_of es)
inserted_is s es fresh from lo to p c f l t is =
    let low : lo ≡ start_with s (slice_get (beyond (s.lo - 1) es) 0) = l ∙ ap (λ k. start_with s (slice_get (beyond k es) 0)) f in
    ap (λ x. spans_of (replaced from to x es)) is
    ∙ spans_append (up_to from es) ((to, lo) ∷ beyond to es)
    ∙ (λ i. with_one (up_to (f i) es) (low i) (t i) (beyond (t i) es))
    ∙ joined_is s es p c

-- ---- entries of spans

entries_next : (ss : List Interval) (i : ℕ) (s : Interval) → i < length ss → s ≡ get_or ss i s → entries_of (take i ss) ++ (s.hi, s.lo) ∷ [] ≡ entries_of (take (suc i) ss)
entries_next [] i s lt is = absurd (omega arith)
entries_next (t ∷ ts) zero s lt is = λ j. ((is j).hi, (is j).lo) ∷ []
entries_next (t ∷ ts) (suc i) s lt is = ap (λ l. (t.hi, t.lo) ∷ l) (entries_next ts i s (omega arith) is)

pub entries_more : (ss : List Interval) (es now : List (ℕ × ℕ)) (i hi lo : ℕ) (s : Interval) → i < length ss → s ≡ get_or ss i s → hi ≡ s.hi → lo ≡ s.lo → es ≡ entries_of (take i ss) → now ≡ es ++ (hi, lo) ∷ [] → now ≡ entries_of (take (i + 1) ss)
entries_more ss es now i hi lo s lt is h l was new =
    rw add-one (new ∙ (λ j. was j ++ (h j, l j) ∷ []) ∙ entries_next ss i s lt is)

pub spans_entries : (ss : List Interval) → spans_of (entries_of ss) ≡ ss
spans_entries [] = refl
spans_entries (s ∷ ss) = ap (λ l. s ∷ l) (spans_entries ss)

pub entries_length : (es : List (ℕ × ℕ)) → length (spans_of es) ≡ length es
entries_length [] = refl
entries_length (e ∷ es) = ap suc (entries_length es)

pub entries_rise : (h : ℕ) (ss : List Interval) → IsCanonical ss → Beyond h ss → RiseFrom h (entries_of ss)
entries_rise h [] c b = tt
entries_rise h (s ∷ ss) c b = (omega (arith, b, c.0), entries_rise s.hi ss c.2 c.1)

pub set_rises : (ss : List Interval) → IsCanonical ss → RiseFrom 0 (entries_of ss)
set_rises [] c = tt
set_rises (s ∷ ss) c = (omega (arith, c.0), entries_rise s.hi ss c.2 c.1)

-- the spans beyond a bound are those of the entries beyond it
pub spans_beyond_is : (k : ℕ) (es : List (ℕ × ℕ)) → spans_of (beyond k es) ≡ spans_beyond k (spans_of es)
spans_beyond_is k [] = refl
spans_beyond_is k (e ∷ es) = elim (nat_lt k e.0) as (λ b. spans_of (cond b (e ∷ es) (beyond k es)) ≡ cond b (interval e.1 e.0 ∷ spans_of es) (spans_beyond k (spans_of es))) [
  | true ↦ refl
  | false ↦ spans_beyond_is k es
]

pub start_by : (s : Interval) (o : Option (ℕ × ℕ)) → start_with s o ≤ s.lo
start_by s None = omega arith
start_by s (Some e) = omega arith

-- ---- what is left of spans when the keys of one go

none_below : (b h : ℕ) (ss : List Interval) → Beyond h ss → IsCanonical ss → b ≤ h → keys_below b ss ≡ []
none_below b h [] far c le = refl
none_below b h (s ∷ ss) far c le =
    let m : min s.hi b ≡ b = omega (arith, c.0, far) in
    let e : nat_lt s.lo b ≡ false = grind (arith, nat_tests) in
    ap (λ n. spans_between s.lo n ++ keys_below b ss) m ∙ ap (λ t. cond t (interval s.lo b ∷ []) [] ++ keys_below b ss) e ∙ none_below b s.hi ss c.1 c.2 (omega (arith, c.0, far))

all_from : (b h : ℕ) (ss : List Interval) → Beyond h ss → IsCanonical ss → b ≤ h → keys_from b ss ≡ ss
all_from b h [] far c le = refl
all_from b h (s ∷ ss) far c le =
    let m : max s.lo b ≡ s.lo = omega (arith, far) in
    let e : nat_lt s.lo s.hi ≡ true = grind (arith, nat_tests, c.0) in
    ap (λ n. spans_between n s.hi ++ keys_from b ss) m ∙ ap (λ t. cond t (interval s.lo s.hi ∷ []) [] ++ keys_from b ss) e ∙ ap (λ l. s ∷ l) (all_from b s.hi ss c.1 c.2 (omega (arith, c.0, far)))

between_is : (lo hi : ℕ) → option_to_list (span_at lo hi) ≡ spans_between lo hi
between_is lo hi = elim (nat_lt lo hi) as (λ b. option_to_list (cond b (Some (interval lo hi)) None) ≡ cond b (interval lo hi ∷ []) []) [ true ↦ refl | false ↦ refl ]

between_some : (lo hi : ℕ) → lo < hi → spans_between lo hi ≡ interval lo hi ∷ []
between_some lo hi lt = let e : nat_lt lo hi ≡ true = grind (arith, nat_tests) in ap (λ t. cond t (interval lo hi ∷ []) []) e

between_none : (lo hi : ℕ) → hi ≤ lo → spans_between lo hi ≡ []
between_none lo hi le = let e : nat_lt lo hi ≡ false = grind (arith, nat_tests) in ap (λ t. cond t (interval lo hi ∷ []) []) e

-- the spans that end by a bound, and what is left of the next one
pub below_is : (b : ℕ) (es : List (ℕ × ℕ)) → IsCanonical (spans_of es) → spans_of (up_to b es) ++ option_to_list (head_below b (slice_get (beyond b es) 0)) ≡ keys_below b (spans_of es)
below_is b [] c = refl
below_is b (e ∷ es) c = elim (cases_lt b e.0) [
  | inl lt ↦
      let m : min e.0 b ≡ b = omega arith in
      (λ i. spans_of (up_to_first b e es lt i) ++ option_to_list (head_below b (slice_get (beyond_first b e es lt i) 0)))
      ∙ between_is e.1 b ∙ sym (append-nil (spans_between e.1 b))
      ∙ (λ i. spans_between e.1 (sym m i) ++ sym (none_below b e.0 (spans_of es) c.1 c.2 (omega arith)) i)
  | inr ge ↦
      let m : min e.0 b ≡ e.0 = omega arith in
      (λ i. spans_of (up_to_next b e es ge i) ++ option_to_list (head_below b (slice_get (beyond_next b e es ge i) 0)))
      ∙ ap (λ l. interval e.1 e.0 ∷ l) (below_is b es c.2)
      ∙ ap (λ l. l ++ keys_below b (spans_of es)) (sym (ap (spans_between e.1) m ∙ between_some e.1 e.0 c.0))
]

tail_some : (b : ℕ) (e : ℕ × ℕ) → e.1 < b → b < e.0 → tail_from b (Some e) ≡ Some (interval b e.0)
tail_some b e lt far =
    let t : nat_le b e.1 ≡ false = grind (arith, nat_tests) in
    let u : nat_lt b e.0 ≡ true = grind (arith, nat_tests) in
    ap (λ x. cond x None (span_at b e.0)) t ∙ ap (λ x. cond x (Some (interval b e.0)) None) u

tail_none : (b : ℕ) (e : ℕ × ℕ) → b ≤ e.1 → tail_from b (Some e) ≡ None
tail_none b e le = let t : nat_le b e.1 ≡ true = grind (arith, nat_tests) in ap (λ x. cond x None (span_at b e.0)) t

-- what is cut at a bound ends there or beyond it
pub cut_end_from : (b : ℕ) (es : List (ℕ × ℕ)) → b ≤ cut_end b (tail_from b (slice_get (beyond b es) 0))
cut_end_from b es = elim (slice_get (beyond b es) 0) as (λ o. slice_get (beyond b es) 0 ≡ o → b ≤ cut_end b (tail_from b o)) [
  | None ↦ λ is. omega arith
  | Some e ↦ λ is. (let past = first_past b es e is in elim (cases_lt e.1 b) [
    | inl lt ↦ subst (λ t. b ≤ cut_end b t) (sym (tail_some b e lt past)) (omega (arith, past))
    | inr le ↦ subst (λ t. b ≤ cut_end b t) (sym (tail_none b e le)) (omega arith)
  ])
] refl

-- what a walk from a bound on leaves, of spans and of the one that is cut there
abbrev pub left_from : ℕ → Option Interval → List (ℕ × ℕ) → List Interval
left_from b tail es = option_to_list tail ++ spans_of (beyond (cut_end b tail) es)

pub from_is : (b : ℕ) (es : List (ℕ × ℕ)) → IsCanonical (spans_of es) → left_from b (tail_from b (slice_get (beyond b es) 0)) es ≡ keys_from b (spans_of es)
from_is b [] c = refl
from_is b (e ∷ es) c = elim (cases_lt b e.0) [
  | inl lt ↦ elim (cases_lt e.1 b) [
    | inl cut ↦
        let m : max e.1 b ≡ b = omega arith in
        ap (λ l. left_from b (tail_from b (slice_get l 0)) (e ∷ es)) (beyond_first b e es lt)
        ∙ ap (λ t. left_from b t (e ∷ es)) (tail_some b e cut lt)
        ∙ ap (λ l. interval b e.0 ∷ spans_of l) (beyond_next e.0 e es (omega arith) ∙ all_beyond e.0 e.0 es c.1 c.2 (omega arith))
        ∙ (λ i. sym (ap (λ n. spans_between n e.0) m ∙ between_some b e.0 lt) i ++ sym (all_from b e.0 (spans_of es) c.1 c.2 (omega arith)) i)
    | inr whole ↦
        let m : max e.1 b ≡ e.1 = omega arith in
        ap (λ l. left_from b (tail_from b (slice_get l 0)) (e ∷ es)) (beyond_first b e es lt)
        ∙ ap (λ t. left_from b t (e ∷ es)) (tail_none b e whole)
        ∙ ap spans_of (beyond_first b e es lt)
        ∙ (λ i. sym (ap (λ n. spans_between n e.0) m ∙ between_some e.1 e.0 c.0) i ++ sym (all_from b e.0 (spans_of es) c.1 c.2 (omega arith)) i)
  ]
  | inr ge ↦
      let far = cut_end_from b es in
      ap (λ l. left_from b (tail_from b (slice_get l 0)) (e ∷ es)) (beyond_next b e es ge)
      ∙ ap (λ l. option_to_list (tail_from b (slice_get (beyond b es) 0)) ++ spans_of l) (beyond_next (cut_end b (tail_from b (slice_get (beyond b es) 0))) e es (omega (arith, far)))
      ∙ from_is b es c.2
      ∙ ap (λ l. l ++ keys_from b (spans_of es)) (sym (between_none (max e.1 b) e.0 (omega arith)))
]

first_starts : (h k : ℕ) (es : List (ℕ × ℕ)) (f : ℕ × ℕ) → Beyond h (spans_of es) → IsCanonical (spans_of es) → slice_get (beyond k es) 0 ≡ Some f → h < f.1
first_starts h k [] f b c is = absurd cc
first_starts h k (e ∷ es) f b c is = elim (cases_lt k e.0) [
  | inl lt ↦
      let same : e ≡ f = (let got : slice_get (e ∷ es) 0 ≡ Some f = ap (λ l. slice_get l 0) (sym (beyond_first k e es lt)) ∙ is in cc) in
      subst (λ (x : ℕ × ℕ). h < x.1) same b
  | inr ge ↦ (let next = first_starts e.0 k es f c.1 c.2 (ap (λ l. slice_get l 0) (sym (beyond_next k e es ge)) ∙ is) in omega (arith, next, b, c.0))
]

span_at_some : (lo hi : ℕ) (s : Interval) → span_at lo hi ≡ Some s → lo < hi
span_at_some lo hi s is = elim (cases_lt lo hi) [
  | inl lt ↦ lt
  | inr le ↦ (let e : nat_lt lo hi ≡ false = grind (arith, nat_tests) in let none : span_at lo hi ≡ None = ap (λ t. cond t (Some (interval lo hi)) None) e in absurd cc)
]

head_starts : (b : ℕ) (o : Option (ℕ × ℕ)) (h : Interval) → head_below b o ≡ Some h → (f : ℕ × ℕ) × (o ≡ Some f) × (f.1 < b)
head_starts b None h is = absurd cc
head_starts b (Some f) h is = (f, refl, span_at_some f.1 b h is)

-- no span ends at a bound at which a head is cut
same_front : (b : ℕ) (es : List (ℕ × ℕ)) (h : Interval) → IsCanonical (spans_of es) → head_below b (slice_get (beyond b es) 0) ≡ Some h → up_to (b - 1) es ≡ up_to b es
same_front b [] h c is = refl
same_front b (e ∷ es) h c is = elim (cases_lt b e.0) [
  | inl lt ↦ up_to_first (b - 1) e es (omega arith) ∙ sym (up_to_first b e es lt)
  | inr ge ↦
      let rest : head_below b (slice_get (beyond b es) 0) ≡ Some h = ap (λ l. head_below b (slice_get l 0)) (sym (beyond_next b e es ge)) ∙ is in
      let f = head_starts b (slice_get (beyond b es) 0) h rest in
      let above = first_starts e.0 b es f.0 c.1 c.2 f.1 in
      let below = f.2 in
      up_to_next (b - 1) e es (omega (arith, above, below)) ∙ ap (λ l. e ∷ l) (same_front b es h c.2 rest) ∙ sym (up_to_next b e es ge)
]

pub front_is : (b : ℕ) (es : List (ℕ × ℕ)) (head : Option Interval) → IsCanonical (spans_of es) → head ≡ head_below b (slice_get (beyond b es) 0) → up_to (cut_start b head) es ≡ up_to b es
front_is b es None c is = refl
front_is b es (Some h) c is = same_front b es h c (sym is)

-- entries in place of those of spans whose keys go
pub removed_is : (s : Interval) (es fresh : List (ℕ × ℕ)) (from to : ℕ) (head tail : Option Interval) → IsCanonical (spans_of es) → head ≡ head_below s.lo (slice_get (beyond s.lo es) 0) → tail ≡ tail_from s.hi (slice_get (beyond s.hi es) 0)
    → from ≡ cut_start s.lo head → to ≡ cut_end s.hi tail → fresh ≡ entries_of (option_to_list head ++ option_to_list tail) → spans_of (replaced from to fresh es) ≡ without_span s (spans_of es)
removed_is s es fresh from to head tail c h t f e is =
    let front : up_to from es ≡ up_to s.lo es = ap (λ k. up_to k es) f ∙ front_is s.lo es head c h in
    let middle : spans_of fresh ≡ option_to_list head ++ option_to_list tail = ap spans_of is ∙ spans_entries (option_to_list head ++ option_to_list tail) in
    spans_append (up_to from es) (fresh ++ beyond to es)
    ∙ ap (λ l. spans_of (up_to from es) ++ l) (spans_append fresh (beyond to es))
    ∙ (λ i. spans_of (front i) ++ (middle i ++ spans_of (beyond (e i) es)))
    ∙ ap (λ l. spans_of (up_to s.lo es) ++ l) (append_assoc (option_to_list head) (option_to_list tail) (spans_of (beyond (cut_end s.hi tail) es)))
    ∙ sym (append_assoc (spans_of (up_to s.lo es)) (option_to_list head) (left_from s.hi tail es))
    ∙ (λ i. (spans_of (up_to s.lo es) ++ option_to_list (h i)) ++ left_from s.hi (t i) es)
    ∙ (λ i. below_is s.lo es c i ++ from_is s.hi es c i)

head_ends : (b : ℕ) (o : Option (ℕ × ℕ)) (h : Interval) → head_below b o ≡ Some h → (h.hi ≡ b) × (h.lo < b)
head_ends b None h is = absurd cc
head_ends b (Some f) h is =
    let lt = span_at_some f.1 b h is in
    let e : nat_lt f.1 b ≡ true = grind (arith, nat_tests) in
    let some : span_at f.1 b ≡ Some (interval f.1 b) = ap (λ t. cond t (Some (interval f.1 b)) None) e in
    let same : interval f.1 b ≡ h = same_Some _ _ (sym some ∙ is) in
    (sym (ap (λ (x : Interval). x.hi) same), omega (arith, lt, ap (λ (x : Interval). x.lo) same))

tail_ends : (b : ℕ) (es : List (ℕ × ℕ)) (t : Interval) → tail_from b (slice_get (beyond b es) 0) ≡ Some t → b < t.hi
tail_ends b es t is = elim (slice_get (beyond b es) 0) as (λ o. slice_get (beyond b es) 0 ≡ o → tail_from b o ≡ Some t → b < t.hi) [
  | None ↦ λ got no. absurd cc
  | Some e ↦ λ got some. (let past = first_past b es e got in elim (cases_lt e.1 b) [
    | inl lt ↦ (let same : interval b e.0 ≡ t = same_Some _ _ (sym (tail_some b e lt past) ∙ some) in omega (arith, past, ap (λ (x : Interval). x.hi) same))
    | inr le ↦ (let none = tail_none b e le in absurd cc)
  ])
] refl is

-- the fresh entries rise from one bound up to the other
pub removal_rises : (s : Interval) (es fresh : List (ℕ × ℕ)) (from to : ℕ) (head tail : Option Interval) → s.lo < s.hi → head ≡ head_below s.lo (slice_get (beyond s.lo es) 0) → tail ≡ tail_from s.hi (slice_get (beyond s.hi es) 0)
    → from ≡ cut_start s.lo head → to ≡ cut_end s.hi tail → fresh ≡ entries_of (option_to_list head ++ option_to_list tail) → RiseFrom from fresh × (last_from from fresh ≤ to)
removal_rises s es fresh from to None None p h t f e is = subst (λ l. RiseFrom from l × (last_from from l ≤ to)) (sym is) (tt, omega (arith, f, e))
removal_rises s es fresh from to None (Some u) p h t f e is =
    let past = tail_ends s.hi es u (sym t) in
    subst (λ l. RiseFrom from l × (last_from from l ≤ to)) (sym is) ((omega (arith, f, past), tt), omega (arith, e))
removal_rises s es fresh from to (Some v) None p h t f e is =
    let at = head_ends s.lo (slice_get (beyond s.lo es) 0) v (sym h) in
    subst (λ l. RiseFrom from l × (last_from from l ≤ to)) (sym is) ((omega (arith, f, at.0, at.1), tt), omega (arith, e, at.0))
removal_rises s es fresh from to (Some v) (Some u) p h t f e is =
    let at = head_ends s.lo (slice_get (beyond s.lo es) 0) v (sym h) in
    let past = tail_ends s.hi es u (sym t) in
    subst (λ l. RiseFrom from l × (last_from from l ≤ to)) (sym is) ((omega (arith, f, at.0, at.1), (omega (arith, p, at.0, past), tt)), omega (arith, e))

-- ---- sets of entries

pub none_listed : (es : List (ℕ × ℕ)) (view : List Interval) (b : Bool) → spans_of es ≡ view → IsTrue b ↔ (length es ≡ 0) → IsTrue b ↔ (view ≡ [])
none_listed [] view b is h = (λ yes. sym is, λ e. h.1 refl)
none_listed (e ∷ es) view b is h = (λ yes. absurd (let no = h.0 yes in omega arith), λ none. absurd (let bad : spans_of (e ∷ es) ≡ [] = is ∙ none in cc))

first_of : (es : List (ℕ × ℕ)) (o : Option (ℕ × ℕ)) → slice_get es 0 ≡ o → first_span (spans_of es) ≡ option_map (λ e. interval e.1 e.0) o
first_of [] o is = ap (option_map (λ e. interval e.1 e.0)) is
first_of (e ∷ es) o is = ap (option_map (λ e. interval e.1 e.0)) is

-- the first span beyond a bound is that of the first entry beyond it
pub first_beyond_is : (k : ℕ) (es : List (ℕ × ℕ)) (view : List Interval) (o : Option (ℕ × ℕ)) → spans_of es ≡ view → slice_get (beyond k es) 0 ≡ o → option_map (λ e. interval e.1 e.0) o ≡ first_span (spans_beyond k view)
first_beyond_is k es view o is got = sym (first_of (beyond k es) o got) ∙ ap first_span (spans_beyond_is k es ∙ ap (spans_beyond k) is)

pub beyond_some : (k : ℕ) (es : List (ℕ × ℕ)) (e : ℕ × ℕ) → IsCanonical (spans_of es) → slice_get (beyond k es) 0 ≡ Some e → e.1 < e.0
beyond_some k [] e c is = absurd cc
beyond_some k (d ∷ es) e c is = elim (cases_lt k d.0) [
  | inl lt ↦
      let same : d ≡ e = (let got : slice_get (d ∷ es) 0 ≡ Some e = ap (λ l. slice_get l 0) (sym (beyond_first k d es lt)) ∙ is in cc) in
      subst (λ (x : ℕ × ℕ). x.1 < x.0) same c.0
  | inr ge ↦ beyond_some k es e c.2 (ap (λ l. slice_get l 0) (sym (beyond_next k d es ge)) ∙ is)
]

pub set_inserted : {T E : Type 0} (s : Interval) (old new made : List (ℕ × ℕ)) (r : Result T E) → s.lo < s.hi → s.hi ≤ top → IsSet (spans_of old) → spans_of made ≡ insert_span s (spans_of old) → OnOk r (new ≡ made) → OnErr r (new ≡ old) → IsSet (spans_of new)
set_inserted s old new made (Ok x) p le c is ok err = subst IsSet (sym (ap spans_of ok ∙ is)) (set-insert s (spans_of old) p le c)
set_inserted s old new made (Err e) p le c is ok err = subst (λ l. IsSet (spans_of l)) (sym err) c

pub set_removed : {T E : Type 0} (s : Interval) (old new made : List (ℕ × ℕ)) (r : Result T E) → s.lo < s.hi → s.hi ≤ top → IsSet (spans_of old) → spans_of made ≡ without_span s (spans_of old) → OnOk r (new ≡ made) → OnErr r (new ≡ old) → IsSet (spans_of new)
set_removed s old new made (Ok x) p le c is ok err = subst IsSet (sym (ap spans_of ok ∙ is)) (set_without s (spans_of old) p le c)
set_removed s old new made (Err e) p le c is ok err = subst (λ l. IsSet (spans_of l)) (sym err) c
