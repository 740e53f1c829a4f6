-- Spans that are added behind others, with room between.
use Rattle.std.proofs.Common.{◌≡◌, ℕ, ◌<◌, ◌≤◌, false, List, [], ◌∷◌, ◌++◌, Some, None, sym, ap, subst, ◌∙◌, arith, inl, inr, ◌||◌}
use Rattle.std.specs.Prelude.{◌⊎◌}
use Rattle.std.proofs.Math.Bool.{or-false}
use Rattle.std.proofs.lemmas.Bool.{cases_lt}
use Rattle.std.proofs.lemmas.Bool.Decides.{nat_tests}
use Rattle.std.proofs.lemmas.Option.{same_Some}
use Rattle.squall_span.specs.Spans.{Interval, interval, span_at, span_has, has, IsCanonical}
use Rattle.squall_span.specs.SpanLaws.{has-append}

-- each span ends before h
abbrev pub EndsBefore : ℕ → List Interval → Type 0
EndsBefore h [] = Unit {0}
EndsBefore h (s ∷ ss) = (s.hi < h) × EndsBefore h ss

pub before_weaker : (g h : ℕ) (ss : List Interval) → g ≤ h → EndsBefore g ss → EndsBefore h ss
before_weaker g h [] le b = tt
before_weaker g h (s ∷ ss) le b = (omega (arith, b.0), before_weaker g h ss le b.1)

before_push : (h : ℕ) (ss : List Interval) (t : Interval) → EndsBefore h ss → t.hi < h → EndsBefore h (ss ++ (t ∷ []))
before_push h [] t b lt = (lt, tt)
before_push h (s ∷ ss) t b lt = (b.0, before_push h ss t b.1 lt)

pub canonical_join : (ss : List Interval) (t : Interval) (ts : List Interval) → IsCanonical ss → EndsBefore t.lo ss → IsCanonical (t ∷ ts) → IsCanonical (ss ++ (t ∷ ts))
canonical_join [] t ts c b d = d
canonical_join (s ∷ []) t ts c b d = (c.0, b.0, d)
canonical_join (s ∷ u ∷ us) t ts c b d = (c.0, c.1, canonical_join (u ∷ us) t ts c.2 b.1 d)

-- the keys between two bounds were added, if there are any
pub record Added (lo hi : ℕ) (out new : List Interval) : Type 0 where
  pub canonical : IsCanonical new
  pub clear : (h : ℕ) → hi < h → lo ≤ h → EndsBefore h new
  pub keys : (k : ℕ) → has new k ≡ (has out k || span_has (interval lo hi) k)

-- how they were
abbrev pub AddedBy : ℕ → ℕ → List Interval → List Interval → Type 0
AddedBy lo hi out new = ((lo < hi) × (new ≡ out ++ (interval lo hi ∷ []))) ⊎ ((hi ≤ lo) × (new ≡ out))

span_some : (lo hi : ℕ) → lo < hi → span_at lo hi ≡ Some (interval lo hi)
span_some lo hi lt = grind (arith, nat_tests)

span_none : (lo hi : ℕ) → hi ≤ lo → span_at lo hi ≡ None
span_none lo hi le = grind (arith, nat_tests)

pub added_some : (lo hi : ℕ) (out new : List Interval) (one : Interval) → Some one ≡ span_at lo hi → new ≡ out ++ (one ∷ []) → AddedBy lo hi out new
added_some lo hi out new one e is = elim (cases_lt lo hi) [
  | inl lt ↦ inl (lt, is ∙ ap (λ (u : Interval). out ++ (u ∷ [])) (same_Some _ _ (e ∙ span_some lo hi lt)))
  | inr ge ↦ absurd (let bad : Some one ≡ None = e ∙ span_none lo hi ge in let none : ⊥ = cc in none)
]

pub added_none : (lo hi : ℕ) (out new : List Interval) → None ≡ span_at lo hi → new ≡ out → AddedBy lo hi out new
added_none lo hi out new e is = elim (cases_lt lo hi) [
  | inl lt ↦ absurd (let bad : None ≡ Some (interval lo hi) = e ∙ span_some lo hi lt in let none : ⊥ = cc in none)
  | inr ge ↦ inr (ge, is)
]

pub added : (lo hi : ℕ) (out new : List Interval) → IsCanonical out → EndsBefore lo out → AddedBy lo hi out new → Added lo hi out new
added lo hi out new c b (inl h) =
    let one : Interval = interval lo hi in
    record {
      canonical = subst IsCanonical (sym h.1) (canonical_join out one [] c b (h.0, tt, tt));
      clear = λ k lt le. subst (EndsBefore k) (sym h.1) (before_push k out one (before_weaker lo k out le b) lt);
      keys = λ k. ap (λ l. has l k) h.1 ∙ has-append out (one ∷ []) k ∙ ap (λ u. has out k || u) (or-false (span_has one k));
    }
added lo hi out new c b (inr h) = record {
  canonical = subst IsCanonical (sym h.1) c;
  clear = λ k lt le. subst (EndsBefore k) (sym h.1) (before_weaker lo k out le b);
  keys = λ k. ap (λ l. has l k) h.1 ∙ sym (ap (λ u. has out k || u) (none k) ∙ or-false (has out k));
}
  where
    none : (k : ℕ) → span_has (interval lo hi) k ≡ false
    none k = let le : hi ≤ lo = h.0 in grind (arith, nat_tests)
