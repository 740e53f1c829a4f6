-- The two parts of a set that is cut at a bound.
use Rattle.std.proofs.Common.{◌≡◌, ℕ, zero, suc, ◌+◌, ◌<◌, ◌≤◌, Bool, true, false, List, [], ◌∷◌, ◌++◌, length, get_or, set, take, drop, refl, sym, ap, subst, ◌∙◌, arith, inl, inr, ◌||◌, nat_lt, nat_le}
use Rattle.std.specs.Prelude.{◌&&◌}
use Rattle.std.proofs.Math.Bool.{or_assoc, or-false}
use Rattle.std.proofs.lemmas.Bool.{cases_lt}
use Rattle.std.proofs.lemmas.List.{drop_all, get_or_read}
use Rattle.std.proofs.lemmas.Bool.Decides.{nat_tests}
use Rattle.squall_span.specs.Spans.{Interval, interval, span_has, has, Beyond, IsCanonical, EndsBy, EndsBeyond}
use Rattle.squall_span.specs.SpanLaws.{has_below, has_ended, has-append}
use Rattle.squall_span.specs.Places.{Ended, IsCut}
use Rattle.squall_span.proofs.Places.{ended_same, ended_ends, ended_front, canonical_drop, from_place}
use Rattle.squall_span.proofs.Sweeping.{has_early}

has_parts : (xs : List Interval) (i k : ℕ) → has xs k ≡ (has (take i xs) k || has (drop i xs) k)
has_parts [] zero k = refl
has_parts [] (suc i) k = refl
has_parts (x ∷ xs) zero k = refl
has_parts (x ∷ xs) (suc i) k = ap (λ b. span_has x k || b) (has_parts xs i k) ∙ sym (or_assoc (span_has x k) (has (take i xs) k) (has (drop i xs) k))

-- the list to a place, and from there spans that start where the old ones do
pub canonical_front : (xs : List Interval) (i : ℕ) (ys : List Interval) → IsCanonical xs → IsCanonical ys → ((h : ℕ) → Beyond h (drop i xs) → Beyond h ys) → IsCanonical (take i xs ++ ys)
canonical_front xs zero ys c d far = d
canonical_front [] (suc i) ys c d far = d
canonical_front (x ∷ xs) (suc i) ys c d far = (c.0, beyond x.hi xs i c.1 far, canonical_front xs i ys c.2 d far)
  where
    beyond : (h : ℕ) (us : List Interval) (j : ℕ) → Beyond h us → ((g : ℕ) → Beyond g (drop j us) → Beyond g ys) → Beyond h (take j us ++ ys)
    beyond h us zero b f = f h b
    beyond h [] (suc j) b f = f h b
    beyond h (u ∷ us) (suc j) b f = b

and_true : (a b : Bool) → b ≡ true → (a && b) ≡ a
and_true true b e = e
and_true false b e = refl

and_false : (a b : Bool) → b ≡ false → (a && b) ≡ false
and_false true b e = e
and_false false b e = refl

lt_true : (k b : ℕ) → k < b → nat_lt k b ≡ true
lt_true k b lt = grind (arith, nat_tests)

lt_false : (k b : ℕ) → b ≤ k → nat_lt k b ≡ false
lt_false k b le = grind (arith, nat_tests)

le_true : (k b : ℕ) → b ≤ k → nat_le b k ≡ true
le_true k b le = grind (arith, nat_tests)

le_false : (k b : ℕ) → k < b → nat_le b k ≡ false
le_false k b lt = grind (arith, nat_tests)

-- a list whose keys are those of xs below the bound and none from it on
below_is : (xs ys : List Interval) (bound : ℕ) → ((k : ℕ) → k < bound → has ys k ≡ has xs k) → ((k : ℕ) → bound ≤ k → has ys k ≡ false) → (k : ℕ) → has ys k ≡ (has xs k && nat_lt k bound)
below_is xs ys bound low high k = elim (cases_lt k bound) [
  | inl lt ↦ low k lt ∙ sym (and_true (has xs k) (nat_lt k bound) (lt_true k bound lt))
  | inr ge ↦ high k ge ∙ sym (and_false (has xs k) (nat_lt k bound) (lt_false k bound ge))
]

others_is : (xs ys : List Interval) (bound : ℕ) → ((k : ℕ) → k < bound → has ys k ≡ false) → ((k : ℕ) → bound ≤ k → has ys k ≡ has xs k) → (k : ℕ) → has ys k ≡ (has xs k && nat_le bound k)
others_is xs ys bound low high k = elim (cases_lt k bound) [
  | inl lt ↦ low k lt ∙ sym (and_false (has xs k) (nat_le bound k) (le_false k bound lt))
  | inr ge ↦ high k ge ∙ sym (and_true (has xs k) (nat_le bound k) (le_true k bound ge))
]

canonical_take : (xs : List Interval) (i : ℕ) → IsCanonical xs → IsCanonical (take i xs)
canonical_take xs zero c = tt
canonical_take [] (suc i) c = tt
canonical_take (x ∷ xs) (suc i) c = (c.0, beyond x.hi xs i c.1, canonical_take xs i c.2)
  where
    beyond : (h : ℕ) (us : List Interval) (j : ℕ) → Beyond h us → Beyond h (take j us)
    beyond h us zero b = tt
    beyond h [] (suc j) b = tt
    beyond h (u ∷ us) (suc j) b = b

no_early : (xs : List Interval) (bound k : ℕ) → IsCanonical xs → Beyond k xs → has xs k ≡ false
no_early xs bound k c b = has_below k k xs b c (omega arith)

-- no span crosses the bound
pub cut_between : (xs : List Interval) (bound i : ℕ) → IsCanonical xs → Ended xs bound i → ((k : ℕ) → k < bound → Beyond k (drop i xs)) → IsCut xs bound (take i xs) (drop i xs)
cut_between xs bound i c e far = record {
  below_canonical = canonical_take xs i c;
  others_canonical = canonical_drop xs i c;
  below_keys = below_is xs (take i xs) bound
      (λ k lt. sym (has_parts xs i k ∙ ap (λ b. has (take i xs) k || b) (no_early (drop i xs) bound k (canonical_drop xs i c) (far k lt)) ∙ or-false (has (take i xs) k)))
      (λ k le. has_ended bound k (take i xs) (ended_front xs bound i e) le);
  others_keys = others_is xs (drop i xs) bound
      (λ k lt. no_early (drop i xs) bound k (canonical_drop xs i c) (far k lt))
      (λ k le. sym (ended_same xs bound i k e le));
}

ends_append : (h : ℕ) (xs : List Interval) (y : Interval) → EndsBy h xs → y.hi ≤ h → EndsBy h (xs ++ (y ∷ []))
ends_append h [] y b le = (le, tt)
ends_append h (x ∷ xs) y b le = (b.0, ends_append h xs y b.1 le)

-- a span crosses the bound
pub cut_within : (xs : List Interval) (bound i : ℕ) (x : Interval) (ys : List Interval) → IsCanonical xs → Ended xs bound i → drop i xs ≡ x ∷ ys → x.lo < bound → IsCut xs bound (take i xs ++ (interval x.lo bound ∷ [])) (interval bound x.hi ∷ ys)
cut_within xs bound i x ys c e rest lt =
    let one : IsCanonical (x ∷ ys) = subst IsCanonical rest (canonical_drop xs i c) in
    let ends : bound < x.hi = subst (EndsBeyond bound) rest (ended_ends xs bound i e) in
    let later : IsCanonical (interval bound x.hi ∷ ys) = (ends, one.1, one.2) in
    let none : (k : ℕ) → k < x.hi → has ys k ≡ false = λ k below. has_below x.hi k ys one.1 one.2 (omega arith) in
    record {
      below_canonical = canonical_front xs i (interval x.lo bound ∷ []) c (lt, tt, tt) (λ h b. subst (Beyond h) rest b);
      others_canonical = later;
      below_keys = below_is xs (take i xs ++ (interval x.lo bound ∷ [])) bound
          (λ k below. has-append (take i xs) (interval x.lo bound ∷ []) k ∙ ap (λ b. has (take i xs) k || b) (or-false (span_has (interval x.lo bound) k) ∙ shorter k below ∙ sym (or-false (span_has x k)) ∙ ap (λ b. span_has x k || b) (sym (none k (omega arith)))) ∙ ap (λ l. has (take i xs) k || has l k) (sym rest) ∙ sym (has_parts xs i k))
          (λ k le. has_ended bound k (take i xs ++ (interval x.lo bound ∷ [])) (ends_append bound (take i xs) (interval x.lo bound) (ended_front xs bound i e) (omega arith)) le);
      others_keys = others_is xs (interval bound x.hi ∷ ys) bound
          (λ k below. has_early k (interval bound x.hi) ys later below)
          (λ k le. ap (λ b. b || has ys k) (longer k le) ∙ ap (λ l. has l k) (sym rest) ∙ sym (ended_same xs bound i k e le));
    }
  where
    shorter : (k : ℕ) → k < bound → span_has (interval x.lo bound) k ≡ span_has x k
    shorter k below = ap (λ b. nat_le x.lo k && b) (lt_true k bound below ∙ sym (lt_true k x.hi (omega (arith, subst (EndsBeyond bound) rest (ended_ends xs bound i e)))))

    longer : (k : ℕ) → bound ≤ k → span_has (interval bound x.hi) k ≡ span_has x k
    longer k le = ap (λ b. b && nat_lt k x.hi) (le_true k bound le ∙ sym (le_true k x.lo (omega arith)))

-- what is cut at a place that a search found
beyond_none : (xs : List Interval) (k : ℕ) → xs ≡ [] → Beyond k xs
beyond_none xs k e = subst (Beyond k) (sym e) tt

pub cut_past : (xs : List Interval) (bound i : ℕ) (below others : List Interval) → IsCanonical xs → Ended xs bound i → length xs ≤ i → below ≡ take i xs → others ≡ drop i xs → IsCut xs bound below others
cut_past xs bound i below others c e le p q =
    subst (λ l. IsCut xs bound l others) (sym p) (subst (IsCut xs bound (take i xs)) (sym q) (cut_between xs bound i c e (λ k lt. beyond_none (drop i xs) k (drop_all i xs le))))

pub cut_before : (xs : List Interval) (bound i : ℕ) (below others : List Interval) (x : Interval) → IsCanonical xs → Ended xs bound i → i < length xs → x ≡ get_or xs i x → bound ≤ x.lo → below ≡ take i xs → others ≡ drop i xs → IsCut xs bound below others
cut_before xs bound i below others x c e lt is le p q =
    let rest = from_place xs i x lt is in
    subst (λ l. IsCut xs bound l others) (sym p) (subst (IsCut xs bound (take i xs)) (sym q) (cut_between xs bound i c e (λ k below_bound. subst (Beyond k) (sym rest) (omega arith))))

pub cut_across : (xs : List Interval) (bound i lo hi : ℕ) (below others : List Interval) (x y z u v : Interval) → IsCanonical xs → Ended xs bound i → i < length xs → x ≡ get_or xs i x → y ≡ get_or xs i y → z ≡ get_or xs i z → x.lo < bound → lo ≡ y.lo → hi ≡ z.hi → u ≡ interval lo bound → v ≡ interval bound hi → below ≡ take i xs ++ (u ∷ []) → others ≡ set (drop i xs) 0 v → IsCut xs bound below others
cut_across xs bound i lo hi below others x y z u v c e lt is is_y is_z low lo_is hi_is ui vi p q =
    let rest = from_place xs i x lt is in
    let y_is : y ≡ x = get_or_read xs i y lt is_y x ∙ sym is in
    let z_is : z ≡ x = get_or_read xs i z lt is_z x ∙ sym is in
    let first = ui ∙ ap (λ n. interval n bound) (lo_is ∙ ap (λ (t : Interval). t.lo) y_is) in
    let second = vi ∙ ap (λ n. interval bound n) (hi_is ∙ ap (λ (t : Interval). t.hi) z_is) in
    let others_is : others ≡ interval bound x.hi ∷ drop (i + 1) xs = q ∙ ap (λ l. set l 0 v) rest ∙ ap (λ t. t ∷ drop (i + 1) xs) second in
    let below_is : below ≡ take i xs ++ (interval x.lo bound ∷ []) = p ∙ ap (λ t. take i xs ++ (t ∷ [])) first in
    subst (λ l. IsCut xs bound l others) (sym below_is) (subst (IsCut xs bound (take i xs ++ (interval x.lo bound ∷ []))) (sym others_is) (cut_within xs bound i x (drop (i + 1) xs) c e rest low))
