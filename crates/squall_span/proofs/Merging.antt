-- The steps of a merge of two lists of spans.
use Rattle.std.proofs.Common.{◌≡◌, ℕ, zero, suc, ◌<◌, ◌≤◌, max, Bool, true, false, List, [], ◌∷◌, ◌++◌, length, get_or, set, refl, sym, ap, subst, ◌∙◌, arith, ◌||◌}
use Rattle.std.specs.Prelude.{Result, Ok, Err, IfOk}
use Rattle.std.proofs.Math.Bool.{or_comm, or-false}
use Rattle.std.proofs.lemmas.Bool.Decides.{nat_tests}
use Rattle.squall_span.specs.Spans.{Interval, interval, span_has, has, Beyond, IsCanonical, StartsBy, hull, insert_span, union}
use Rattle.squall_span.specs.Sweeps.{StartsNoEarlier}
use Rattle.squall_span.specs.SpanLaws.{canonical-insert, canonical-union, has-insert, has-union, same_lists, insert_cases}

pub insert_after : (s t : Interval) (ts : List Interval) → s.lo < s.hi → t.lo < t.hi → t.hi < s.lo → insert_span s (t ∷ ts) ≡ t ∷ insert_span s ts
insert_after s t ts p q lt = grind (arith, nat_tests)

pub insert_touching : (s t : Interval) (ts : List Interval) → t.lo ≤ s.hi → s.lo ≤ t.hi → insert_span s (t ∷ ts) ≡ insert_span (hull s t) ts
insert_touching s t ts f g = grind (arith, nat_tests)

pub insert_before : (s t : Interval) (ts : List Interval) → s.hi < t.lo → insert_span s (t ∷ ts) ≡ s ∷ t ∷ ts
insert_before s t ts lt = grind (arith, nat_tests)

pub starts_weaker : (g h : ℕ) (ss : List Interval) → g ≤ h → StartsBy g ss → StartsBy h ss
starts_weaker g h [] le b = tt
starts_weaker g h (s ∷ ss) le b = (omega (arith, b.0), starts_weaker g h ss le b.1)

-- if all start by the new one, it joins the last span or comes after it
pub insert_last : (s : Interval) (xs : List Interval) (n : ℕ) (d : Interval) → length xs ≡ suc n → IsCanonical xs → s.lo < s.hi → StartsBy s.lo xs → s.lo ≤ (get_or xs n d).hi → insert_span s xs ≡ set xs n (interval (get_or xs n d).lo (max (get_or xs n d).hi s.hi))
insert_last s [] n d e c p h touching = absurd (omega arith)
insert_last s (t ∷ []) zero d e c p h touching = insert_touching s t [] (omega (arith, h.0)) touching ∙ (λ i. interval (lo i) (hi i) ∷ [])
  where
    lo : (hull s t).lo ≡ t.lo
    lo = omega (arith, h.0)

    hi : (hull s t).hi ≡ max t.hi s.hi
    hi = omega arith
insert_last s (t ∷ []) (suc n) d e c p h touching = absurd (omega arith)
insert_last s (t ∷ u ∷ us) zero d e c p h touching = absurd (omega arith)
insert_last s (t ∷ u ∷ us) (suc n) d e c p h touching = insert_after s t (u ∷ us) p c.0 (omega (arith, c.1, h.1.0)) ∙ ap (λ l. t ∷ l) (insert_last s (u ∷ us) n d (omega arith) c.2 p h.1 touching)

pub insert_end : (s : Interval) (xs : List Interval) → IsCanonical xs → s.lo < s.hi → StartsBy s.lo xs → ((n : ℕ) (d : Interval) → length xs ≡ suc n → (get_or xs n d).hi < s.lo) → insert_span s xs ≡ xs ++ (s ∷ [])
insert_end s [] c p h after = refl
insert_end s (t ∷ []) c p h after = insert_after s t [] p c.0 (after 0 t refl)
insert_end s (t ∷ u ∷ us) c p h after = insert_after s t (u ∷ us) p c.0 (omega (arith, c.1, h.1.0)) ∙ ap (λ l. t ∷ l) (insert_end s (u ∷ us) c.2 p h.1 (λ n d e. after (suc n) d (omega arith)))

pub starts_insert : (h : ℕ) (s : Interval) (xs : List Interval) → s.lo ≤ h → StartsBy h xs → StartsBy h (insert_span s xs)
starts_insert h s [] le b = (le, tt)
starts_insert h s (t ∷ ts) le b = insert_cases (StartsBy h) s t ts (λ _. (le, b)) (λ _ _. (b.0, starts_insert h s ts le b.1)) (λ _ _. starts_insert h (hull s t) ts (omega arith) b.1)

-- the spans start by the first of a list
abbrev pub StartsByFirst : List Interval → List Interval → Type 0
StartsByFirst [] out = Unit {0}
StartsByFirst (s ∷ ss) out = StartsBy s.lo out

-- what is done of a merge of x and y, with a and b still to come
pub record Merging (x y out a b : List Interval) : Type 0 where
  pub canonical : IsCanonical out
  pub canonical_a : IsCanonical a
  pub canonical_b : IsCanonical b
  pub keys : (k : ℕ) → (has out k || (has a k || has b k)) ≡ (has x k || has y k)
  pub starts_a : StartsByFirst a out
  pub starts_b : StartsByFirst b out

starts_by_none : (xs : List Interval) → StartsByFirst xs []
starts_by_none [] = tt
starts_by_none (x ∷ xs) = tt

pub merging_none : (x y : List Interval) → IsCanonical x → IsCanonical y → Merging x y [] x y
merging_none x y c d = record {
  canonical = tt;
  canonical_a = c;
  canonical_b = d;
  keys = λ k. refl;
  starts_a = starts_by_none x;
  starts_b = starts_by_none y;
}

merging_swap : (x y out a b : List Interval) → Merging x y out a b → Merging y x out b a
merging_swap x y out a b m = record {
  canonical = m.canonical;
  canonical_a = m.canonical_b;
  canonical_b = m.canonical_a;
  keys = λ k. ap (λ t. has out k || t) (or_comm (has b k) (has a k)) ∙ m.keys k ∙ or_comm (has x k) (has y k);
  starts_a = m.starts_b;
  starts_b = m.starts_a;
}

shuffle : (x o r q : Bool) → ((x || o) || (r || q)) ≡ (o || ((x || r) || q))
shuffle true true r q = refl
shuffle true false r q = refl
shuffle false o r q = refl

starts_after : (s : Interval) (xs out : List Interval) → Beyond s.hi xs → s.lo < s.hi → StartsBy s.lo out → StartsByFirst xs (insert_span s out)
starts_after s [] out b p h = tt
starts_after s (t ∷ ts) out b p h = starts_insert t.lo s out (omega (arith, b)) (starts_weaker s.lo t.lo out (omega (arith, b)) h)

starts_beside : (s : Interval) (ys out : List Interval) → StartsNoEarlier s ys → StartsByFirst ys out → StartsByFirst ys (insert_span s out)
starts_beside s [] out e h = tt
starts_beside s (t ∷ ts) out e h = starts_insert t.lo s out e h

merging_first : (x y out xs b : List Interval) (s : Interval) → StartsNoEarlier s b → Merging x y out (s ∷ xs) b → Merging x y (insert_span s out) xs b
merging_first x y out xs b s e m = record {
  canonical = canonical-insert s out m.canonical_a.0 m.canonical;
  canonical_a = m.canonical_a.2;
  canonical_b = m.canonical_b;
  keys = λ k. ap (λ h. h || (has xs k || has b k)) (has-insert s out k m.canonical_a.0 m.canonical) ∙ shuffle (span_has s k) (has out k) (has xs k) (has b k) ∙ m.keys k;
  starts_a = starts_after s xs out m.canonical_a.1 m.canonical_a.0 m.starts_a;
  starts_b = starts_beside s b out e m.starts_b;
}

-- the first span of a is taken, and those behind it are left
pub merging_left : (x y out new xs left ys : List Interval) (s t : Interval) → s.lo ≤ t.lo → new ≡ insert_span s out → xs ≡ left → Merging x y out (s ∷ xs) (t ∷ ys) → Merging x y new left (t ∷ ys)
merging_left x y out new xs left ys s t le e is m =
    subst (λ l. Merging x y new l (t ∷ ys)) is (subst (λ o. Merging x y o xs (t ∷ ys)) (sym e) (merging_first x y out xs (t ∷ ys) s le m))

-- the first span of b is taken
pub merging_right : (x y out new xs ys left : List Interval) (s t : Interval) → t.lo ≤ s.lo → new ≡ insert_span t out → ys ≡ left → Merging x y out (s ∷ xs) (t ∷ ys) → Merging x y new (s ∷ xs) left
merging_right x y out new xs ys left s t le e is m =
    merging_swap y x new left (s ∷ xs) (merging_left y x out new ys left xs t s le e is (merging_swap x y out (s ∷ xs) (t ∷ ys) m))

-- none is left of a
pub merging_none_left : (x y out b made : List Interval) → IsCanonical x → IsCanonical y → made ≡ union out b → Merging x y out [] b → made ≡ union x y
merging_none_left x y out b made c d is m =
    is ∙ same_lists (union out b) (union x y) (canonical-union out b m.canonical m.canonical_b) (canonical-union x y c d)
    (λ k. has-union out b k m.canonical m.canonical_b ∙ m.keys k ∙ sym (has-union x y k c d))

-- none is left of b
pub merging_none_right : (x y out a made : List Interval) → IsCanonical x → IsCanonical y → made ≡ union out a → Merging x y out a [] → made ≡ union x y
merging_none_right x y out a made c d is m =
    is ∙ same_lists (union out a) (union x y) (canonical-union out a m.canonical m.canonical_a) (canonical-union x y c d)
    (λ k. has-union out a k m.canonical m.canonical_a ∙ ap (λ u. has out k || u) (sym (or-false (has a k))) ∙ m.keys k ∙ sym (has-union x y k c d))

-- spans are added behind those that are there: the first one
pub merging_pushed : (old new rest : List Interval) (s : Interval) → IsCanonical old → StartsBy s.lo old → IsCanonical (s ∷ rest) → new ≡ insert_span s old → Merging old (s ∷ rest) new rest []
merging_pushed old new rest s c b d e =
    subst (λ o. Merging old (s ∷ rest) o rest []) (sym e)
    (merging_first old (s ∷ rest) old rest [] s tt
    (record {
      canonical = c;
      canonical_a = d;
      canonical_b = tt;
      keys = λ k. ap (λ u. has old k || u) (or-false (has (s ∷ rest) k));
      starts_a = b;
      starts_b = tt;
    }))

-- and the next one
pub merging_next : (x y out new it rest : List Interval) (s : Interval) → it ≡ s ∷ rest → new ≡ insert_span s out → Merging x y out it [] → Merging x y new rest []
merging_next x y out new it rest s is e m =
    subst (λ o. Merging x y o rest []) (sym e) (merging_first x y out rest [] s tt (subst (λ l. Merging x y out l []) is m))

pub merging_starts : (x y out it rest : List Interval) (s : Interval) → it ≡ s ∷ rest → Merging x y out it [] → StartsBy s.lo out
merging_starts x y out it rest s is m = subst (λ l. StartsByFirst l out) is m.starts_a

-- all were added
pub merging_done : (x y out it : List Interval) → IsCanonical x → IsCanonical y → it ≡ [] → Merging x y out it [] → out ≡ union x y
merging_done x y out it c d is m = merging_none_left x y out [] out c d refl (subst (λ l. Merging x y out l []) is m)

-- the union of no keys and others
none_first : (ys : List Interval) → IsCanonical ys → ys ≡ union [] ys
none_first ys c = sym (same_lists (union [] ys) ys (canonical-union [] ys tt c) c (λ k. has-union [] ys k tt c))

pub union_none : {V E : Type 0} (items : V → List Interval) (none ys : List Interval) (r : Result V E) → none ≡ [] → IsCanonical ys → IfOk r (λ v. items v ≡ ys) → IfOk r (λ v. items v ≡ union none ys)
union_none items none ys (Ok v) is c e = e ∙ none_first ys c ∙ ap (λ l. union l ys) (sym is)
union_none items none ys (Err v) is c e = tt
