-- What an insert leaves, at the places that a search found.
use Rattle.std.proofs.Common.{◌≡◌, ℕ, zero, suc, ◌+◌, ◌-◌, ◌<◌, ◌≤◌, max, min, List, [], ◌∷◌, ◌++◌, length, get_or, set, take, drop, refl, sym, ap, subst, ◌∙◌, arith, inl, inr}
use Rattle.std.proofs.lemmas.Bool.{cases_lt}
use Rattle.std.proofs.lemmas.List.{get_or_default, take_more_set, drop-set-lt, append_assoc, take-append-drop}
use Rattle.std.specs.Prelude.{Result, Ok, Err, OnOk, OnErr, ◌||◌}
use Rattle.squall_key.specs.Keys.{top}
use Rattle.squall_span.specs.Spans.{Interval, interval, has, span_has, Beyond, IsCanonical, IsSet, hull, insert_span}
use Rattle.squall_span.specs.SpanLaws.{set-insert, has-insert}
use Rattle.squall_span.specs.Places.{Apart, Started}
use Rattle.squall_span.proofs.Merging.{insert_after, insert_touching, insert_before}
use Rattle.squall_span.proofs.Places.{canonical_at, ends_before, starts_above, starts_rise}

apart_tail : (x : Interval) (xs : List Interval) (bound i : ℕ) → Apart (x ∷ xs) bound (suc i) → Apart xs bound i
apart_tail x xs bound i e = record {
  within = omega (arith, e.within);
  before = λ j d lt. e.before (suc j) d (omega arith);
  from = λ j d le lt. e.from (suc j) d (omega arith) (omega arith);
}

started_tail : (x : Interval) (xs : List Interval) (bound i : ℕ) → Started (x ∷ xs) bound (suc i) → Started xs bound i
started_tail x xs bound i e = record {
  within = omega (arith, e.within);
  before = λ j d lt. e.before (suc j) d (omega arith);
  from = λ j d le lt. e.from (suc j) d (omega arith) (omega arith);
}

-- the place before which all end is no further than the place before which all start
pub places_in_order : (s : Interval) (xs : List Interval) (i j : ℕ) → IsCanonical xs → s.lo < s.hi → Apart xs s.lo i → Started xs s.hi j → i ≤ j
places_in_order s xs i j c p a b = elim (cases_lt j i) [
  | inl lt ↦
      let last = a.before j s lt in
      let beyond = b.from j s (omega arith) (omega (arith, a.within)) in
      let some = canonical_at xs j s c (omega (arith, a.within)) in
      absurd (omega arith)
  | inr ge ↦ ge
]

alone : (s : Interval) (ts : List Interval) → Beyond s.hi ts → insert_span s ts ≡ s ∷ ts
alone s [] b = refl
alone s (t ∷ ts) b = insert_before s t ts b

next_beyond : (s : Interval) (xs : List Interval) → Started xs s.hi 0 → Beyond s.hi xs
next_beyond s [] b = tt
next_beyond s (x ∷ xs) b = b.from 0 x (omega arith) (omega arith)

-- the span goes between its neighbours
pub insert_between : (s : Interval) (xs : List Interval) (i : ℕ) → IsCanonical xs → s.lo < s.hi → Apart xs s.lo i → Started xs s.hi i → take i xs ++ (s ∷ drop i xs) ≡ insert_span s xs
insert_between s xs zero c p a b = sym (alone s xs (next_beyond s xs b))
insert_between s [] (suc i) c p a b = absurd (omega (arith, a.within))
insert_between s (x ∷ xs) (suc i) c p a b =
    let ends = a.before 0 x (omega arith) in
    ap (λ l. x ∷ l) (insert_between s xs i c.2 p (apart_tail x xs s.lo i a) (started_tail x xs s.hi i b)) ∙ sym (insert_after s x xs p c.0 ends)

-- if all end before the span, it goes to the end
pub insert_beyond : (s : Interval) (xs : List Interval) → IsCanonical xs → s.lo < s.hi → Apart xs s.lo (length xs) → insert_span s xs ≡ xs ++ (s ∷ [])
insert_beyond s [] c p a = refl
insert_beyond s (x ∷ xs) c p a =
    let ends = a.before 0 x (omega arith) in
    insert_after s x xs p c.0 ends ∙ ap (λ l. x ∷ l) (insert_beyond s xs c.2 p (apart_tail x xs s.lo (length xs) a))

hull_beyond : (s x : Interval) (xs : List Interval) → Beyond s.hi xs → Beyond x.hi xs → Beyond (hull s x).hi xs
hull_beyond s x [] b c = tt
hull_beyond s x (y ∷ ys) b c = omega arith

-- the spans before a place touch the new one, and become one with it
absorbed : (s : Interval) (xs : List Interval) (n : ℕ) (d : Interval) → IsCanonical xs → s.lo < s.hi → n < length xs → ((j : ℕ) (e : Interval) → j ≤ n → s.lo ≤ (get_or xs j e).hi) → Started xs s.hi (suc n)
    → insert_span s xs ≡ interval (min s.lo (get_or xs 0 d).lo) (max s.hi (get_or xs n d).hi) ∷ drop (suc n) xs
absorbed s [] n d c p lt touch b = absurd (omega arith)
absorbed s (x ∷ xs) zero d c p lt touch b =
    let starts = b.before 0 x (omega arith) in
    insert_touching s x xs starts (touch 0 x (omega arith)) ∙ alone (hull s x) xs (hull_beyond s x xs (next_beyond s xs (started_tail x xs s.hi 0 b)) c.1)
absorbed s (x ∷ []) (suc n) d c p lt touch b = absurd (omega arith)
absorbed s (x ∷ y ∷ ys) (suc n) d c p lt touch b =
    let starts = b.before 0 x (omega arith) in
    let tail = started_tail x (y ∷ ys) s.hi (suc n) b in
    let h = hull s x in
    let last = get_or (y ∷ ys) n d in
    let after : x.hi < last.hi = omega (arith, starts_above x.hi (y ∷ ys) n d c.1 c.2 (omega arith), canonical_at (y ∷ ys) n d c.2 (omega arith)) in
    let starts_by : (j : ℕ) (e : Interval) → j < suc n → (get_or (y ∷ ys) j e).lo ≤ h.hi = λ j e below. omega (arith, tail.before j e below) in
    let touches : (j : ℕ) (e : Interval) → j ≤ n → h.lo ≤ (get_or (y ∷ ys) j e).hi = λ j e below. omega (arith, touch (suc j) e (omega arith)) in
    let beyond : (j : ℕ) (e : Interval) → suc n ≤ j → j < length (y ∷ ys) → h.hi < (get_or (y ∷ ys) j e).lo = λ j e le below. omega (arith, tail.from j e le below, starts_above x.hi (y ∷ ys) j e c.1 c.2 below) in
    let rest = absorbed h (y ∷ ys) n d c.2 (omega (arith, c.0)) (omega arith) touches (record { within = tail.within; before = starts_by; from = beyond }) in
    let low : min h.lo y.lo ≡ min s.lo x.lo = omega (arith, c.0, c.1) in
    let high : max h.hi last.hi ≡ max s.hi last.hi = omega arith in
    insert_touching s x (y ∷ ys) starts (touch 0 x (omega arith)) ∙ rest ∙ (λ i. interval (low i) (high i) ∷ drop (suc n) (y ∷ ys))

-- the spans from one place to another become one with the new one
pub insert_over : (s : Interval) (xs : List Interval) (i n : ℕ) (d e : Interval) → IsCanonical xs → s.lo < s.hi → Apart xs s.lo i → Started xs s.hi (suc n) → i ≤ n → n < length xs
    → take i xs ++ (interval (min s.lo (get_or xs i d).lo) (max s.hi (get_or xs n e).hi) ∷ drop (suc n) xs) ≡ insert_span s xs
insert_over s [] i n d e c p a b le lt = absurd (omega arith)
insert_over s (x ∷ xs) (suc i) zero d e c p a b le lt = absurd (omega arith)
insert_over s (x ∷ xs) zero n d e c p a b le lt =
    let same : (get_or (x ∷ xs) n d).hi ≡ (get_or (x ∷ xs) n e).hi = ap (λ (t : Interval). t.hi) (get_or_default (x ∷ xs) n d e lt) in
    sym (absorbed s (x ∷ xs) n d c p lt (λ j f le. a.from j f (omega arith) (omega arith)) b ∙ ap (λ h. interval (min s.lo x.lo) (max s.hi h) ∷ drop (suc n) (x ∷ xs)) same)
insert_over s (x ∷ xs) (suc i) (suc n) d e c p a b le lt =
    let ends = a.before 0 x (omega arith) in
    ap (λ l. x ∷ l) (insert_over s xs i n d e c.2 p (apart_tail x xs s.lo i a) (started_tail x xs s.hi (suc n) b) (omega arith) (omega arith)) ∙ sym (insert_after s x xs p c.0 ends)

-- what the answer of an insert says of the set
pub kept_set : {T E : Type 0} (s : Interval) (old new : List Interval) (r : Result T E) → s.lo < s.hi → s.hi ≤ top → IsSet old → OnOk r (new ≡ insert_span s old) → OnErr r (new ≡ old) → IsSet new
kept_set s old new (Ok x) p le c ok err = subst IsSet (sym ok) (set-insert s old p le c)
kept_set s old new (Err e) p le c ok err = subst IsSet (sym err) c

pub inserted_keys : {T E : Type 0} (s : Interval) (old new view : List Interval) (r : Result T E) → s.lo < s.hi → IsCanonical old → old ≡ view → OnOk r (new ≡ insert_span s old) → OnOk r ((k : ℕ) → has new k ≡ (span_has s k || has view k))
inserted_keys s old new view (Ok x) p c is ok = λ k. ap (λ l. has l k) ok ∙ has-insert s old k p c ∙ ap (λ l. span_has s k || has l k) is
inserted_keys s old new view (Err e) p c is ok = tt

-- the places of the spans that touch the new one
pub record Found (s : Interval) (xs : List Interval) (i j : ℕ) : Type 0 where
  pub apart : Apart xs s.lo i
  pub started : Started xs s.hi j
  pub order : i ≤ j
  pub within : j ≤ length xs

pub found : (s : Interval) (xs ys zs : List Interval) (i j lo hi : ℕ) → ys ≡ xs → zs ≡ xs → lo ≡ s.lo → hi ≡ s.hi → s.lo < s.hi → IsCanonical xs → Apart ys lo i → Started zs hi j → Found s xs i j
found s xs ys zs i j lo hi e f g h p c a b =
    let a2 : Apart xs s.lo i = subst (λ l. Apart l s.lo i) e (subst (λ n. Apart ys n i) g a) in
    let b2 : Started xs s.hi j = subst (λ l. Started l s.hi j) f (subst (λ n. Started zs n j) h b) in
    record {
      apart = a2;
      started = b2;
      order = places_in_order s xs i j c p a2 b2;
      within = b2.within;
    }

-- what is left if one span is written and those after it, up to a place, are cut out
pub become_one : (xs : List Interval) (i j : ℕ) (h : Interval) → i < j → j ≤ length xs → take (i + 1) (set xs i h) ++ drop j (set xs i h) ≡ take i xs ++ (h ∷ drop j xs)
become_one xs i j h lt le =
    ap (λ l. l ++ drop j (set xs i h)) (take_more_set xs i h (omega arith))
    ∙ ap (λ l. (take i xs ++ (h ∷ [])) ++ l) (drop-set-lt j xs i h lt)
    ∙ append_assoc (take i xs) (h ∷ []) (drop j xs)

-- the spans from the first place to the second become one with the new one
pub insert_found : (s : Interval) (xs : List Interval) (i j lo hi : ℕ) (h x y : Interval) → s.lo < s.hi → IsCanonical xs → Found s xs i j → i < j → x ≡ get_or xs i x → y ≡ get_or xs (j - 1) y → h ≡ interval lo hi → lo ≡ min s.lo x.lo → hi ≡ max s.hi y.hi → take i xs ++ (h ∷ drop j xs) ≡ insert_span s xs
insert_found s xs i j lo hi h x y p c f lt xi yi hi_is low high =
    let last = j - 1 in
    let next : suc last ≡ j = omega arith in
    let low2 : lo ≡ min s.lo (get_or xs i x).lo = low ∙ ap (λ (t : Interval). min s.lo t.lo) xi in
    let high2 : hi ≡ max s.hi (get_or xs last y).hi = high ∙ ap (λ (t : Interval). max s.hi t.hi) yi in
    ap (λ t. take i xs ++ (t ∷ drop j xs)) (hi_is ∙ (λ m. interval (low2 m) (high2 m))) ∙ ap (λ n. take i xs ++ (interval (min s.lo (get_or xs i x).lo) (max s.hi (get_or xs last y).hi) ∷ drop n xs)) (sym next)
    ∙ insert_over s xs i last x y c p f.apart (subst (Started xs s.hi) (sym next) f.started) (omega arith) (omega (arith, f.within))

-- the place of the last span, if the new one touches it and starts no earlier
found_last : (s : Interval) (xs : List Interval) (x : Interval) → s.lo < s.hi → IsCanonical xs → 0 < length xs → x ≡ get_or xs (length xs - 1) x → x.lo ≤ s.lo → s.lo ≤ x.hi → Found s xs (length xs - 1) (length xs - 1 + 1)
found_last s xs x p c some is starts touches =
    let i = length xs - 1 in
    let same : (d : Interval) → x ≡ get_or xs i d = λ d. is ∙ get_or_default xs i x d (omega arith) in
    record {
      apart = record {
        within = omega arith;
        before = λ j d lt.
            let gap = ends_before xs j i d c lt (omega arith) in
            let start : x.lo ≡ (get_or xs i d).lo = ap (λ (t : Interval). t.lo) (same d) in
            omega (arith, gap, start, starts);
        from = λ j d le lt.
            let at : j ≡ i = omega arith in
            let end : x.hi ≡ (get_or xs j d).hi = ap (λ (t : Interval). t.hi) (same d) ∙ ap (λ n. (get_or xs n d).hi) (sym at) in
            omega (arith, end, touches);
      };
      started = record {
        within = omega arith;
        before = λ j d lt.
            let rise = starts_rise xs c j i d (omega arith) (omega arith) in
            let start : x.lo ≡ (get_or xs i d).lo = ap (λ (t : Interval). t.lo) (same d) in
            omega (arith, rise, start, starts, p);
        from = λ j d le lt. absurd (omega arith);
      };
      order = omega arith;
      within = omega arith;
    }

-- such a span becomes one with the last one
pub lengthened : (s : Interval) (xs : List Interval) (lo hi : ℕ) (h x : Interval) → s.lo < s.hi → IsCanonical xs → 0 < length xs → x ≡ get_or xs (length xs - 1) x → x.lo ≤ s.lo → s.lo ≤ x.hi → h ≡ interval lo hi → lo ≡ x.lo → hi ≡ max s.hi x.hi
    → set xs (length xs - 1) h ≡ insert_span s xs
lengthened s xs lo hi h x p c some is starts touches hi_is low high =
    let i = length xs - 1 in
    let f = found_last s xs x p c some is starts touches in
    let last : x ≡ get_or xs (i + 1 - 1) x = is ∙ ap (λ n. get_or xs n x) (let same : i ≡ i + 1 - 1 = omega arith in same) in
    let least : lo ≡ min s.lo x.lo = low ∙ (let same : x.lo ≡ min s.lo x.lo = omega arith in same) in
    sym (take-append-drop (i + 1) (set xs i h))
    ∙ become_one xs i (i + 1) h (omega arith) (omega arith)
    ∙ insert_found s xs i (i + 1) lo hi h x x p c f (omega arith) is last hi_is least high
