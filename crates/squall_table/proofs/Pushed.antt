-- One leg more at the end.
use Rattle.std.proofs.Common.{◌≡◌, ◌≢◌, ℕ, zero, suc, ◌<◌, ◌≤◌, Bool, true, false, cond, ltb, List, [], ◌∷◌, ◌++◌, Some, None, length, get_or, set, refl, sym, ap, subst, ◌∙◌, arith}
use Rattle.std.proofs.lemmas.Bool.{ltb-true}
use Rattle.std.proofs.lemmas.Option.{same_Some, none-some}
use Rattle.squall_span.specs.Spans.{Interval, interval, span_at}
use Rattle.squall_plan.specs.declared.range.PlanRange.{PlanRange}
use Rattle.squall_table.specs.Legs.{Legs}
use Rattle.squall_table.specs.LegLaws.{legs_widen, legs_push}

pub some_span : (lo hi : ℕ) (s : Interval) → span_at lo hi ≡ Some s → (lo < hi) × (s ≡ interval lo hi)
some_span lo hi s e = by (ltb lo hi) refl e
  where
    by : (b : Bool) → ltb lo hi ≡ b → cond b (Some (interval lo hi)) None ≡ Some s → (lo < hi) × (s ≡ interval lo hi)
    by true t e = (ltb-true lo hi t, sym (same_Some (interval lo hi) s e))
    by false t e = absurd (none-some s e)

-- the last leg begins below the end
last_below : (f : ℕ → ℕ) (a b : ℕ) (xs : List PlanRange) (n : ℕ) (d : PlanRange) → Legs f a b xs → suc n ≡ length xs → (get_or xs n d).span.lo < b
last_below f a b [] n d t e = absurd (omega arith)
last_below f a b (x ∷ []) zero d t e = omega (arith, t.1, t.4)
last_below f a b (x ∷ y ∷ ys) zero d t e = absurd (omega arith)
last_below f a b (x ∷ []) (suc n) d t e = absurd (omega arith)
last_below f a b (x ∷ y ∷ ys) (suc n) d t e = last_below f x.span.hi b (y ∷ ys) n d t.4 (omega arith)

-- the last leg takes up the span
pub joined : (f : ℕ → ℕ) (a lo hi low part n : ℕ) (xs : List PlanRange) (t : PlanRange) (s : Interval) → suc n ≡ length xs → t ≡ get_or xs n t → t.part ≡ part → low ≡ t.span.lo → span_at low hi ≡ Some s → lo ≤ hi
    → ((k : ℕ) → lo ≤ k → k < hi → f k ≡ part) → Legs f a lo xs → Legs f a hi (set xs n (record { span = s; part = part }))
joined f a lo hi low part n xs t s e is same begins some le here l =
    let at : low ≡ (get_or xs n t).span.lo = begins ∙ ap (λ (u : PlanRange). u.span.lo) is in
    let span : s ≡ interval (get_or xs n t).span.lo hi = (some_span low hi s some).1 ∙ ap (λ m. interval m hi) at in
    let part_is : (get_or xs n t).part ≡ part = subst (λ (u : PlanRange). u.part ≡ part) is same in
    subst (λ (r : Interval). Legs f a hi (set xs n (record { span = r; part = part }))) (sym span) (legs_widen f a lo hi part xs n t (sym e) l le part_is here)

-- it does take it up
pub must_join : (f : ℕ → ℕ) (a lo hi low n : ℕ) (xs : List PlanRange) (t : PlanRange) → suc n ≡ length xs → t ≡ get_or xs n t → low ≡ t.span.lo → span_at low hi ≡ None → lo ≤ hi → Legs f a lo xs → ⊥
must_join f a lo hi low n xs t e is begins none le l = by (ltb low hi) refl none
  where
    less : low < hi
    less = let b = last_below f a lo xs n t l e in let at : low ≡ (get_or xs n t).span.lo = begins ∙ ap (λ (u : PlanRange). u.span.lo) is in omega (arith, b, at)

    by : (b : Bool) → ltb low hi ≡ b → cond b (Some (interval low hi)) None ≡ None → ⊥
    by true t e = none-some (interval low hi) (sym e)
    by false t e = Rattle.std.proofs.lemmas.Bool.true≢false (sym (Rattle.std.proofs.lemmas.Bool.lt-ltb low hi less) ∙ t)

-- a leg of its own
pub pushed : (f : ℕ → ℕ) (a lo hi part : ℕ) (xs : List PlanRange) (s : Interval) → span_at lo hi ≡ Some s → ((n : ℕ) (d : PlanRange) → length xs ≡ suc n → (get_or xs n d).part ≢ part)
    → ((k : ℕ) → lo ≤ k → k < hi → f k ≡ part) → Legs f a lo xs → Legs f a hi (xs ++ (record { span = s; part = part } ∷ []))
pushed f a lo hi part xs s some other here l =
    let full = some_span lo hi s some in
    subst (λ (r : Interval). Legs f a hi (xs ++ (record { span = r; part = part } ∷ []))) (sym full.1) (legs_push f a lo hi part xs l full.0 other here)
