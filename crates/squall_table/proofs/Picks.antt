-- The walk over spans.
use Rattle.std.proofs.Common.{◌≡◌, ℕ, zero, suc, ◌<◌, ◌≤◌, max, min, true, false, ◌||◌, cond, List, [], ◌∷◌, length, get_or, drop, refl, sym, ap, subst, ◌∙◌, arith}
use Rattle.squall_plan.specs.declared.range.PlanRange.{PlanRange}
use Rattle.squall_span.specs.Spans.{Interval}
use Rattle.squall_span.specs.Spans.{span_has, has, Beyond, IsCanonical, EndsBeyond, spans_beyond}
use Rattle.squall_span.specs.BeyondLaws.{canonical_beyond, beyond_ends, has_beyond}
use Rattle.squall_span.specs.SpanLaws.{outside_below, outside_above, inside, has_below}
use Rattle.squall_table.specs.Legs.{Grows, pick}
use Rattle.squall_table.specs.LegLaws.{grows_none, grows_more, grows_as}

pub canonical_drop : (xs : List Interval) (i : ℕ) → IsCanonical xs → IsCanonical (drop i xs)
canonical_drop xs zero c = c
canonical_drop [] (suc i) c = tt
canonical_drop (x ∷ xs) (suc i) c = canonical_drop xs i c.2

-- what is done from lo to reach, with these spans still to come
pub record Walk (g : ℕ → ℕ) (xs : List Interval) (lo reach hi : ℕ) (rest : List Interval) (old new : List PlanRange) : Type 0 where
  pub low : lo ≤ reach
  pub high : reach ≤ hi
  pub canonical : IsCanonical rest
  pub same : (k : ℕ) → reach ≤ k → k < hi → has xs k ≡ has rest k
  pub ahead : EndsBeyond reach rest
  pub grows : Grows g lo reach old new

pub walk_first : (g : ℕ → ℕ) (xs rest : List Interval) (lo hi : ℕ) (old : List PlanRange) → lo ≤ hi → IsCanonical xs → rest ≡ spans_beyond lo xs → Walk g xs lo lo hi rest old old
walk_first g xs rest lo hi old le c is = record {
  low = omega arith;
  high = le;
  canonical = subst IsCanonical (sym is) (canonical_beyond lo xs c);
  same = λ k ge lt. sym (ap (λ l. has l k) is ∙ has_beyond lo k xs ge);
  ahead = subst (EndsBeyond lo) (sym is) (beyond_ends lo xs);
  grows = grows_none g lo lo old refl;
}

pub walk_more : (xs : List Interval) (dest source lo reach hi : ℕ) (rest ys : List Interval) (x : Interval) (start next : ℕ) (old new mid end : List PlanRange)
    → rest ≡ x ∷ ys → x.lo < hi → start ≡ max x.lo reach → next ≡ min x.hi hi
    → Walk (pick xs dest source) xs lo reach hi rest old new → Grows (λ _. source) reach start new mid → Grows (λ _. dest) start next mid end
    → Walk (pick xs dest source) xs lo next hi ys old end
walk_more xs dest source lo reach hi rest ys x start next old new mid end is below s n w p q =
    let one : IsCanonical (x ∷ ys) = subst IsCanonical is w.canonical in
    let ends : reach < x.hi = subst (EndsBeyond reach) is w.ahead in
    let here : (k : ℕ) → reach ≤ k → k < hi → has xs k ≡ (span_has x k || has ys k) = λ k a b. w.same k a b ∙ ap (λ l. has l k) is in
    let none : (k : ℕ) → reach ≤ k → k < start → has xs k ≡ false = λ k a b.
    let lower : k < x.lo = omega arith in
    here k a (omega arith) ∙ ap (λ t. t || has ys k) (outside_below x k lower) ∙ has_below x.hi k ys one.1 one.2 (omega arith) in
    let some : (k : ℕ) → start ≤ k → k < next → has xs k ≡ true = λ k a b.
    here k (omega arith) (omega arith) ∙ ap (λ t. t || has ys k) (inside x k (omega arith) (omega arith)) in
    record {
      low = omega (arith, w.low);
      high = omega arith;
      canonical = one.2;
      same = λ k a b. here k (omega arith) b ∙ ap (λ t. t || has ys k) (outside_above x k (omega arith));
      ahead = ahead ys one.1 one.2 (omega arith);
      grows = grows_more _ lo reach next old new end w.low (omega arith) w.grows (grows_more _ reach start next new mid end (omega arith) (omega arith)
          (grows_as (λ _. source) _ reach start new mid (λ k a b. sym (ap (λ t. cond t dest source) (none k a b))) p)
          (grows_as (λ _. dest) _ start next mid end (λ k a b. sym (ap (λ t. cond t dest source) (some k a b))) q));
    }
  where
    ahead : (ys : List Interval) → Beyond x.hi ys → IsCanonical ys → next ≤ x.hi → EndsBeyond next ys
    ahead [] b c le = tt
    ahead (y ∷ ys) b c le = omega (arith, b, c.0)

-- no key is left below the bound
pub walk_done : (xs : List Interval) (dest source lo reach hi : ℕ) (rest : List Interval) (old new end : List PlanRange)
    → ((k : ℕ) → k < hi → has rest k ≡ false)
    → Walk (pick xs dest source) xs lo reach hi rest old new → Grows (λ _. source) reach hi new end
    → Grows (pick xs dest source) lo hi old end
walk_done xs dest source lo reach hi rest old new end none w p =
    grows_more _ lo reach hi old new end w.low w.high w.grows (grows_as (λ _. source) _ reach hi new end (λ k a b. sym (ap (λ t. cond t dest source) (w.same k a b ∙ none k b))) p)

pub none_of : (rest : List Interval) (hi : ℕ) → rest ≡ [] → (k : ℕ) → k < hi → has rest k ≡ false
none_of rest hi is k lt = ap (λ l. has l k) is

pub none_before : (rest ys : List Interval) (x : Interval) (hi : ℕ) → IsCanonical rest → rest ≡ x ∷ ys → hi ≤ x.lo → (k : ℕ) → k < hi → has rest k ≡ false
none_before rest ys x hi c is le k lt =
    let one : IsCanonical (x ∷ ys) = subst IsCanonical is c in
    ap (λ l. has l k) is ∙ ap (λ t. t || has ys k) (outside_below x k (omega arith)) ∙ has_below x.hi k ys one.1 one.2 (omega (arith, one.0))

pub walk_next : (g : ℕ → ℕ) (xs : List Interval) (lo reach hi : ℕ) (rest ys : List Interval) (x : Interval) (old new : List PlanRange) → Walk g xs lo reach hi rest old new → rest ≡ x ∷ ys → reach < x.hi
walk_next g xs lo reach hi rest ys x old new w is = subst (EndsBeyond reach) is w.ahead

abbrev pub span : ℕ → ℕ → Interval
span lo hi = record { lo = lo; hi = hi }

pub canonical_at : (xs : List Interval) (i : ℕ) (d : Interval) → IsCanonical xs → i < length xs → (get_or xs i d).lo < (get_or xs i d).hi
canonical_at [] i d c lt = absurd (omega arith)
canonical_at (x ∷ xs) zero d c lt = c.0
canonical_at (x ∷ xs) (suc i) d c lt = canonical_at xs i d c.2 (omega arith)
