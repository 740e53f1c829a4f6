-- The walk over the spans of a set.
use Rattle.std.proofs.Common.{◌≡◌, ℕ, zero, suc, ◌+◌, ◌-◌, ◌<◌, ◌≤◌, max, Bool, true, false, cond, List, [], ◌∷◌, length, get_or, take, drop, refl, sym, ap, subst, ◌∙◌, arith, inl, inr}
use Rattle.std.specs.Prelude.{◌||◌}
use Rattle.std.proofs.lemmas.Bool.{cases_lt}
use Rattle.std.proofs.lemmas.Bool.Decides.{nat_tests}
use Rattle.std.specs.List.{count_by}
use Rattle.std.proofs.lemmas.List.{drop_more, drop_all, take_all}
use Rattle.squall_span.specs.Spans.{Interval, has, Beyond, IsCanonical, EndsBy}
use Rattle.squall_span.specs.SpanLaws.{inside, outside_below, outside_above, has_below}
use Rattle.squall_plan.specs.declared.range.PlanRange.{PlanRange}
use Rattle.squall_course.specs.declared.moving.Move.{Move}
use Rattle.squall_table.specs.Legs.{Grows, MovesRise, FirstMove, EndMove}
use Rattle.squall_table.specs.LegLaws.{grows_more, grows_as, grows_none}
use Rattle.squall_table.specs.Patching.{StartsFrom, renewed}
use Rattle.squall_table.specs.Reach.{is_shared, moves_in}
use Rattle.squall_table.proofs.Picks.{canonical_drop}
use Rattle.squall_table.proofs.Moving.{move_at, no_move as none}
use Rattle.squall_table.proofs.Counting.{count_all, count_none}

shared_below : (ss : List Interval) (h : ℕ) (t : Interval) → StartsFrom h ss → IsCanonical ss → t.hi ≤ h → is_shared ss t ≡ false
shared_below [] h t s c le = refl
shared_below (x ∷ ss) h t s c le =
    let rest = shared_below ss x.lo t (starts ss c.1) c.2 (omega arith) in
    grind (arith, nat_tests, rest)
  where
    starts : (ss : List Interval) → Beyond x.hi ss → StartsFrom x.lo ss
    starts [] b = tt
    starts (y ∷ ys) b = omega (arith, b, c.0)

shared_over : (x : Interval) (ss : List Interval) (t : Interval) → x.lo < x.hi → t.lo < t.hi → x.lo < t.hi → t.lo < x.hi → is_shared (x ∷ ss) t ≡ true
shared_over x ss t full full' lt lt' = grind (arith, nat_tests)

shared_past : (x : Interval) (ss : List Interval) (t : Interval) → x.hi ≤ t.lo → is_shared (x ∷ ss) t ≡ is_shared ss t
shared_past x ss t le = grind (arith, nat_tests)

pub end_by : (h : ℕ) (ss : List Interval) (i : ℕ) (d : Interval) → EndsBy h ss → i < length ss → (get_or ss i d).hi ≤ h
end_by h [] i d e lt = absurd (omega arith)
end_by h (s ∷ ss) zero d e lt = e.0
end_by h (s ∷ ss) (suc i) d e lt = end_by h ss i d e.1 (omega arith)

-- what is done from lo to reach, with the spans from a place on still to come
pub record Patching (g : ℕ → ℕ) (set : List Interval) (xs : List Move) (lo reach hi n seen taken : ℕ) (out : List PlanRange) : Type 0 where
  pub prev : ℕ
  pub prev_low : prev ≤ reach
  pub low : lo ≤ reach
  pub high : reach ≤ hi
  pub starts : StartsFrom reach (drop n set)
  pub rest : (k : ℕ) → prev ≤ k → has set k ≡ has (drop n set) k
  pub shared : (t : Interval) → prev ≤ t.lo → is_shared set t ≡ is_shared (drop n set) t
  pub small : taken ≤ seen
  pub within : seen ≤ length xs
  pub exact : taken ≡ count_by (λ m. is_shared set m.span) (take seen xs)
  pub past : (j : ℕ) (d : Move) → seen ≤ j → j < length xs → prev ≤ (get_or xs j d).span.lo
  pub grows : Grows g lo reach [] out

pub patching_none : (g : ℕ → ℕ) (set : List Interval) (xs : List Move) (lo hi : ℕ) (out : List PlanRange) → out ≡ [] → StartsFrom lo set → lo ≤ hi → Patching g set xs lo lo hi 0 0 0 out
patching_none g set xs lo hi out e s le = record {
  prev = 0;
  prev_low = omega arith;
  low = omega arith;
  high = le;
  starts = s;
  rest = λ k _. refl;
  shared = λ t _. refl;
  small = omega arith;
  within = omega arith;
  exact = refl;
  past = λ j d _ _. omega arith;
  grows = subst (λ o. Grows g lo lo [] o) (sym e) (grows_none g lo lo [] refl);
}

-- the keys before the next span
before_next : (set : List Interval) (lo reach hi n seen taken : ℕ) (g : ℕ → ℕ) (xs : List Move) (out : List PlanRange) (h : ℕ) → IsCanonical set → Patching g set xs lo reach hi n seen taken out → StartsFrom h (drop n set) → (k : ℕ) → reach ≤ k → k < h → has set k ≡ false
before_next set lo reach hi n seen taken g xs out h c p s k a b = p.rest k (omega (arith, p.prev_low)) ∙ below (drop n set) s (canonical_drop set n c)
  where
    below : (ss : List Interval) → StartsFrom h ss → IsCanonical ss → has ss k ≡ false
    below [] s c = refl
    below (x ∷ ss) s c = ap (λ t. t || has ss k) (outside_below x k (omega (arith, s))) ∙ has_below x.hi k ss c.1 c.2 (omega (arith, s, c.0))

pub record Counted (set : List Interval) (xs : List Move) (bound seen taken : ℕ) : Type 0 where
  pub small : taken ≤ seen
  pub within : seen ≤ length xs
  pub exact : taken ≡ count_by (λ m. is_shared set m.span) (take seen xs)
  pub past : (j : ℕ) (d : Move) → seen ≤ j → j < length xs → bound ≤ (get_or xs j d).span.lo

-- the place of a span of the set
record Here (reach n : ℕ) (set : List Interval) (x : Interval) : Type 0 where
  pub is : drop n set ≡ x ∷ drop (n + 1) set
  pub full : IsCanonical (x ∷ drop (n + 1) set)
  pub from : reach ≤ x.lo

here : (g : ℕ → ℕ) (set : List Interval) (xs : List Move) (lo reach hi n seen taken : ℕ) (out : List PlanRange) (x : Interval) → IsCanonical set → n < length set → x ≡ get_or set n x → Patching g set xs lo reach hi n seen taken out → Here reach n set x
here g set xs lo reach hi n seen taken out x c lt is p =
    let rest : drop n set ≡ x ∷ drop (n + 1) set = drop_more set n x lt ∙ ap (λ y. y ∷ drop (n + 1) set) (sym is) in
    record { is = rest; full = subst IsCanonical rest (canonical_drop set n c); from = subst (StartsFrom reach) rest p.starts }

count_more : (g : ℕ → ℕ) (set : List Interval) (xs : List Move) (lo reach hi n seen taken first end : ℕ) (out : List PlanRange) (x : Interval) → MovesRise 0 xs → IsCanonical set → n < length set → x ≡ get_or set n x
    → Patching g set xs lo reach hi n seen taken out → FirstMove xs x.lo first → EndMove xs x.hi first end → seen < end → Counted set xs x.hi end (taken + (end - max first seen))
count_more g set xs lo reach hi n seen taken first end out x rise c lt is p f e less =
    let h = here g set xs lo reach hi n seen taken out x c lt is p in
    let P : Move → Bool = λ m. is_shared set m.span in
    let a = max first seen in
    let skip : count_by P (take a xs) ≡ count_by P (take seen xs) = count_none P xs seen a none (omega arith) (omega (arith, e.within)) (λ j u v.
    p.shared (get_or xs j none).span (p.past j none u (omega (arith, e.within))) ∙ ap (λ l. is_shared l (get_or xs j none).span) h.is ∙ shared_below (x ∷ drop (n + 1) set) x.lo (get_or xs j none).span (omega arith) h.full (f.before j none (omega arith))) in
    let take_up : count_by P (take end xs) ≡ count_by P (take a xs) + (end - a) = count_all P xs a end none (omega arith) e.within (λ j u v.
    p.shared (get_or xs j none).span (p.past j none (omega arith) (omega (arith, e.within))) ∙ ap (λ l. is_shared l (get_or xs j none).span) h.is
    ∙ shared_over x (drop (n + 1) set) (get_or xs j none).span h.full.0 (move_at 0 xs j none rise (omega (arith, e.within))).1 (f.after j none (omega arith) (omega (arith, e.within))) (e.before j none (omega arith) v)) in
    record {
      small = omega (arith, p.small, e.from);
      within = e.within;
      exact = omega (arith, p.exact, skip, take_up);
      past = λ j m u v. e.after j m u v;
    }

pub count_on : (g : ℕ → ℕ) (set : List Interval) (xs : List Move) (lo reach hi n seen taken first end : ℕ) (out : List PlanRange) (x : Interval) → MovesRise 0 xs → IsCanonical set → n < length set → x ≡ get_or set n x
    → Patching g set xs lo reach hi n seen taken out → FirstMove xs x.lo first → EndMove xs x.hi first end → Counted set xs x.hi (max seen end) (taken + (end - max first seen))
count_on g set xs lo reach hi n seen taken first end out x rise c lt is p f e = elim (cases_lt seen end) [
  | inl less ↦ subst (λ (m : ℕ). Counted set xs x.hi m (taken + (end - max first seen))) (omega arith) (count_more g set xs lo reach hi n seen taken first end out x rise c lt is p f e less)
  | inr more ↦ record {
    small = omega (arith, p.small);
    within = omega (arith, p.within, e.within);
    exact =
        let same : seen ≡ max seen end = omega arith in
        let none : taken ≡ taken + (end - max first seen) = omega arith in
        sym none ∙ p.exact ∙ ap (λ i. count_by (λ (m : Move). is_shared set m.span) (take i xs)) same;
    past = λ j m u v. e.after j m (omega arith) v;
  }
]

pub patching_more : (r own : ℕ → ℕ) (set : List Interval) (xs : List Move) (lo reach hi n seen taken seen' taken' : ℕ) (x : Interval) (out mid end : List PlanRange) → IsCanonical set → EndsBy hi set → n < length set → x ≡ get_or set n x
    → Patching (renewed set r own) set xs lo reach hi n seen taken out → Counted set xs x.hi seen' taken'
    → Grows own reach x.lo out mid → Grows r x.lo x.hi mid end
    → Patching (renewed set r own) set xs lo x.hi hi (n + 1) seen' taken' end
patching_more r own set xs lo reach hi n seen taken seen' taken' x out mid end c ends lt is p q before this =
    let g : ℕ → ℕ = renewed set r own in
    let h = here g set xs lo reach hi n seen taken out x c lt is p in
    let below : x.hi ≤ hi = subst (λ (t : Interval). t.hi ≤ hi) (sym is) (end_by hi set n x ends lt) in
    let front : StartsFrom x.lo (drop n set) = subst (StartsFrom x.lo) (sym h.is) (omega arith) in
    let out_of_it : (k : ℕ) → reach ≤ k → k < x.lo → own k ≡ g k = λ k a b. sym (ap (λ t. cond t (r k) (own k)) (before_next set lo reach hi n seen taken g xs out x.lo c p front k a b)) in
    let in_it : (k : ℕ) → x.lo ≤ k → k < x.hi → r k ≡ g k = λ k a b. sym (ap (λ t. cond t (r k) (own k)) (p.rest k (omega (arith, p.prev_low, h.from)) ∙ ap (λ l. has l k) h.is ∙ ap (λ t. t || has (drop (n + 1) set) k) (inside x k a b))) in
    record {
      prev = x.hi;
      prev_low = omega arith;
      low = omega (arith, p.low, h.from, h.full.0);
      high = below;
      starts = after (drop (n + 1) set) h.full.1;
      rest = λ k a. p.rest k (omega (arith, p.prev_low, h.from, h.full.0)) ∙ ap (λ l. has l k) h.is ∙ ap (λ t. t || has (drop (n + 1) set) k) (outside_above x k a);
      shared = λ t le. p.shared t (omega (arith, p.prev_low, h.from, h.full.0)) ∙ ap (λ l. is_shared l t) h.is ∙ shared_past x (drop (n + 1) set) t le;
      small = q.small;
      within = q.within;
      exact = q.exact;
      past = q.past;
      grows = grows_more g lo reach x.hi [] out end p.low (omega (arith, h.from, h.full.0)) p.grows
          (grows_more g reach x.lo x.hi out mid end h.from (omega (arith, h.full.0)) (grows_as own g reach x.lo out mid out_of_it before) (grows_as r g x.lo x.hi mid end in_it this));
    }
  where
    after : (ss : List Interval) → Beyond x.hi ss → StartsFrom x.hi ss
    after [] b = tt
    after (y ∷ ys) b = omega (arith, b)

pub patching_done : (r own : ℕ → ℕ) (set : List Interval) (xs : List Move) (lo reach hi n seen taken : ℕ) (out end : List PlanRange) → IsCanonical set → length set ≤ n
    → Patching (renewed set r own) set xs lo reach hi n seen taken out → Grows own reach hi out end → Grows (renewed set r own) lo hi [] end
patching_done r own set xs lo reach hi n seen taken out end c le p last =
    let g : ℕ → ℕ = renewed set r own in
    let front : StartsFrom hi (drop n set) = subst (StartsFrom hi) (sym (drop_all n set le)) tt in
    let out_of_it : (k : ℕ) → reach ≤ k → k < hi → own k ≡ g k = λ k a b. sym (ap (λ t. cond t (r k) (own k)) (before_next set lo reach hi n seen taken g xs out hi c p front k a b)) in
    grows_more g lo reach hi [] out end p.low p.high p.grows (grows_as own g reach hi out end out_of_it last)

pub counted_done : (g : ℕ → ℕ) (set : List Interval) (xs : List Move) (lo reach hi n seen taken : ℕ) (out : List PlanRange) → length set ≤ n → Patching g set xs lo reach hi n seen taken out → taken ≡ moves_in set xs
counted_done g set xs lo reach hi n seen taken out le p =
    let P : Move → Bool = λ m. is_shared set m.span in
    let skip : count_by P (take (length xs) xs) ≡ count_by P (take seen xs) = count_none P xs seen (length xs) none p.within (omega arith) (λ j u v.
    p.shared (get_or xs j none).span (p.past j none u v) ∙ ap (λ l. is_shared l (get_or xs j none).span) (drop_all n set le)) in
    p.exact ∙ sym skip ∙ ap (count_by P) (take_all (length xs) xs (omega arith))
