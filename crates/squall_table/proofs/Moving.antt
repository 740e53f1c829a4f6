-- The walk over moves.
use Rattle.std.proofs.Common.{◌≡◌, ℕ, zero, suc, ◌+◌, ◌<◌, ◌≤◌, max, min, Bool, true, false, cond, List, [], ◌∷◌, length, get_or, drop, refl, sym, ap, subst, ◌∙◌, arith, inl, inr}
use Rattle.std.proofs.lemmas.Bool.{cases_lt}
use Rattle.std.specs.List.Sorted.{IsNonDecreasingBy}
use Rattle.std.proofs.lemmas.List.{drop_more, drop_all, get_or_default}
use Rattle.squall_plan.specs.declared.range.PlanRange.{PlanRange}
use Rattle.std.specs.List.{AllByRecursion}
use Rattle.squall_span.specs.Spans.{interval}
use Rattle.squall_span.specs.SpanLaws as spans
use Rattle.squall_report.specs.Facts.{Fact}
use Rattle.squall_course.specs.declared.moving.Move.{Move}
use Rattle.squall_course.specs.Moves.{IsMove, Rise}
use Rattle.squall_board.specs.MovesRoute.{route_in_move, route_by_moves}
use Rattle.squall_key.specs.Keys.{top}
use Rattle.squall_plan.specs.Ranges.{owner_of}
use Rattle.squall_table.specs.Legs.{Grows, MovesRise, FirstMove, EndMove}
use Rattle.squall_course.specs.Moves.{move_has}
use Rattle.squall_table.specs.LegLaws.{grows_more, grows_as}

-- the number of a course, and what is said
abbrev pub Said : Type 0
Said = ℕ × (Fact → Bool)

-- the route of a key, and that of a key of a move
abbrev pub route : List PlanRange → List Move → Said → ℕ → ℕ
route old ms cs k = route_by_moves cs.0 old ms cs.1 k

abbrev pub piece : Said → Move → ℕ → ℕ
piece cs m k = route_in_move cs.0 cs.1 m k

abbrev pub no_move : Move
no_move = record { span = interval 0 0; source = 0; dest = 0; sub = 0 }

-- the moves between two plans rise, and none is empty
pub moves_rise_of : (old new : List PlanRange) (from : ℕ) (ms : List Move) → from ≤ top → AllByRecursion (IsMove old new) ms → Rise from ms → MovesRise from ms
moves_rise_of old new from [] le each rise = le
moves_rise_of old new from (m ∷ ms) le each rise = (rise.0, each.0.full, moves_rise_of old new m.span.hi ms each.0.high each.1 rise.1)

pub outside_below : (s : Move) (k : ℕ) → k < s.span.lo → move_has k s ≡ false
outside_below s k lt = spans.outside_below s.span k lt

pub outside_above : (s : Move) (k : ℕ) → s.span.hi ≤ k → move_has k s ≡ false
outside_above s k le = spans.outside_above s.span k le

pub inside : (s : Move) (k : ℕ) → s.span.lo ≤ k → k < s.span.hi → move_has k s ≡ true
inside s k le lt = spans.inside s.span k le lt

-- keys before all moves stay
pub route_below : (old : List PlanRange) (ms : List Move) (cs : Said) (h k : ℕ) → MovesRise h ms → k < h → route old ms cs k ≡ owner_of old k
route_below old [] cs h k r lt = refl
route_below old (m ∷ ms) cs h k r lt =
    ap (λ b. cond b (piece cs m k) (route old ms cs k)) (outside_below m k (omega (arith, r.0))) ∙ route_below old ms cs m.span.hi k r.2 (omega (arith, r.0, r.1))

pub rise_drop : (h : ℕ) (ms : List Move) (i : ℕ) → MovesRise h ms → (a : ℕ) × (h ≤ a) × MovesRise a (drop i ms)
rise_drop h ms zero r = (h, omega arith, r)
rise_drop h [] (suc i) r = (h, omega arith, r)
rise_drop h (m ∷ ms) (suc i) r = let n = rise_drop m.span.hi ms i r.2 in (n.0, omega (arith, n.1, r.0, r.1), n.2)

moves_above : (h : ℕ) (xs : List Move) (j : ℕ) (d : Move) → MovesRise h xs → j < length xs → (h ≤ (get_or xs j d).span.lo) × ((get_or xs j d).span.lo < (get_or xs j d).span.hi)
moves_above h [] j d r lt = absurd (omega arith)
moves_above h (x ∷ xs) zero d r lt = (r.0, r.1)
moves_above h (x ∷ xs) (suc j) d r lt = let above = moves_above x.span.hi xs j d r.2 (omega arith) in (omega (arith, above.0, r.0, r.1), above.1)

pub move_at : (h : ℕ) (xs : List Move) (j : ℕ) (d : Move) → MovesRise h xs → j < length xs → (h ≤ (get_or xs j d).span.lo) × ((get_or xs j d).span.lo < (get_or xs j d).span.hi)
move_at h xs j d r lt = moves_above h xs j d r lt

pub moves_rise : (h : ℕ) (xs : List Move) → MovesRise h xs → IsNonDecreasingBy (λ r. r.span.hi) xs
moves_rise h [] c i j d le lt = absurd (omega arith)
moves_rise h (x ∷ xs) c zero zero d le lt = omega arith
moves_rise h (x ∷ xs) c zero (suc j) d le lt = let above = moves_above x.span.hi xs j d c.2 (omega arith) in omega (arith, above.0, above.1)
moves_rise h (x ∷ xs) c (suc i) zero d le lt = absurd (omega arith)
moves_rise h (x ∷ xs) c (suc i) (suc j) d le lt = moves_rise x.span.hi xs c.2 i j d (omega arith) (omega arith)

pub starts_rise : (h : ℕ) (xs : List Move) → MovesRise h xs → (i j : ℕ) (d : Move) → i < j → j < length xs → (get_or xs i d).span.hi ≤ (get_or xs j d).span.lo
starts_rise h [] c i j d le lt = absurd (omega arith)
starts_rise h (x ∷ xs) c i zero d le lt = absurd (omega arith)
starts_rise h (x ∷ xs) c zero (suc j) d le lt = (moves_above x.span.hi xs j d c.2 (omega arith)).0
starts_rise h (x ∷ xs) c (suc i) (suc j) d le lt = starts_rise x.span.hi xs c.2 i j d (omega arith) (omega arith)

-- what is from a place on, at keys from a bound on
pub first_routes : (old : List PlanRange) (xs : List Move) (cs : Said) (bound i : ℕ) → FirstMove xs bound i → (k : ℕ) → bound ≤ k → route old xs cs k ≡ route old (drop i xs) cs k
first_routes old xs cs bound zero p k le = refl
first_routes old [] cs bound (suc i) p k le = refl
first_routes old (x ∷ xs) cs bound (suc i) p k le =
    let past : x.span.hi ≤ bound = p.before 0 x (omega arith) in
    ap (λ b. cond b (piece cs x k) (route old xs cs k)) (outside_above x k (omega arith))
    ∙ first_routes old xs cs bound i (record { within = omega (arith, p.within); before = λ j d lt. p.before (suc j) d (omega arith); after = λ j d le lt. p.after (suc j) d (omega arith) (omega arith) }) k le

-- what is done from lo to reach, with the moves from a place on still to come
pub record Walk (old : List PlanRange) (xs : List Move) (cs : Said) (lo reach hi first i : ℕ) (was now : List PlanRange) : Type 0 where
  pub low : lo ≤ reach
  pub high : reach ≤ hi
  pub from : first ≤ i
  pub within : i ≤ length xs
  pub before : (j : ℕ) (d : Move) → first ≤ j → j < i → (get_or xs j d).span.lo < hi
  pub rest : (k : ℕ) → reach ≤ k → k < hi → route old xs cs k ≡ route old (drop i xs) cs k
  pub ahead : (d : Move) → i < length xs → reach < (get_or xs i d).span.hi
  pub grows : Grows (route old xs cs) lo reach was now

pub walk_none : (old : List PlanRange) (xs : List Move) (cs : Said) (lo hi first : ℕ) (was : List PlanRange) → lo ≤ hi → FirstMove xs lo first → Walk old xs cs lo lo hi first first was was
walk_none old xs cs lo hi first was le p = record {
  low = omega arith;
  high = le;
  from = omega arith;
  within = p.within;
  before = λ j d a b. absurd (omega arith);
  rest = λ k a b. first_routes old xs cs lo first p k a;
  ahead = λ d lt. p.after first d (omega arith) lt;
  grows = λ f from is l. l;
}

pub walk_more : (old : List PlanRange) (xs : List Move) (cs : Said) (lo reach hi first i : ℕ) (x d : Move) (start next : ℕ) (was new mid end : List PlanRange)
    → MovesRise 0 xs → i < length xs → x ≡ get_or xs i d → x.span.lo < hi → start ≡ max x.span.lo reach → next ≡ min x.span.hi hi
    → Walk old xs cs lo reach hi first i was new → Grows (owner_of old) reach start new mid → Grows (piece cs x) start next mid end
    → Walk old xs cs lo next hi first (i + 1) was end
walk_more old xs cs lo reach hi first i x d start next was new mid end c lt is below s n w p q =
    let rest : drop i xs ≡ x ∷ drop (i + 1) xs = drop_more xs i d lt ∙ ap (λ y. y ∷ drop (i + 1) xs) (sym is) in
    let dropped = rise_drop 0 xs i c in
    let one : MovesRise dropped.0 (x ∷ drop (i + 1) xs) = subst (MovesRise dropped.0) rest dropped.2 in
    let ends : reach < x.span.hi = subst (λ (m : Move). reach < m.span.hi) (sym is) (w.ahead d lt) in
    let here : (k : ℕ) → reach ≤ k → k < hi → route old xs cs k ≡ cond (move_has k x) (piece cs x k) (route old (drop (i + 1) xs) cs k) = λ k a b. w.rest k a b ∙ ap (λ l. route old l cs k) rest in
    let none : (k : ℕ) → reach ≤ k → k < start → route old xs cs k ≡ owner_of old k = λ k a b.
    let lower : k < x.span.lo = omega arith in
    here k a (omega arith) ∙ ap (λ t. cond t (piece cs x k) (route old (drop (i + 1) xs) cs k)) (outside_below x k lower) ∙ route_below old (drop (i + 1) xs) cs x.span.hi k one.2 (omega (arith, one.1)) in
    let some : (k : ℕ) → start ≤ k → k < next → route old xs cs k ≡ piece cs x k = λ k a b.
    here k (omega arith) (omega arith) ∙ ap (λ t. cond t (piece cs x k) (route old (drop (i + 1) xs) cs k)) (inside x k (omega arith) (omega arith)) in
    record {
      low = omega (arith, w.low);
      high = omega arith;
      from = omega (arith, w.from);
      within = omega arith;
      before = λ j e a b. elim (cases_lt j i) [
        | inl less ↦ w.before j e a less
        | inr more ↦
            let at : i ≡ j = omega arith in
            subst (λ (n : ℕ). (get_or xs n e).span.lo < hi) at (subst (λ (m : Move). m.span.lo < hi) (is ∙ get_or_default xs i d e lt) below)
      ];
      rest = λ k a b. here k (omega arith) b ∙ ap (λ t. cond t (piece cs x k) (route old (drop (i + 1) xs) cs k)) (outside_above x k (omega arith));
      ahead = λ e more.
          let after = starts_rise 0 xs c i (i + 1) e (omega arith) more in
          let full = move_at 0 xs (i + 1) e c more in
          let this : x.span.hi ≤ (get_or xs (i + 1) e).span.lo = subst (λ (m : Move). m.span.hi ≤ (get_or xs (i + 1) e).span.lo) (sym (is ∙ get_or_default xs i d e lt)) after in
          omega (arith, full.1);
      grows = grows_more _ lo reach next was new end w.low (omega arith) w.grows (grows_more _ reach start next new mid end (omega arith) (omega arith)
          (grows_as (owner_of old) _ reach start new mid (λ k a b. sym (none k a b)) p)
          (grows_as (piece cs x) _ start next mid end (λ k a b. sym (some k a b)) q));
    }

pub walk_done : (old : List PlanRange) (xs : List Move) (cs : Said) (lo reach hi first i : ℕ) (was new end : List PlanRange)
    → MovesRise 0 xs → ((d : Move) → i < length xs → hi ≤ (get_or xs i d).span.lo)
    → Walk old xs cs lo reach hi first i was new → Grows (owner_of old) reach hi new end
    → Grows (route old xs cs) lo hi was end
walk_done old xs cs lo reach hi first i was new end c past w p =
    grows_more _ lo reach hi was new end w.low w.high w.grows (grows_as (owner_of old) _ reach hi new end (λ k a b. sym (none k a b)) p)
  where
    none : (k : ℕ) → reach ≤ k → k < hi → route old xs cs k ≡ owner_of old k
    none k a b = elim (cases_lt i (length xs)) [
      | inl lt ↦
          let d : Move = no_move in
          let x = get_or xs i d in
          let rest : drop i xs ≡ x ∷ drop (i + 1) xs = drop_more xs i d lt in
          let dropped = rise_drop 0 xs i c in
          let one : MovesRise dropped.0 (x ∷ drop (i + 1) xs) = subst (MovesRise dropped.0) rest dropped.2 in
          let low : hi ≤ x.span.lo = past d lt in
          let lower : MovesRise x.span.lo (x ∷ drop (i + 1) xs) = (omega arith, one.1, one.2) in
          w.rest k a b ∙ ap (λ l. route old l cs k) rest ∙ route_below old (x ∷ drop (i + 1) xs) cs x.span.lo k lower (omega arith)
      | inr ge ↦ w.rest k a b ∙ ap (λ l. route old l cs k) (drop_all i xs ge)
    ]

pub end_is : (old : List PlanRange) (xs : List Move) (cs : Said) (lo reach hi first i : ℕ) (was new : List PlanRange)
    → MovesRise 0 xs → ((d : Move) → i < length xs → hi ≤ (get_or xs i d).span.lo)
    → Walk old xs cs lo reach hi first i was new → EndMove xs hi first i
end_is old xs cs lo reach hi first i was new c past w = record {
  from = w.from;
  within = w.within;
  before = w.before;
  after = λ j d le lt. elim (cases_lt i j) [
    | inl less ↦
        let full = move_at 0 xs i d c (omega arith) in
        omega (arith, past d (omega arith), full.1, starts_rise 0 xs c i j d less lt)
    | inr ge ↦
        let at : i ≡ j = omega arith in
        subst (λ (n : ℕ). hi ≤ (get_or xs n d).span.lo) at (past d (omega arith))
  ];
}
