-- Spans that are added one by one, from the last to the first.
use Rattle.std.proofs.Common.{◌≡◌, ℕ, ◌+◌, ◌-◌, ◌<◌, ◌≤◌, List, [], ◌∷◌, length, get_or, drop, sym, ap, subst, ◌∙◌, arith}
use Rattle.std.specs.Prelude.{Result, Ok, Err, OnOk}
use Rattle.squall_key.specs.Keys.{top}
use Rattle.squall_span.specs.Spans.{Interval, IsSet, hull, insert_span, union, without_span}
use Rattle.squall_span.specs.SpanLaws.{insert_cases, set-insert}
use Rattle.squall_span.specs.Many.{spans_of}
use Rattle.squall_span.proofs.Places.{from_place}
use Rattle.squall_span.proofs.Changing.{entries_length}
use Rattle.squall_span.proofs.Removing.{set_without}

-- the union with one span more in front
pub union_before : (xs ss : List Interval) (at : ℕ) (s : Interval) → 0 < at → at ≤ length ss → s ≡ get_or ss (at - 1) s → insert_span s (union xs (drop at ss)) ≡ union xs (drop (at - 1) ss)
union_before xs ss at s some le is =
    let one : at - 1 + 1 ≡ at = omega arith in
    let all : drop (at - 1) ss ≡ s ∷ drop at ss = from_place ss (at - 1) s (omega arith) is ∙ ap (λ n. s ∷ drop n ss) one in
    ap (union xs) (sym all)

inserted_some : (s : Interval) (ss : List Interval) → 0 < length (insert_span s ss)
inserted_some s [] = omega arith
inserted_some s (t ∷ ts) = insert_cases (λ l. 0 < length l) s t ts (λ _. omega arith) (λ _ _. omega arith) (λ _ _. inserted_some (hull s t) ts)

pub some_inserted : (s : Interval) (es : List (ℕ × ℕ)) (ss : List Interval) → spans_of es ≡ insert_span s ss → 0 < length es
some_inserted s es ss is = let some = inserted_some s ss in omega (arith, some, ap length is, entries_length es)

-- what an edit in blocks leaves is a set
pub ok_inserted : {T E : Type 0} (s : Interval) (old new : List (ℕ × ℕ)) (r : Result T E) → s.lo < s.hi → s.hi ≤ top → IsSet (spans_of old) → OnOk r (spans_of new ≡ insert_span s (spans_of old)) → OnOk r (IsSet (spans_of new))
ok_inserted s old new (Ok x) p le c is = subst IsSet (sym is) (set-insert s (spans_of old) p le c)
ok_inserted s old new (Err e) p le c is = tt

pub ok_removed : {T E : Type 0} (s : Interval) (old new : List (ℕ × ℕ)) (r : Result T E) → s.lo < s.hi → s.hi ≤ top → IsSet (spans_of old) → OnOk r (spans_of new ≡ without_span s (spans_of old)) → OnOk r (IsSet (spans_of new))
ok_removed s old new (Ok x) p le c is = subst IsSet (sym is) (set_without s (spans_of old) p le c)
ok_removed s old new (Err e) p le c is = tt

pub ok_replaced : {T E : Type 0} (new made : List (ℕ × ℕ)) (ss : List Interval) (r : Result T E) → OnOk r (new ≡ made) → spans_of made ≡ ss → OnOk r (spans_of new ≡ ss)
ok_replaced new made ss (Ok x) is made_is = ap spans_of is ∙ made_is
ok_replaced new made ss (Err e) is made_is = tt
