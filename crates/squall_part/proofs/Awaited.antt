-- The keys that a partition awaits by a course.
use Rattle.std.proofs.Common.{◌≡◌, ℕ, ◌<◌, ◌==◌, ◌&&◌, ◌||◌, not, Bool, true, false, List, [], ◌∷◌, Result, Ok, Err, refl, sym, ap, ◌∙◌}
use Rattle.std.specs.Prelude.{OnOk, OnErr}
use Rattle.std.specs.List.{AllByRecursion, list_any}
use Rattle.std.proofs.Math.Bool.{and-true, and-false, or-false}
use Rattle.squall_span.specs.Spans.{Interval, has, span_has, IsCanonical, insert_span, without_span}
use Rattle.squall_span.specs.SpanLaws.{has-minus, has-insert}
use Rattle.squall_plan.specs.declared.range.PlanRange.{PlanRange}
use Rattle.squall_plan.specs.Ranges.{owner_of}
use Rattle.squall_course.specs.declared.moving.Move.{Move}
use Rattle.squall_course.specs.Change.{Change}
use Rattle.squall_course.specs.Subplans.{moves}
use Rattle.squall_course.specs.Moves.{move_has, in_moves, IsMove, AreMoves}
use Rattle.squall_part.specs.Logs.{awaits, IsAwaited}

-- ---- the keys that come in

-- the move is to the partition, and has the key
abbrev pub brings : ℕ → ℕ → Move → Bool
brings id k m = (m.dest == id) && move_has k m

one_brings : (old new : List PlanRange) (id k : ℕ) (m : Move) → IsMove old new m → brings id k m ≡ (move_has k m && (owner_of new k == id))
one_brings old new id k m is = by (move_has k m) refl
  where
    by : (b : Bool) → move_has k m ≡ b → ((m.dest == id) && b) ≡ (b && (owner_of new k == id))
    by true h = and-true (m.dest == id) ∙ ap (λ o. o == id) (sym (is.dest k h))
    by false h = and-false (m.dest == id)

both_or : (a b c : Bool) → ((a && c) || (b && c)) ≡ ((a || b) && c)
both_or true b true = refl
both_or true true false = refl
both_or true false false = refl
both_or false b c = refl

brought : (old new : List PlanRange) (id k : ℕ) (ms : List Move) → AllByRecursion (IsMove old new) ms → list_any (brings id k) ms ≡ (in_moves k ms && (owner_of new k == id))
brought old new id k [] each = refl
brought old new id k (m ∷ ms) each = (λ i. one_brings old new id k m each.0 i || brought old new id k ms each.1 i) ∙ both_or (move_has k m) (in_moves k ms) (owner_of new k == id)

-- the moves to the partition have the keys that come in
pub incoming_are : (c : Change) (id : ℕ) (ms : List Move) → AreMoves c.old c.new ms → (k : ℕ) → list_any (brings id k) ms ≡ (moves c.old c.new k && (owner_of c.new k == id))
incoming_are c id ms are k = brought c.old c.new id k ms are.each ∙ ap (λ b. b && (owner_of c.new k == id)) (are.all k)

-- ---- the set of a log

-- at first all that come in
pub awaited_first : (c : Change) (id : ℕ) (awaited : List Interval) → ((k : ℕ) → has awaited k ≡ (moves c.old c.new k && (owner_of c.new k == id))) → IsAwaited id c [] awaited
awaited_first c id awaited keys = record { keys = λ k. keys k ∙ ap (λ b. moves c.old c.new k && b) (sym (and-true (owner_of c.new k == id))) }

lacks : (m o l s : Bool) → ((m && (o && not l)) && not s) ≡ (m && (o && not (s || l)))
lacks false o l s = refl
lacks true false l s = refl
lacks true true true true = refl
lacks true true true false = refl
lacks true true false true = refl
lacks true true false false = refl

-- then without what is loaded
awaited_then : (c : Change) (id : ℕ) (s : Interval) (loaded awaited : List Interval) → s.lo < s.hi → IsCanonical loaded → IsAwaited id c loaded awaited → IsAwaited id c (insert_span s loaded) (without_span s awaited)
awaited_then c id s loaded awaited lt is was = record {
  keys = λ k. has-minus awaited (s ∷ []) k ∙ (λ i. was.keys k i && not (or-false (span_has s k) i)) ∙ lacks (moves c.old c.new k) (owner_of c.new k == id) (has loaded k) (span_has s k)
      ∙ ap (λ b. moves c.old c.new k && ((owner_of c.new k == id) && not b)) (sym (has-insert s loaded k lt is));
}

pub awaited_still : {A E : Type 0} (r : Result A E) (P Q : Type 0) (c : Change) (id : ℕ) (s : Interval) (loaded awaited loaded-new awaited-new : List Interval) → s.lo < s.hi → IsCanonical loaded
    → OnOk r (loaded-new ≡ insert_span s loaded) → OnOk r (awaited-new ≡ without_span s awaited) → OnErr r (P × Q × (loaded-new ≡ loaded) × (awaited-new ≡ awaited)) → IsAwaited id c loaded awaited → IsAwaited id c loaded-new awaited-new
awaited_still (Ok x) P Q c id s loaded awaited loaded-new awaited-new lt is l a err was = record { keys = λ k. ap (λ ks. has ks k) a ∙ (awaited_then c id s loaded awaited lt is was).keys k ∙ ap (λ ks. awaits id c ks k) (sym l) }
awaited_still (Err e) P Q c id s loaded awaited loaded-new awaited-new lt is l a err was = record { keys = λ k. ap (λ ks. has ks k) err.3 ∙ was.keys k ∙ ap (λ ks. awaits id c ks k) (sym err.2) }
