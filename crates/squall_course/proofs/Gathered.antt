-- What the moves of a sub-plan bring and take.
use Rattle.std.proofs.Common.{◌≡◌, ℕ, Bool, true, false, eqb, List, [], ◌∷◌, refl, ap, ◌∙◌, inl, inr}
use Rattle.std.specs.Prelude.{◌||◌, ◌&&◌}
use Rattle.std.specs.List.{list_any, AllByRecursion}
use Rattle.std.proofs.lemmas.Bool.{cases_Bool, and_right}
use Rattle.squall_plan.specs.declared.range.PlanRange.{PlanRange}
use Rattle.squall_plan.specs.Ranges.{owner_of}
use Rattle.squall_course.specs.declared.moving.Move.{Move}
use Rattle.squall_course.specs.Change.{Change, ArePlans}
use Rattle.squall_course.specs.Subplans.{sub_of}
use Rattle.squall_course.specs.Moves.{move_has, in_moves, goes_to, is_incoming, is_outgoing, moves_of, IsMove, AreMoves}
use Rattle.squall_course.specs.Steps.{leaves}
use Rattle.squall_course.proofs.Moved.{are_moves}

settled : (g t : Bool) → ((g && true) || (t && g)) ≡ g
settled true t = refl
settled false t = and_right t false refl

-- a test that is the same at each move that has the key
tested : (old new : List PlanRange) (k : ℕ) (g : Move → Bool) (all : Bool) (ms : List Move) → AllByRecursion (IsMove old new) ms → ((m : Move) → IsMove old new m → move_has k m ≡ true → g m ≡ all) → list_any (λ m. g m && move_has k m) ms ≡ (in_moves k ms && all)
tested old new k g all [] each is = refl
tested old new k g all (m ∷ ms) each is = elim (cases_Bool (move_has k m)) [
  | inl has ↦ rw (has, is m each.0 has) (ap (λ b. (all && true) || b) (tested old new k g all ms each.1 is) ∙ settled all (in_moves k ms))
  | inr out ↦ rw out (ap (λ b. b || list_any (λ n. g n && move_has k n) ms) (and_right (g m) false refl) ∙ tested old new k g all ms each.1 is)
]

pub incoming_keys : (old new : List PlanRange) (ms : List Move) (sub part k : ℕ) → AreMoves old new ms → list_any (λ m. goes_to sub part m && move_has k m) ms ≡ is_incoming old new sub part k
incoming_keys old new ms sub part k a =
    tested old new k (goes_to sub part) (eqb (sub_of old new k) sub && eqb (owner_of new k) part) ms a.each
    (λ m is has. rw (is.sub, is.source k has, is.dest k has) refl)
    ∙ ap (λ b. b && (eqb (sub_of old new k) sub && eqb (owner_of new k) part)) (a.all k)

pub outgoing_keys : (old new : List PlanRange) (ms : List Move) (sub part k : ℕ) → AreMoves old new ms → list_any (λ m. leaves sub part m && move_has k m) ms ≡ is_outgoing old new sub part k
outgoing_keys old new ms sub part k a =
    tested old new k (leaves sub part) (eqb (sub_of old new k) sub && eqb (owner_of old k) part) ms a.each
    (λ m is has. rw (is.sub, is.source k has, is.dest k has) refl)
    ∙ ap (λ b. b && (eqb (sub_of old new k) sub && eqb (owner_of old k) part)) (a.all k)

pub course_moves : (c : Change) (i j : List PlanRange) (ms ns : List Move) → i ≡ c.old → j ≡ c.new → ArePlans i j → ns ≡ moves_of i j → ms ≡ ns → AreMoves c.old c.new ms
course_moves c i j ms ns a b plans listed same = rw (same, listed, ← a, ← b) (are_moves i j plans.old_canonical plans.new_canonical)
