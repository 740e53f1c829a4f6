-- Laws of the route by moves.
use Rattle.std.specs.Prelude.{◌≡◌, ℕ, ◌==◌, not, Bool, true, false, ◌||◌, cond, List, [], ◌∷◌, Option, None, Some, refl}
use Rattle.std.proofs.Common.{sym, ap, ◌∙◌, arith, inl, inr}
use Rattle.std.proofs.lemmas.Bool.{true≢false}
use Rattle.std.proofs.lemmas.Bool.Decides.{nat_tests}
use Rattle.std.specs.List.{AllByRecursion}
use Rattle.squall_span.specs.Spans.{has}
use Rattle.squall_join.specs.Facts.{flag_says, pair_says, found_says}
use Rattle.squall_plan.specs.declared.range.PlanRange.{PlanRange}
use Rattle.squall_plan.specs.Ranges.{owner_of}
use Rattle.squall_course.specs.Change.{Change}
use Rattle.squall_course.specs.declared.moving.Move.{Move}
use Rattle.squall_course.specs.Subplans.{moves, sub_at, sub_of}
use Rattle.squall_course.specs.Moves.{AreMoves, IsMove, in_moves, move_has}
use Rattle.squall_report.specs.Cells.{CellPlace, place_at}
use Rattle.squall_report.specs.Facts.{Fact}
use Rattle.squall_board.specs.Boards.{CellValue, BoardValue, says, cell_of}
use Rattle.squall_board.specs.BoardLaws.{come_found}
use Rattle.squall_board.specs.Route.{has_come, route}
use Rattle.squall_board.specs.MovesRoute.{has_come_to, cell_has_come, route_in_move, route_by_moves}

-- the route of a key that moves
abbrev moved_route : Change → (Fact → Bool) → ℕ → ℕ
moved_route c says k = cond (has_come c says k) (owner_of c.new k) (owner_of c.old k)

-- the route by a source, a destination and a sub-plan
abbrev picked : (Fact → Bool) → ℕ → ℕ → ℕ → ℕ → ℕ → ℕ
picked says number sub source dest k = cond (has_come_to says (place_at number sub dest) k) dest source

in_its_move : (c : Change) (says : Fact → Bool) (m : Move) (k : ℕ) → IsMove c.old c.new m → move_has k m ≡ true → route_in_move c.number says m k ≡ moved_route c says k
in_its_move c says m k is has =
    let source : owner_of c.old k ≡ m.source = is.source k has in
    let dest : owner_of c.new k ≡ m.dest = is.dest k has in
    let sub : m.sub ≡ sub_of c.old c.new k = is.sub ∙ ap (λ s. sub_at c.old c.new s m.dest) (sym source) ∙ ap (sub_at c.old c.new (owner_of c.old k)) (sym dest) in
    λ i. picked says c.number (sub i) (sym source i) (sym dest i) k

in_some_move : (c : Change) (says : Fact → Bool) (ms : List Move) (k : ℕ) → AllByRecursion (IsMove c.old c.new) ms → in_moves k ms ≡ true → route_by_moves c.number c.old ms says k ≡ moved_route c says k
in_some_move c says [] k all e = absurd (true≢false (sym e))
in_some_move c says (m ∷ ms) k all e = elim (move_has k m) as (λ b. move_has k m ≡ b → (b || in_moves k ms) ≡ true → cond b (route_in_move c.number says m k) (route_by_moves c.number c.old ms says k) ≡ moved_route c says k) [
  | true ↦ λ has _. in_its_move c says m k all.0 has
  | false ↦ λ _ rest. in_some_move c says ms k all.1 rest
] refl e

in_no_move : (number : ℕ) (old : List PlanRange) (says : Fact → Bool) (ms : List Move) (k : ℕ) → in_moves k ms ≡ false → route_by_moves number old ms says k ≡ owner_of old k
in_no_move number old says [] k e = refl
in_no_move number old says (m ∷ ms) k e = elim (move_has k m) as (λ b. (b || in_moves k ms) ≡ false → cond b (route_in_move number says m k) (route_by_moves number old ms says k) ≡ owner_of old k) [
  | true ↦ λ bad. absurd (true≢false bad)
  | false ↦ λ rest. in_no_move number old says ms k rest
] e

stays : (a b : ℕ) → not (a == b) ≡ false → a ≡ b
stays a b e = grind (arith, nat_tests)

by_cases : (c : Change) (says : Fact → Bool) (ms : List Move) (k : ℕ) → AllByRecursion (IsMove c.old c.new) ms → (b : Bool) → in_moves k ms ≡ b → moves c.old c.new k ≡ b
    → route_by_moves c.number c.old ms says k ≡ cond (not b || has_come c says k) (owner_of c.new k) (owner_of c.old k)
by_cases c says ms k all true e m = in_some_move c says ms k all e
by_cases c says ms k all false e m = in_no_move c.number c.old says ms k e ∙ stays (owner_of c.old k) (owner_of c.new k) m

-- the route by the moves between two plans is the route
pub route_by_moves_is : (c : Change) (says : Fact → Bool) (ms : List Move) (k : ℕ) → AreMoves c.old c.new ms → route_by_moves c.number c.old ms says k ≡ route c says k
route_by_moves_is c says ms k are = by_cases c says ms k are.each (moves c.old c.new k) (are.all k) refl

-- ---- by the board's cells

found_come : (x : Option CellValue) (k : ℕ) → (found_says (pair_says has flag_says) x (inl k) || found_says (pair_says has flag_says) x (inr tt)) ≡ cell_has_come x k
found_come None k = refl
found_come (Some cell) k = refl

-- whether a key has come to a cell is said by the board's cell
pub cell_says_what_came : (b : BoardValue) (cell : CellPlace) (k : ℕ) → has_come_to (says b) cell k ≡ cell_has_come (cell_of b cell) k
cell_says_what_came b cell k = sym (come_found b cell k (cell_of b cell) refl) ∙ found_come (cell_of b cell) k
