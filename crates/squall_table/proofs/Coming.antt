-- What is known of the keys of a move.
use Rattle.std.proofs.Common.{◌≡◌, ℕ, Bool, true, false, ◌||◌, ◌&&◌, cond, nat_lt, List, Option, Some, None, Result, Ok, Err, OnOk, refl, sym, ap, ◌∙◌, inl, inr}
use Rattle.std.proofs.lemmas.Bool.{cases_Bool, true≢false}
use Rattle.std.proofs.lemmas.Option.{none-some}
use Rattle.std.proofs.Math.Bool.{or-true, or-false}
use Rattle.squall_key.specs.Keys.{top}
use Rattle.squall_span.specs.Spans.{has}
use Rattle.squall_plan.specs.declared.range.PlanRange.{PlanRange}
use Rattle.squall_course.specs.declared.moving.Move.{Move}
use Rattle.squall_report.specs.Cells.{CellPlace, place_at, place_of, is_cell_place}
use Rattle.squall_report.specs.Facts.{Fact, LoadedKey, DonePart, is_fact}
use Rattle.squall_board.specs.Boards.{BoardValue, CellValue, says}
use Rattle.squall_board.specs.MovesRoute.{cell_to, has_come_to, cell_has_come, route_in_move}
use Rattle.squall_table.specs.Legs.{Grows, pick}
use Rattle.squall_table.specs.LegLaws.{grows_as}

pub no_place : (number sub part : ℕ) → place_of number sub part ≡ None → is_cell_place (place_at number sub part) ≡ false
no_place number sub part e = by (is_cell_place (place_at number sub part)) e
  where
    by : (b : Bool) → cond b (Some (place_at number sub part)) None ≡ None → b ≡ false
    by true e = absurd (none-some (place_at number sub part) (sym e))
    by false e = refl

unsaid : (b : BoardValue) (f : Fact) → ((f : Fact) → says b f ≡ true → is_fact f ≡ true) → is_fact f ≡ false → says b f ≡ false
unsaid b f facts not = elim (cases_Bool (says b f)) [
  | inl is ↦ absurd (true≢false (sym (facts f is) ∙ not))
  | inr is ↦ is
]

-- nothing is said of a cell beyond the limits
pub nowhere : (b : BoardValue) (c : CellPlace) (k : ℕ) → ((f : Fact) → says b f ≡ true → is_fact f ≡ true) → is_cell_place c ≡ false → has_come_to (says b) c k ≡ false
nowhere b c k facts not =
    let loaded = unsaid b (LoadedKey c k) facts (ap (λ x. x && nat_lt k top) not) in
    let done = unsaid b (DonePart c) facts not in
    rw (loaded, done) refl

pub ok_as : {X E : Type 0} (r : Result X E) (P Q : Type 0) → (P → Q) → OnOk r P → OnOk r Q
ok_as (Ok x) P Q f p = f p
ok_as (Err e) P Q f p = p

-- what a move's cell says of a key, and so where the key goes
abbrev pub by_cell : Option CellValue → Move → ℕ → ℕ
by_cell cell m k = cond (cell_has_come cell k) m.dest m.source

pub grows_by_cell : (number : ℕ) (says : Fact → Bool) (m : Move) (cell : Option CellValue) (lo hi : ℕ) (xs ys : List PlanRange) → ((k : ℕ) → has_come_to says (cell_to number m) k ≡ cell_has_come cell k)
    → Grows (by_cell cell m) lo hi xs ys → Grows (route_in_move number says m) lo hi xs ys
grows_by_cell number says m cell lo hi xs ys come = grows_as (by_cell cell m) (route_in_move number says m) lo hi xs ys (λ k from below. ap (λ b. cond b m.dest m.source) (sym (come k)))

-- a complete cell has all keys
pub grows_done : (m : Move) (cell : CellValue) (lo hi : ℕ) (xs ys : List PlanRange) → cell.second ≡ true → Grows (λ _. m.dest) lo hi xs ys → Grows (by_cell (Some cell) m) lo hi xs ys
grows_done m cell lo hi xs ys done = grows_as (λ _. m.dest) (by_cell (Some cell) m) lo hi xs ys (λ k from below. ap (λ b. cond b m.dest m.source) (sym (ap (λ d. has cell.first k || d) done ∙ or-true (has cell.first k))))

pub grows_picked : (m : Move) (cell : CellValue) (lo hi : ℕ) (xs ys : List PlanRange) → cell.second ≡ false → Grows (pick cell.first m.dest m.source) lo hi xs ys → Grows (by_cell (Some cell) m) lo hi xs ys
grows_picked m cell lo hi xs ys rest = grows_as (pick cell.first m.dest m.source) (by_cell (Some cell) m) lo hi xs ys (λ k from below. ap (λ b. cond b m.dest m.source) (sym (ap (λ d. has cell.first k || d) rest ∙ or-false (has cell.first k))))
