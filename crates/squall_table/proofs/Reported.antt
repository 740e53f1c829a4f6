-- The keys that a report touches.
use Rattle.std.proofs.Common.{◌≡◌, ℕ, Bool, true, false, List, refl, sym, ap, ◌∙◌, arith}
use Rattle.std.specs.Prelude.{◌==◌, ◌||◌, ◌&&◌}
use Rattle.std.proofs.lemmas.Bool.Decides.{nat_tests}
use Rattle.squall_key.specs.Lemmas.{eq_comm}
use Rattle.squall_span.specs.Spans.{Interval, span_has}
use Rattle.squall_plan.specs.Ranges.{owner_of}
use Rattle.squall_course.specs.Change.{Change}
use Rattle.squall_course.specs.Subplans.{moves, sub_of}
use Rattle.squall_course.specs.declared.moving.Move.{Move}
use Rattle.squall_course.specs.Moves.{AreMoves}
use Rattle.squall_course.proofs.Gathered.{incoming_keys}
use Rattle.squall_report.specs.declared.report.ReportKind.{ReportKind}
use Rattle.squall_report.specs.declared.report.ReportKind.TheVariants.{Loaded}
use Rattle.squall_report.specs.Issues.{PlanPair}
use Rattle.squall_report.specs.Cells.{CellPlace}
use Rattle.squall_report.specs.Facts.{LoadedKey, DonePart, report_says}
use Rattle.squall_board.specs.Boards.{says, report_board}
use Rattle.squall_board.specs.BoardLaws.{report_tells}
use Rattle.squall_board.specs.Route.{place_of_key}
use Rattle.squall_table.specs.Touched.{is_touched}
use Rattle.squall_table.specs.Touching.{brought}

same_test : (x y : ℕ) → x ≡ y → (x == y) ≡ true
same_test x y e = grind (arith, nat_tests)

loaded_there : (m n s p h : Bool) → n ≡ true → (m && (((n && (s && p)) && h) || false)) ≡ (h && (m && (s && p)))
loaded_there true n true true true e = rw e refl
loaded_there true n true true false e = rw e refl
loaded_there true n true false true e = rw e refl
loaded_there true n true false false e = rw e refl
loaded_there true n false p true e = rw e refl
loaded_there true n false p false e = rw e refl
loaded_there false n s p true e = refl
loaded_there false n s p false e = refl

-- a load under the course's number touches those keys of its span that moves bring to its place
pub load_touches : (c : Change) (ms : List Move) (cell : CellPlace) (s : Interval) (k : ℕ) → AreMoves c.old c.new ms → cell.number ≡ c.number
    → (span_has s k && brought cell.sub cell.part ms k) ≡ is_touched c (report_says (Loaded cell.number cell.sub cell.part s)) k
load_touches c ms cell s k are same =
    ap (λ b. span_has s k && b)
    (incoming_keys c.old c.new ms cell.sub cell.part k are
    ∙ (λ i. moves c.old c.new k && (eq_comm (sub_of c.old c.new k) cell.sub i && eq_comm (owner_of c.new k) cell.part i)))
    ∙ sym (loaded_there (moves c.old c.new k) (cell.number == c.number) (cell.sub == sub_of c.old c.new k) (cell.part == owner_of c.new k) (span_has s k) (same_test cell.number c.number same))

-- the board of a report touches what the report touches
pub board_touches : (c : Change) (r : ReportKind PlanPair) (k : ℕ) → is_touched c (report_says r) k ≡ is_touched c (says (report_board r)) k
board_touches c r k = λ i. moves c.old c.new k && (sym ((report_tells r).facts (LoadedKey (place_of_key c k) k)) i || sym ((report_tells r).facts (DonePart (place_of_key c k))) i)
