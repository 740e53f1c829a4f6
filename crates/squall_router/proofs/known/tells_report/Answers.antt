use Rattle.std.specs.Prelude.{◌≡◌, ◌↔◌, ℕ, true, nat_lt, IsTrue}
use Rattle.std.proofs.Common.{subst, sym}
use Rattle.std.specs.Arc.{arc_value}
use Rattle.squall_join.specs.declared.flat.Flat.TheVariants.{One}
use Rattle.squall_report.specs.declared.report.ReportKind.TheVariants.{Done}
use Rattle.squall_report.specs.Issues.{PlanPair}
use Rattle.squall_report.specs.Cells.{CellPlace}
use Rattle.squall_report.specs.Facts.{LoadedKey}
use Rattle.squall_report.specs.Told.{TellsAll, both_issued, told_by_report}
use Rattle.squall_span.specs.Spans.{span_has}
use Rattle.squall_board.specs.Boards.{issued, says, told}
use Rattle.squall_router.proofs.Already.{iff_then, tells_loaded, tells_done, tells_opened, tells_issued}
use Rattle.squall_router.proofs.known.tells_report.Goals as goal

pub returns-in-Loaded : goal.returns-in-Loaded
returns-in-Loaded c =
    let b = c.args.board.now in
    let r = c.tells_load.result in
    subst (λ q. IsTrue r ↔ TellsAll (told b) (told_by_report q)) c.in-Loaded.ensures.kind
    (iff_then (subst (λ (d : CellPlace). IsTrue r ↔ ((k : ℕ) → span_has c.in-Loaded.span k ≡ true → says b (LoadedKey d k) ≡ true)) c.of.ensures c.tells_load.ensures)
    (tells_loaded b c.in-Loaded.number c.in-Loaded.sub c.in-Loaded.part c.in-Loaded.span))

pub returns-in-Done : goal.returns-in-Done
returns-in-Done c =
    let b = c.args.board.now in
    subst (λ q. IsTrue c.says_done.result ↔ TellsAll (told b) (told_by_report q)) c.in-Done.ensures.kind
    (subst (λ t. IsTrue t ↔ TellsAll (told b) (told_by_report (Done c.in-Done.number c.in-Done.sub c.in-Done.part))) (sym c.says_done.ensures) (tells_done b c.in-Done.number c.in-Done.sub c.in-Done.part))

pub returns-in-Opened : goal.returns-in-Opened
returns-in-Opened c =
    let b = c.args.board.now in
    subst (λ q. IsTrue (nat_lt c.in-Opened.sub c.opened.result) ↔ TellsAll (told b) (told_by_report q)) c.in-Opened.ensures.kind
    (tells_opened b c.in-Opened.number c.in-Opened.sub c.opened.result c.opened.ensures.facts)

pub returns-in-Issued : goal.returns-in-Issued
returns-in-Issued c =
    let b = c.args.board.now in
    let r = c.tells_issue.result in
    let n = c.in-Issued.number in
    subst (λ q. IsTrue r ↔ TellsAll (told b) (told_by_report q)) c.in-Issued.ensures.kind
    (iff_then (subst (λ (p : PlanPair). IsTrue r ↔ (both_issued (issued b n) (One p) ≡ issued b n)) c.deref.ensures c.tells_issue.ensures) (tells_issued b n (arc_value c.in-Issued.issue.now)))
