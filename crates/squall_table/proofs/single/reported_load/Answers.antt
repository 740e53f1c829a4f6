use Rattle.std.proofs.Common.{◌≡◌, ℕ, true, [], ◌∷◌, ap, ◌∙◌}
use Rattle.squall_span.specs.Spans.{Interval, span_has, has}
use Rattle.squall_report.specs.declared.report.ReportKind.{ReportKind}
use Rattle.squall_report.specs.Issues.{PlanPair}
use Rattle.squall_report.specs.Cells.{place_at}
use Rattle.squall_report.specs.Facts.{report_says}
use Rattle.squall_table.specs.Touched.{is_touched}
use Rattle.squall_table.specs.Touching.{brought}
use Rattle.squall_table.proofs.Built.{rising}
use Rattle.squall_table.proofs.OneLoad.{all_brought, some_both}
use Rattle.squall_table.proofs.Reported.{load_touches}
use Rattle.squall_table.proofs.single.reported_load.Goals as goal

pub brought_there-requires : goal.brought_there-requires
brought_there-requires c = rising c.args.course.now.old c.args.course.now.new c.moves.result.now c.moves.ensures.meaning

pub returns-clause-keys : goal.returns-clause-keys
returns-clause-keys c =
    some_both c.brought_there.result (λ b. b.span ≡ c.in-Loaded.span) (λ b. (k : ℕ) → span_has c.in-Loaded.span k ≡ true → brought c.in-Loaded.sub c.in-Loaded.part c.moves.result.now k ≡ true)
    (λ b. (k : ℕ) → has (b.span ∷ []) k ≡ is_touched c.args.course.now (report_says c.args.report.now) k)
    (λ b same there k.
    ap (λ (s : Interval). has (s ∷ []) k) same
    ∙ all_brought (span_has c.in-Loaded.span k) (brought c.in-Loaded.sub c.in-Loaded.part c.moves.result.now k) (there k)
    ∙ load_touches c.args.course.now c.moves.result.now (place_at c.in-Loaded.number c.in-Loaded.sub c.in-Loaded.part) c.in-Loaded.span k c.moves.ensures.meaning (c.if-number.false ∙ c.number.ensures.value)
    ∙ ap (λ (r : ReportKind PlanPair). is_touched c.args.course.now (report_says r) k) c.in-Loaded.ensures.kind)
    c.brought_there.ensures.span c.brought_there.ensures.there
