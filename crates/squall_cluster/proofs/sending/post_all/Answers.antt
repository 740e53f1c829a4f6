use Rattle.std.proofs.Common.{◌≡◌, ◌+◌, ◌∙◌, ap, sym, subst, take, ℕ, ◌++◌, ◌∷◌, []}
use Rattle.std.specs.List.{Contains}
use Rattle.std.proofs.lemmas.List.{take_more}
use Rattle.std.proofs.lemmas.List.Elements.{Contains-get_or}
use Rattle.squall_report.specs.declared.report.ReportKind.{ReportKind}
use Rattle.squall_report.specs.Issues.{PlanPair}
use Rattle.squall_cluster.specs.Race.{Reports, Bring}
use Rattle.squall_cluster.proofs.Races.{bring_more}
use Rattle.squall_cluster.proofs.sending.post_all.Goals as goal

pub post_one-requires : goal.post_one-requires
post_one-requires g c =
    let rs : Reports = c.args.list.now in
    let r : ReportKind PlanPair = c.report-item.result in
    c.requires.1.each c.in-Ok.letter r (subst (Contains rs) (sym c.report-item.is) (Contains-get_or rs c.loop-report.report-index r c.loop-report-test.true)) c.in-Ok.ensures.taken

pub loop-report-preserved : goal.loop-report-preserved
loop-report-preserved g c =
    let i = c.loop-report.invariant in
    let e = c.in_ok-post_one.ensures in
    let rs : Reports = c.args.list.now in
    let n : ℕ = c.loop-report.report-index in
    let r : ReportKind PlanPair = c.report-item.result in
    let more : take n rs ++ r ∷ [] ≡ take (n + 1) rs = ap (λ q. take n rs ++ q ∷ []) c.report-item.is ∙ sym (take_more rs n r c.loop-report-test.true) in
    let grown = bring_more c.loop-report.sender.posted c.in-Ok.letter (take n rs) r i.2 c.in-Ok.ensures.value c.in-Ok.ensures.board in (
      e.end.0 ∙ i.0,
      e.end.1 ∙ i.1,
      subst (Bring c.post_one.new.sender.posted) more (subst (λ l. Bring l (take n rs ++ r ∷ [])) (sym e.ok) grown),
    )
