use Rattle.std.specs.Prelude.{[], ◌∷◌, ◌++◌}
use Rattle.std.proofs.Common.{sym, subst, ◌∙◌}
use Rattle.std.proofs.lemmas.List.{append-nil}
use Rattle.squall_report.specs.Told.{SameTold, told_by}
use Rattle.squall_headline.specs.Ways.{ByTakeAll, LeadTo, reports_of}
use Rattle.squall_test_nodes.proofs.router.ways.heard_as_taken.Goals as goal

pub returns : goal.returns
returns c ss qs packed also one other same =
    let heard = c.in_ok-router.ensures.ways ss qs packed also one other in
    let list = c.args.reports.now in
    let told : SameTold (told_by (reports_of heard.0)) (told_by (list ++ [])) = record {
      facts = λ f. heard.2.facts f ∙ same.facts f ∙ (λ i. (told_by (sym (append-nil list) i)).says f);
      issues = λ n. heard.2.issues n ∙ same.issues n ∙ (λ i. (told_by (sym (append-nil list) i)).issues n);
    } in
    sym c.board.ensures ∙ c.headline.ensures.boards heard.0 (ByTakeAll list ∷ []) (subst (LeadTo heard.0) (sym c.board.ensures) heard.1) c.in_ok-board.ensures told
