use Rattle.std.proofs.Common.{◌≡◌, ◌++◌, [], ◌∷◌, List, take, sym, ap, ◌∙◌, arith}
use Rattle.std.proofs.lemmas.List.{take_more, take_all}
use Rattle.squall_board.specs.Boards.{says}
use Rattle.squall_status.specs.declared.subplan.SubplanStatus.{SubplanStatus}
use Rattle.squall_status.proofs.AfterNews.{after_news, after_more, all_after, each_subplan}
use Rattle.squall_status.proofs.renewed.renewed_subplans.Goals as goal

pub returns : goal.returns
returns c =
    let change = c.args.course.now in
    let xs : List SubplanStatus = c.args.statuses.now in
    let whole : take c.loop-status.status-index xs ≡ xs = take_all c.loop-status.status-index xs (omega (arith, c.loop-status-test.false)) in
    c.loop-status.invariant ∙ ap (after_news change (says c.args.board.now)) whole ∙ all_after change c.requires.before (says c.args.board.now) xs c.requires.statuses

pub loop-status-preserved : goal.loop-status-preserved
loop-status-preserved c =
    let change = c.args.course.now in
    let told = says c.args.board.now in
    let xs : List SubplanStatus = c.args.statuses.now in
    let at = c.loop-status.status-index in
    let lt = c.loop-status-test.true in
    let new = c.in_ok-after.ensures c.requires.before c.requires.said (each_subplan change c.requires.before xs c.requires.statuses at _ lt) in
    ◌∙◌ {A = List SubplanStatus} c.in_ok-push.ensures.items ((λ i. c.loop-status.invariant i ++ new i ∷ []) ∙ sym (ap (after_news change told) (take_more xs at _ lt) ∙ after_more change told (take at xs) _))
