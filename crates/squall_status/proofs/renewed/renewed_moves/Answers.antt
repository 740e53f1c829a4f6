use Rattle.std.proofs.Common.{◌++◌, [], ◌∷◌, List, map, take, subst, sym, ap, ◌∙◌, arith}
use Rattle.std.specs.List.{AllByRecursion}
use Rattle.std.proofs.lemmas.List.{take_more}
use Rattle.squall_course.proofs.Tabled.{most_few}
use Rattle.squall_course.specs.Moves.{IsMove}
use Rattle.squall_board.specs.Boards.{says}
use Rattle.squall_board.specs.MovesRoute.{cell_to}
use Rattle.squall_status.specs.declared.progress.MoveStatus.{MoveStatus}
use Rattle.squall_status.specs.News.{Renews}
use Rattle.squall_status.specs.Summary.{IsMoveStatus}
use Rattle.squall_status.proofs.Moved.{all_more, moved_more, progress_by_cell}
use Rattle.squall_status.proofs.AfterNews.{each_move, each_sub, each_status, status_after}
use Rattle.squall_status.proofs.renewed.renewed_moves.Goals as goal

pub renewed_progress-progress-requires-clause-sub : goal.renewed_progress-progress-requires-clause-sub
renewed_progress-progress-requires-clause-sub c =
    let change = c.args.course.now in
    let counted = each_sub change c.requires.before c.args.statuses.now c.subplans-subplans.ensures.plans c.requires.statuses c.loop-status.status-index c.status-item.result c.loop-status-test.true in
    let same = ap (λ (s : MoveStatus). s.moving.sub) c.status-item.is in
    omega (arith, counted, same, most_few change.old change.new change.old)

pub loop-status-preserved : goal.loop-status-preserved
loop-status-preserved c =
    let change = c.args.course.now in
    let news = says c.args.news.now in
    let told = says c.args.board.now in
    let xs : List MoveStatus = c.args.statuses.now in
    let at = c.loop-status.status-index in
    let s : MoveStatus = c.status-item.result in
    let p = c.renewed_progress-progress.result in
    let new : MoveStatus = record { moving = s.moving; progress = p } in
    let is = subst (λ (t : MoveStatus). IsMove change.old change.new t.moving) (sym c.status-item.is) (each_move change c.requires.before xs c.subplans-subplans.ensures.plans c.requires.statuses at s c.loop-status-test.true) in
    let was = subst (IsMoveStatus change c.requires.before) (sym c.status-item.is) (each_status change c.requires.before xs c.subplans-subplans.ensures.plans c.requires.statuses at s c.loop-status-test.true) in
    let renews = subst (λ n. Renews news told (cell_to n s.moving) s.moving.span s.progress p) c.number-number.ensures.value c.renewed_progress-progress.ensures in
    let by = progress_by_cell change told s.moving p is (status_after change c.requires.before news told s p c.requires.said is was renews) in
    record {
      moves =
          ap (map (λ (t : MoveStatus). t.moving)) c.in_ok-push.ensures.items ∙ moved_more c.loop-status.renewed.items new
          ∙ ap (λ ms. ms ++ s.moving ∷ []) c.loop-status.invariant.moves
          ∙ sym (ap (map (λ (t : MoveStatus). t.moving)) (take_more xs at s c.loop-status-test.true ∙ ap (λ t. take at xs ++ t ∷ []) (sym c.status-item.is)) ∙ moved_more (take at xs) s);
      each = subst (AllByRecursion (IsMoveStatus change told)) (sym c.in_ok-push.ensures.items) (all_more (IsMoveStatus change told) c.loop-status.renewed.items new c.loop-status.invariant.each by);
    }
