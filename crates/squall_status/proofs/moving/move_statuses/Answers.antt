use Rattle.std.proofs.Common.{◌<◌, ◌++◌, [], ◌∷◌, List, map, subst, sym, ap, ◌∙◌, arith}
use Rattle.std.specs.List.{All, AllByRecursion}
use Rattle.std.proofs.lemmas.List.{take_more}
use Rattle.std.proofs.lemmas.List.Elements.{All-from_recursion}
use Rattle.squall_course.specs.declared.moving.Move.{Move}
use Rattle.squall_course.specs.Moves.{IsMove}
use Rattle.squall_course.specs.Subplans.{subplan_count}
use Rattle.squall_course.proofs.Counted.{moves_counted}
use Rattle.squall_course.proofs.Tabled.{most_few}
use Rattle.squall_board.specs.Boards.{says}
use Rattle.squall_board.specs.MovesRoute.{cell_to, has_come_to}
use Rattle.squall_status.specs.declared.progress.MoveStatus.{MoveStatus}
use Rattle.squall_status.specs.Coming.{IsProgress}
use Rattle.squall_status.specs.Summary.{IsMoveStatus}
use Rattle.squall_status.proofs.Moved.{all_more, moved_more, progress_by_cell}
use Rattle.squall_status.proofs.moving.move_statuses.Goals as goal

pub progress_of-progress-requires-clause-sub : goal.progress_of-progress-requires-clause-sub
progress_of-progress-requires-clause-sub c =
    let old = c.args.course.now.old in
    let new = c.args.course.now.new in
    let m : Move = c.moving-item.result in
    let all = subst (All (λ (n : Move). n.sub < subplan_count old new)) (sym c.moves-moving-items.ensures.list) (moves_counted old new c.moves-moving-items.ensures.plans) in
    let counted = all c.loop-moving.moving-index m c.loop-moving-test.true in
    let same = ap (λ (n : Move). n.sub) c.moving-item.is in
    omega (arith, counted, same, most_few old new old)

pub loop-moving-preserved : goal.loop-moving-preserved
loop-moving-preserved c =
    let change = c.args.course.now in
    let told = says c.args.board.now in
    let xs : List Move = c.moves-moving-items.result.now in
    let m : Move = c.moving-item.result in
    let status : MoveStatus = record { moving = m; progress = c.progress_of-progress.result } in
    let is = subst (IsMove change.old change.new) (sym c.moving-item.is) (All-from_recursion (IsMove change.old change.new) xs c.moves-moving-items.ensures.meaning.each c.loop-moving.moving-index m c.loop-moving-test.true) in
    let by = subst (λ n. IsProgress m.span (has_come_to told (cell_to n m)) c.progress_of-progress.result) c.number-number.ensures.value c.progress_of-progress.ensures in
    record {
      moves =
          ap (map (λ (s : MoveStatus). s.moving)) c.in_ok-push.ensures.items ∙ moved_more c.loop-moving.statuses.items status
          ∙ (λ i. c.loop-moving.invariant.moves i ++ c.moving-item.is i ∷ []) ∙ sym (take_more xs c.loop-moving.moving-index m c.loop-moving-test.true);
      each = subst (AllByRecursion (IsMoveStatus change told)) (sym c.in_ok-push.ensures.items) (all_more (IsMoveStatus change told) c.loop-moving.statuses.items status c.loop-moving.invariant.each (progress_by_cell change told m c.progress_of-progress.result is by));
    }
