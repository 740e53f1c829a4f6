use Rattle.std.proofs.Common.{length, ap, ◌∙◌, arith}
use Rattle.std.proofs.lemmas.List.Sums.{count_by-le-length}
use Rattle.squall_course.specs.Moves.{moves_of}
use Rattle.squall_board.specs.Boards.{says}
use Rattle.squall_status.specs.Summary.{is_done}
use Rattle.squall_status.proofs.Moved.{few_receivers}
use Rattle.squall_status.proofs.subplan.subplan_status.Goals as goal

pub overflow_cast-result : goal.overflow_cast-result
overflow_cast-result c =
    let few = few_receivers (moves_of c.args.course.now.old c.args.course.now.new) c.args.sub in
    let same = ap length c.in_ok-receivers.ensures in
    omega (arith, few, same, c.len.ensures)

pub overflow_cast-result-2 : goal.overflow_cast-result-2
overflow_cast-result-2 c =
    let few = few_receivers (moves_of c.args.course.now.old c.args.course.now.new) c.args.sub in
    let same = ap length (c.deref.ensures.value ∙ c.in_ok-receivers.ensures) in
    omega (arith, few, same, c.count_done-done.ensures, count_by-le-length (is_done (says c.args.board.now) c.number-number.result c.args.sub) c.deref.result.now)
