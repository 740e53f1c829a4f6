use Rattle.std.proofs.Common.{List, ◌∙◌}
use Rattle.squall_board.specs.Boards.{says}
use Rattle.squall_status.specs.declared.subplan.SubplanStatus.{SubplanStatus}
use Rattle.squall_status.specs.Summary.{subplan_status}
use Rattle.squall_status.proofs.Moved.{statuses_more}
use Rattle.squall_status.proofs.subplan.subplan_statuses.Goals as goal

pub loop-sub-preserved : goal.loop-sub-preserved
loop-sub-preserved c =
    let more = statuses_more (subplan_status c.args.course.now (says c.args.board.now)) c.loop-sub.statuses.items c.in_ok-subplan_status.field-0 c.loop-sub.sub c.loop-sub.invariant c.in_ok-subplan_status.ensures in
    ◌∙◌ {A = List SubplanStatus} c.in_ok-push.ensures.items more
