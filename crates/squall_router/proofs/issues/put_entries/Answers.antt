use Rattle.std.proofs.Common.{sym, ◌∙◌}
use Rattle.std.specs.Arc.{arc_value}
use Rattle.squall_join.specs.Flats.{flat_map}
use Rattle.squall_board.specs.Boards.{issued}
use Rattle.squall_router.proofs.Issued.{next_joins, none_joins}
use Rattle.squall_router.proofs.issues.put_entries.Goals as goal

pub loop-entry-preserved : goal.loop-entry-preserved
loop-entry-preserved c n = next_joins (λ e. (e.0, flat_map arc_value e.1)) (issued c.put_issue.new.self) (issued c.loop-entry.board) c.args.entries.now c.loop-entry.entry-index c.entry-item.result c.loop-entry-test.true c.entry-item.is c.in_ok-put_issue.ensures.takes.tells.issues n ∙ c.loop-entry.invariant n

pub returns : goal.returns
returns c n = sym (none_joins (λ e. (e.0, flat_map arc_value e.1)) (issued c.loop-entry.board n) c.args.entries.now c.loop-entry.entry-index n c.loop-entry-test.false) ∙ c.loop-entry.invariant n
