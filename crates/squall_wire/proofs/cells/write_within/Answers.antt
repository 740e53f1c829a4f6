use Rattle.std.proofs.Common.{◌<◌, subst}
use Rattle.squall_board.specs.Listed.{cell_entry}
use Rattle.squall_wire.specs.FitsLaws.{many_spans}
use Rattle.squall_wire.proofs.cells.write_within.Goals as goal

pub returns-then-len-gt-SPAN_LIMIT-clause-long : goal.returns-then-len-gt-SPAN_LIMIT-clause-long
returns-then-len-gt-SPAN_LIMIT-clause-long c = λ e. many_spans c.args.out.now.items (cell_entry c.args.place c.args.cell.now) (subst (λ n. 65536 < n) c.len.ensures c.if-len-gt-SPAN_LIMIT.true)
