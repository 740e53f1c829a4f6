use Rattle.std.proofs.Common.{◌∙◌}
use Rattle.squall_wire.specs.Views.{head_seen}
use Rattle.squall_wire.proofs.Heads.{cell_is_there, not_none}
use Rattle.squall_wire.proofs.reading.cell.CellItem.read.Goals as goal

pub returns-in_err-cell : goal.returns-in_err-cell
returns-in_err-cell c =
    let there = cell_is_there c.args.last c.args.bytes.now (head_seen c.in_ok-head.head) c.in_ok-head.rest.now c.in_ok-spans.spans c.in_ok-spans.rest.now c.in_ok-head.ensures c.in_ok-spans.ensures in
    absurd (not_none c.new.result _ (c.new.ensures ∙ there) c.in_err-cell.ensures.ok_part)
