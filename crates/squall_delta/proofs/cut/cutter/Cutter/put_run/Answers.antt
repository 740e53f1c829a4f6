use Rattle.std.proofs.Common.{ap, ◌∙◌}
use Rattle.squall_board.specs.Boards.{board_join, cell_board}
use Rattle.squall_board.specs.Listed.{CellEntry, entry_value}
use Rattle.squall_delta.proofs.Slices.{run_is_set, run_step}
use Rattle.squall_delta.proofs.cut.cutter.Cutter.put_run.Goals as goal

pub cell_of-requires-clause-spans : goal.cell_of-requires-clause-spans
cell_of-requires-clause-spans c = run_is_set c.args.self.now.piece c.args.place c.args.run.now c.requires.next

pub returns-clause-measured : goal.returns-clause-measured
returns-clause-measured c =
    let put = c.in_ok-take_cell.ensures.takes.joined ∙ ap (λ (e : CellEntry). board_join c.args.self.now.piece (cell_board e.cell (entry_value e))) c.in_ok-cell.ensures in
    rw c.bytes_with_cell.ensures (run_step c.args.self.now.most c.args.self.now.finished.items c.args.self.now.piece c.take_cell.new.self c.args.self.now.length c.args.self.now.has_issues c.args.self.now.last c.args.place c.args.run.now c.args.self.now.short c.requires.wide c.requires.measured c.requires.next c.requires.some c.requires.fit put).1

pub returns-clause-fed : goal.returns-clause-fed
returns-clause-fed c =
    let put = c.in_ok-take_cell.ensures.takes.joined ∙ ap (λ (e : CellEntry). board_join c.args.self.now.piece (cell_board e.cell (entry_value e))) c.in_ok-cell.ensures in
    (run_step c.args.self.now.most c.args.self.now.finished.items c.args.self.now.piece c.take_cell.new.self c.args.self.now.length c.args.self.now.has_issues c.args.self.now.last c.args.place c.args.run.now c.args.self.now.short c.requires.wide c.requires.measured c.requires.next c.requires.some c.requires.fit put).0
