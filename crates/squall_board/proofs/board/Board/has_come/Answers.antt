use Rattle.std.specs.Prelude.{None, Some}
use Rattle.std.proofs.Common.{◌∙◌}
use Rattle.squall_report.specs.Cells.{place_at}
use Rattle.squall_board.specs.BoardLaws.{come_found}
use Rattle.squall_board.proofs.board.Board.has_come.Goals as goal

pub returns-in-Some : goal.returns-in-Some
returns-in-Some c = c.has_or_done.ensures ∙ come_found c.args.self.now (place_at c.args.number c.args.sub c.args.part) c.args.key (Some c.in-Some.cell.now) c.in-Some.ensures

pub returns-in-None : goal.returns-in-None
returns-in-None c = come_found c.args.self.now (place_at c.args.number c.args.sub c.args.part) c.args.key None c.in-None.ensures
