use Rattle.std.specs.Prelude.{None, Some}
use Rattle.std.proofs.Common.{◌∙◌}
use Rattle.squall_report.specs.Cells.{place_at}
use Rattle.squall_board.specs.BoardLaws.{done_found}
use Rattle.squall_board.proofs.board.Board.says_done.Goals as goal

pub returns-in-Some : goal.returns-in-Some
returns-in-Some c = c.get.ensures ∙ done_found c.args.self.now (place_at c.args.number c.args.sub c.args.part) (Some c.in-Some.cell.now) c.in-Some.ensures

pub returns-in-None : goal.returns-in-None
returns-in-None c = done_found c.args.self.now (place_at c.args.number c.args.sub c.args.part) None c.in-None.ensures
