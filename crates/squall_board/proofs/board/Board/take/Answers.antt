use Rattle.std.proofs.Common.{ap, ◌∙◌, [], ◌∷◌, true, false}
use Rattle.squall_join.specs.Pairs.{pair_of}
use Rattle.squall_board.specs.Boards.{report_board, cell_board}
use Rattle.squall_board.proofs.Merged.{took_report}
use Rattle.squall_board.proofs.board.Board.take.Goals as goal

pub returns-in-Loaded-clause-takes : goal.returns-in-Loaded-clause-takes
returns-in-Loaded-clause-takes c = took_report c.update_cell.result c.args.self.now _ c.update_cell.new.self c.args.report.now (ap (λ p. cell_board p (pair_of (c.in-Loaded.span ∷ []) false)) c.of.ensures ∙ ap report_board c.in-Loaded.ensures.kind) c.update_cell.ensures.takes

pub returns-in-Done-clause-takes : goal.returns-in-Done-clause-takes
returns-in-Done-clause-takes c = took_report c.update_cell-in-Done.result c.args.self.now _ c.update_cell-in-Done.new.self c.args.report.now (ap (λ p. cell_board p (pair_of [] true)) c.of-in-Done.ensures ∙ ap report_board c.in-Done.ensures.kind) c.update_cell-in-Done.ensures.takes

pub returns-in-Opened-clause-takes : goal.returns-in-Opened-clause-takes
returns-in-Opened-clause-takes c = took_report c.update_opening.result c.args.self.now _ c.update_opening.new.self c.args.report.now (ap report_board c.in-Opened.ensures.kind) c.update_opening.ensures.takes

pub returns-in-Issued-clause-takes : goal.returns-in-Issued-clause-takes
returns-in-Issued-clause-takes c = took_report c.update_issue.result c.args.self.now _ c.update_issue.new.self c.args.report.now (ap report_board c.in-Issued.ensures.kind) c.update_issue.ensures.takes
