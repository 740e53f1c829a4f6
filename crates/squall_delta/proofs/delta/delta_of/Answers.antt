use Rattle.std.proofs.Common.{◌≡◌, [], ap, sym, subst, ◌∙◌}
use Rattle.squall_report.specs.Told.{SameTold, told_by_report}
use Rattle.squall_board.specs.Boards.{BoardValue, empty_board, board_join, report_board, told}
use Rattle.squall_board.specs.BoardLaws.{board_laws, report_tells}
use Rattle.squall_board.specs.TakesLaws.{report_board_is, takes_one}
use Rattle.squall_delta.proofs.delta.delta_of.Goals as goal

pub returns-clause-value : goal.returns-clause-value
returns-clause-value c =
    let board = report_board c.args.report.now in
    let nested = (report_board_is c.args.report.now c.kind-kind.ensures.limits).nested in
    c.in_ok-take.ensures.takes.joined
    ∙ ap (λ (b : BoardValue). board_join b board) c.new-delta.ensures.empty
    ∙ board_laws.comm empty_board board board_laws.bottom_is nested
    ∙ board_laws.neutral board nested

pub returns-clause-told : goal.returns-clause-told
returns-clause-told c = subst (λ (b : BoardValue). SameTold (told b) (told_by_report c.args.report.now)) (sym (returns-clause-value c)) (report_tells c.args.report.now)

pub returns-clause-taken : goal.returns-clause-taken
returns-clause-taken c = takes_one _ _ c.take.new.self c.args.report.now [] c.in_ok-take.ensures.takes c.new-delta.ensures.taken
