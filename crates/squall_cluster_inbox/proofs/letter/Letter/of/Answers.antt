use Rattle.std.proofs.Common.{◌∙◌}
use Rattle.squall_board.specs.BoardLaws.{report_tells, one_tells}
use Rattle.squall_board.specs.TakesLaws.{report_board_is}
use Rattle.squall_cluster_inbox.proofs.letter.Letter.of.Goals as goal

pub returns-clause-taken : goal.returns-clause-taken
returns-clause-taken c =
    let tells = report_tells c.args.report in
    let one = one_tells c.args.report in
    record { facts = λ f. tells.facts f ∙ one.facts f; issues = λ n. tells.issues n ∙ one.issues n }

pub returns-clause-board : goal.returns-clause-board
returns-clause-board c = report_board_is c.args.report c.kind-kind.ensures.limits
