use Rattle.squall_nodes.proofs.Sent.{reports_may_be_sent, boards_may_be_sent}
use Rattle.squall_nodes.proofs.laws.parts_may_be_sent.Goals as goal

pub returns-clause-report : goal.returns-clause-report
returns-clause-report c = reports_may_be_sent

pub returns-clause-board : goal.returns-clause-board
returns-clause-board c = boards_may_be_sent
