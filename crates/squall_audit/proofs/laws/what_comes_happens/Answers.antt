use Rattle.squall_audit.proofs.Heard.{one_node_knows, origins_know, what_comes_happens}
use Rattle.squall_audit.proofs.Alone.{reports_come_alone}
use Rattle.squall_audit.proofs.laws.what_comes_happens.Goals as goal

pub returns-clause-line : goal.returns-clause-line
returns-clause-line c = what_comes_happens

pub returns-clause-reports : goal.returns-clause-reports
returns-clause-reports c = reports_come_alone

pub returns-clause-sender : goal.returns-clause-sender
returns-clause-sender c = one_node_knows

pub returns-clause-origin : goal.returns-clause-origin
returns-clause-origin c = origins_know
