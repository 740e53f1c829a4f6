use Rattle.squall_cluster_tie.proofs.Ties.{publishes, looks}
use Rattle.squall_cluster_tie.proofs.desk.a_desk_is_a_router.Goals as goal

pub returns-clause-publishing : goal.returns-clause-publishing
returns-clause-publishing c = publishes _ c.known.ensures.board

pub returns-clause-looking : goal.returns-clause-looking
returns-clause-looking c = looks _ c.known.ensures.board
