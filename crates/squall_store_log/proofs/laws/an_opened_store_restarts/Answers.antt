use Rattle.squall_store_log.proofs.Written.{opened_restarts}
use Rattle.squall_store_log.proofs.laws.an_opened_store_restarts.Goals as goal

pub returns : goal.returns
returns c = opened_restarts
