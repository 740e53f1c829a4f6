use Rattle.squall_store_log.proofs.Written.{made_goes_on, alike_goes_on}
use Rattle.squall_store_log.proofs.laws.what_is_written_goes_on.Goals as goal

pub returns-clause-made : goal.returns-clause-made
returns-clause-made c = made_goes_on

pub returns-clause-alike : goal.returns-clause-alike
returns-clause-alike c = alike_goes_on
