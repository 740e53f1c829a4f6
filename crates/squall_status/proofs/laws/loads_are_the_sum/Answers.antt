use Rattle.std.proofs.Common.{sym, ◌∙◌}
use Rattle.squall_status.proofs.Moved.{keys_sum, loaded_sum}
use Rattle.squall_status.proofs.laws.loads_are_the_sum.Goals as goal

pub returns-clause-keys : goal.returns-clause-keys
returns-clause-keys c = λ d told s plans is. keys_sum d told s.moves plans is.statuses ∙ sym is.keys

pub returns-clause-loaded : goal.returns-clause-loaded
returns-clause-loaded c = λ d told s plans is. loaded_sum d told s.moves plans is.statuses ∙ sym is.loaded
