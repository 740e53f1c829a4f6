use Rattle.std.proofs.lemmas.Result.{IfOk-weaker}
use Rattle.squall_world.proofs.Named.{none_noted}
use Rattle.squall_world.proofs.starting.no_places.Goals as goal

pub returns : goal.returns
returns c = IfOk-weaker c.repeated.result _ _ (λ places is. none_noted places.items is) c.repeated.ensures
