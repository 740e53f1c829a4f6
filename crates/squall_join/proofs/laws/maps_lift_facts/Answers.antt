use Rattle.squall_join.specs.FactLaws.{map_factual}
use Rattle.squall_join.proofs.laws.maps_lift_facts.Goals as goal

pub returns : goal.returns
returns g c says l = map_factual g.met.K.Ord.total g.met.K.MapKey.exact g.met.V.Join.laws l
