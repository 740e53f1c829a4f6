use Rattle.squall_join.specs.MapLaws.{same_map}
use Rattle.squall_join.proofs.laws.equal_lookups_equal_maps.Goals as goal

pub returns : goal.returns
returns g c = same_map g.met.K.Ord.total g.met.K.MapKey.exact g.met.V.Join.laws
