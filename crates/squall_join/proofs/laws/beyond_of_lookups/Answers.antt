use Rattle.squall_join.specs.MapBeyondLaws.{map_beyond_is, looked_map_beyond}
use Rattle.squall_join.proofs.laws.beyond_of_lookups.Goals as goal

pub returns : goal.returns
returns g c = record {
  map = map_beyond_is g.met.K.Ord.total g.met.K.MapKey.exact g.met.V.Join.laws g.met.V.Beyond.beyond_laws;
  beyond = λ x y q. looked_map_beyond g.met.K.Ord.total g.met.K.MapKey.exact g.met.V.Join.laws g.met.V.Beyond.beyond_laws q x y;
}
