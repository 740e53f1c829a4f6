use Rattle.squall_join.specs.LookedLaws.{looked_merged, same_looked_map}
use Rattle.squall_join.proofs.laws.join_of_lookups.Goals as goal

pub returns : goal.returns
returns g c = record {
  joined = λ x y q. looked_merged g.met.K.Ord.total g.met.V.Join.laws q x y;
  same = same_looked_map g.met.K.Ord.total g.met.K.MapKey.exact;
}
