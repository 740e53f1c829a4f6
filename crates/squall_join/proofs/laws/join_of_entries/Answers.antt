use Rattle.squall_join.specs.MapLaws.{find_merged}
use Rattle.squall_join.proofs.laws.join_of_entries.Goals as goal

pub returns : goal.returns
returns g c x y q m n = find_merged g.met.K.Ord.total g.V.Join.join q x y m.sorted n.sorted
