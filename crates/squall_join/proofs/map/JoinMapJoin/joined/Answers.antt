use Rattle.squall_join.specs.MapLaws.{merged_is}
use Rattle.squall_join.proofs.map.JoinMapJoin.joined.Goals as goal

pub invariant_of-result : goal.invariant_of-result
invariant_of-result g c = rw (c.in_ok-entries.ensures, c.deref.ensures.value, c.deref-2.ensures.value) (merged_is g.met.K.Ord.total g.met.K.MapKey.exact g.met.V.Join.laws _ _ c.self.invariant c.other.invariant)
