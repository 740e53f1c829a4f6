use Rattle.squall_join.specs.MapBeyondLaws.{map_beyond_is}
use Rattle.squall_join.proofs.map.JoinMapBeyond.beyond.Goals as goal

pub invariant_of-result : goal.invariant_of-result
invariant_of-result g c = rw (c.in_ok-entries.ensures, c.deref.ensures.value, c.deref-2.ensures.value) (map_beyond_is g.met.K.Ord.total g.met.K.MapKey.exact g.met.V.Join.laws g.met.V.Beyond.beyond_laws _ _ c.self.invariant c.other.invariant)
