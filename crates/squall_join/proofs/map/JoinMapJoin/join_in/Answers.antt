use Rattle.std.proofs.Common.{sym, subst}
use Rattle.squall_join.specs.Entries.{IsMap}
use Rattle.squall_join.proofs.Drafting.{map_either_way}
use Rattle.squall_join.proofs.map.JoinMapJoin.join_in.Goals as goal

pub invariant_of-self : goal.invariant_of-self
invariant_of-self g c = map_either_way g.met.K.Ord.total g.met.K.MapKey.exact g.met.V.Join.laws c.self.inside.entries.items c.deref-then-adds_few.result.now c.join_entries.new.entries.items c.join_entries.result c.self.invariant (subst (IsMap g.K.Ord.cmp g.V.Join.is_value g.V.Join.bottom) (sym c.deref-then-adds_few.ensures.value) c.other.invariant) c.join_entries.ensures.ok c.join_entries.ensures.err
