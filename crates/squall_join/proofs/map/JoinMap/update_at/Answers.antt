use Rattle.squall_join.proofs.Places.{in_place, in_gap}
use Rattle.squall_join.proofs.map.JoinMap.update_at.Goals as goal

pub invariant_of-self : goal.invariant_of-self
invariant_of-self g c = (in_place g.met.K.Ord.total g.met.K.MapKey.exact g.met.V.Join.laws _ c.self.invariant c.args.key (g.U.Update.value c.args.update) c.known.ensures.value c.known.ensures.kept c.in-Ok.at (rw c.self.view_is c.in-Ok.ensures.found) c.index_mut-entry.result.now c.index_mut-entry.ensures.value c.apply.new.target c.apply.result c.apply.ensures.ok c.apply.ensures.err).whole

pub invariant_of-self-in-Err : goal.invariant_of-self-in-Err
invariant_of-self-in-Err g c = (in_gap g.met.K.Ord.total g.met.K.MapKey.exact g.met.V.Join.laws _ c.self.invariant c.args.key (g.U.Update.value c.args.update) c.known.ensures.value c.known.ensures.kept c.in-Err.at (rw c.self.view_is c.in-Err.ensures.absent) c.put.new.entries.items _ c.in_ok-value-in-Err.ensures c.put.result c.put.ensures.value c.put.ensures.err).whole

pub returns-in-Ok-clause-ok : goal.returns-in-Ok-clause-ok
returns-in-Ok-clause-ok g c = rw (← c.self.view_is) (in_place g.met.K.Ord.total g.met.K.MapKey.exact g.met.V.Join.laws _ c.self.invariant c.args.key (g.U.Update.value c.args.update) c.known.ensures.value c.known.ensures.kept c.in-Ok.at (rw c.self.view_is c.in-Ok.ensures.found) c.index_mut-entry.result.now c.index_mut-entry.ensures.value c.apply.new.target c.apply.result c.apply.ensures.ok c.apply.ensures.err).ok

pub returns-in-Ok-clause-err : goal.returns-in-Ok-clause-err
returns-in-Ok-clause-err g c = rw (← c.self.view_is) (in_place g.met.K.Ord.total g.met.K.MapKey.exact g.met.V.Join.laws _ c.self.invariant c.args.key (g.U.Update.value c.args.update) c.known.ensures.value c.known.ensures.kept c.in-Ok.at (rw c.self.view_is c.in-Ok.ensures.found) c.index_mut-entry.result.now c.index_mut-entry.ensures.value c.apply.new.target c.apply.result c.apply.ensures.ok c.apply.ensures.err).err

pub returns-in_ok-value-in-Err-clause-ok : goal.returns-in_ok-value-in-Err-clause-ok
returns-in_ok-value-in-Err-clause-ok g c = rw (← c.self.view_is) (in_gap g.met.K.Ord.total g.met.K.MapKey.exact g.met.V.Join.laws _ c.self.invariant c.args.key (g.U.Update.value c.args.update) c.known.ensures.value c.known.ensures.kept c.in-Err.at (rw c.self.view_is c.in-Err.ensures.absent) c.put.new.entries.items _ c.in_ok-value-in-Err.ensures c.put.result c.put.ensures.value c.put.ensures.err).ok
