use Rattle.std.proofs.Common.{arith, refl}
use Rattle.squall_join.proofs.Places.{not_found_not_covered, not_below_not_covered, covers_entry, covers_from_entries, elements_more}
use Rattle.squall_join.specs.Entries.{CoversEntry}
use Rattle.squall_join.proofs.map.JoinMapJoin.covers.Goals as goal

pub returns-in-None : goal.returns-in-None
returns-in-None g c = (λ h. cc, λ h. absurd (not_found_not_covered g.met.K.Ord.total g.met.K.MapKey.exact g.met.V.Join.laws c.args.self.now c.deref-entry-items.result.now c.known.ensures (rw (c.deref-entry-items.ensures.value, c.other.view_is) c.known-2.ensures) c.loop-entry.entry-index c.entry-item.result c.loop-entry-test.true c.entry-item.is c.in-None.ensures (rw (c.deref-entry-items.ensures.value, c.other.view_is) h)))

pub returns-then-not-covers : goal.returns-then-not-covers
returns-then-not-covers g c = (λ h. cc, λ h. absurd (not_below_not_covered g.met.K.Ord.total g.met.K.MapKey.exact g.met.V.Join.laws c.args.self.now c.deref-entry-items.result.now c.known.ensures (rw (c.deref-entry-items.ensures.value, c.other.view_is) c.known-2.ensures) c.loop-entry.entry-index c.entry-item.result c.in-Some.value.now c.loop-entry-test.true c.entry-item.is c.in-Some.ensures (λ e. let t = c.if-not-covers.ensures.1 e in cc) (rw (c.deref-entry-items.ensures.value, c.other.view_is) h)))

pub returns : goal.returns
returns g c = (λ _. rw (← c.other.view_is, ← c.deref-entry-items.ensures.value) (covers_from_entries g.met.K.Ord.total g.met.K.MapKey.exact g.met.V.Join.laws c.args.self.now c.deref-entry-items.result.now c.known.ensures (rw (c.deref-entry-items.ensures.value, c.other.view_is) c.known-2.ensures) (λ k d lt. c.loop-entry.invariant k d (omega arith))), λ _. refl)

pub loop-entry-preserved : goal.loop-entry-preserved
loop-entry-preserved g c = elements_more (CoversEntry g.K.Ord.cmp g.V.Join.join c.args.self.now) c.deref-entry-items.result.now c.loop-entry.entry-index c.entry-item.result c.loop-entry-test.true c.entry-item.is c.loop-entry.invariant (covers_entry g.met.K.Ord.total g.met.K.MapKey.exact g.met.V.Join.laws c.args.self.now c.entry-item.result c.in-Some.value.now c.in-Some.ensures (c.if-not-covers.ensures.0 refl))
