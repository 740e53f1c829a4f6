use Rattle.std.proofs.Common.{◌+◌, length, sym, ap, subst, arith}
use Rattle.squall_join.specs.Entries.{IsPlace, IsFrom}
use Rattle.squall_join.proofs.Remains.{none_below, from_below, next_below}
use Rattle.squall_join.proofs.Drafting.{IsSoFar, none_so_far, more_so_far, below_with}
use Rattle.squall_join.proofs.draft.draft_parts.Goals as goal

pub loop-entry-init : goal.loop-entry-init
loop-entry-init g c = record {
  below = none_below g.met.K.Ord.total c.args.others.now c.args.entries.now.items c.requires.others.sorted;
  so_far = subst (λ l. IsSoFar g.met.K.Ord.total g.met.K.MapKey.exact g.V.Join.bottom g.V.Join.join g.V.Join.before g.V.Join.after g.V.Join.is_draft c.args.entries.now.items c.args.others.now c.args.entries.now.items l 0) (sym c.requires.none)
      (none_so_far g.met.K.Ord.total g.met.K.MapKey.exact g.V.Join.bottom g.V.Join.join g.V.Join.before g.V.Join.after g.V.Join.is_draft c.args.entries.now.items c.args.others.now c.requires.map.sorted);
  len = omega (arith, ap length c.requires.none);
  room = c.requires.room;
}

pub reach-at-requires-clause-from : goal.reach-at-requires-clause-from
reach-at-requires-clause-from g c = subst (λ l. IsFrom g.K.Ord.cmp l c.entry-item.result.0 c.loop-entry.at) (sym c.deref.ensures.value) (from_below g.met.K.Ord.total c.args.others.now c.loop-entry.entries.items c.requires.others.sorted c.loop-entry.entry-index c.loop-entry.at c.entry-item.result c.loop-entry-test.true c.entry-item.is c.loop-entry.invariant.below)

pub loop-entry-preserved : goal.loop-entry-preserved
loop-entry-preserved g c = record {
  below = below_with g.K.Ord.cmp g.V.Join.bottom g.V.Join.join g.V.Join.before g.V.Join.after g.V.Join.is_draft c.args.others.now c.loop-entry.entries.items c.draft_at.new.entries.items c.entry-item.result.0 c.entry-item.result.1 c.in_ok-part.part (c.loop-entry.entry-index + 1) c.reach-at.result c.in_ok-part.ensures.part
      (next_below g.met.K.Ord.total c.args.others.now c.loop-entry.entries.items c.requires.others.sorted c.loop-entry.entry-index c.reach-at.result c.entry-item.result c.loop-entry-test.true c.entry-item.is (subst (λ l. IsPlace g.K.Ord.cmp l c.entry-item.result.0 c.reach-at.result) c.deref.ensures.value c.reach-at.ensures));
  so_far = more_so_far g.met.K.Ord.total g.met.K.MapKey.exact g.V.Join.bottom g.V.Join.join g.V.Join.before g.V.Join.after g.V.Join.is_draft c.args.entries.now.items c.args.others.now c.loop-entry.entries.items c.draft_at.new.entries.items c.loop-entry.parts.items c.push_reserved.new.self.items c.loop-entry.entry-index c.entry-item.result c.in_ok-part.part c.requires.map.sorted c.requires.others.sorted c.loop-entry-test.true c.entry-item.is c.in_ok-part.ensures.part c.push_reserved.ensures.items c.loop-entry.invariant.so_far;
  len = omega (arith, c.push_reserved.ensures.len, c.loop-entry.invariant.len);
  room = omega (arith, c.push_reserved.ensures.capacity, c.loop-entry.invariant.room);
}
