use Rattle.std.proofs.Common.{sym, ap, ◌∙◌, arith, []}
use Rattle.squall_join.specs.Drafts.{later, kept}
use Rattle.squall_join.proofs.Places.{merged_none}
use Rattle.squall_join.proofs.Drafting.{popped_there, popped_valid, keep_drafted, keep_kept, fresh_left, none_left}
use Rattle.squall_join.proofs.draft.keep_parts.Goals as goal

pub keep_part-requires-clause-there : goal.keep_part-requires-clause-there
keep_part-requires-clause-there g c = popped_there g.met.K.Ord.total g.met.K.MapKey.exact g.V.Join.before g.V.Join.after g.V.Join.is_draft c.loop-last.entries.items [] c.loop-last.left.items c.pop.new.self.items c.in-Some.last.0 c.in-Some.last.1 c.in-Some.ensures.items c.loop-last.invariant.drafted

pub keep_part-requires-clause-valid : goal.keep_part-requires-clause-valid
keep_part-requires-clause-valid g c = popped_valid g.met.K.Ord.total g.met.K.MapKey.exact g.V.Join.before g.V.Join.after g.V.Join.is_draft c.loop-last.entries.items [] c.loop-last.left.items c.pop.new.self.items c.in-Some.last.0 c.in-Some.last.1 c.in-Some.ensures.items c.loop-last.invariant.drafted

pub keep_part-requires-clause-room : goal.keep_part-requires-clause-room
keep_part-requires-clause-room g c = omega (arith, c.loop-last.invariant.room, fresh_left c.loop-last.left.items c.pop.new.self.items c.in-Some.last c.in-Some.ensures.items)

pub loop-last-preserved : goal.loop-last-preserved
loop-last-preserved g c = record {
  drafted = keep_drafted g.met.K.Ord.total g.met.K.MapKey.exact g.V.Join.before g.V.Join.after g.V.Join.is_draft c.loop-last.entries.items c.keep_part.new.entries.items c.loop-last.left.items c.pop.new.self.items c.in-Some.last.0 c.in-Some.last.1 c.in-Some.ensures.items c.loop-last.invariant.drafted c.keep_part.ensures.value;
  room = omega (arith, c.loop-last.invariant.room, fresh_left c.loop-last.left.items c.pop.new.self.items c.in-Some.last c.in-Some.ensures.items, c.keep_part.ensures.len, c.keep_part.ensures.capacity);
  so_far = keep_kept g.met.K.Ord.total g.met.K.MapKey.exact g.V.Join.before g.V.Join.after g.V.Join.is_draft c.loop-last.entries.items c.keep_part.new.entries.items c.loop-last.left.items c.pop.new.self.items c.in-Some.last.0 c.in-Some.last.1 c.in-Some.ensures.items c.loop-last.invariant.drafted c.keep_part.ensures.value ∙ c.loop-last.invariant.so_far;
}

pub returns : goal.returns
returns g c =
    let none = none_left c.loop-last.left.items (omega (arith, c.in_default.ensures.cases.0)) in
    sym (ap (kept g.K.Ord.cmp g.V.Join.before g.V.Join.after c.loop-last.entries.items) none ∙ merged_none g.met.K.Ord.total later c.loop-last.entries.items) ∙ c.loop-last.invariant.so_far
