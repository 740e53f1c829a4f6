use Rattle.std.proofs.Common.{sym, ap, ◌∙◌, arith, []}
use Rattle.squall_join.specs.Drafts.{later, undone}
use Rattle.squall_join.proofs.Places.{merged_none}
use Rattle.squall_join.proofs.Drafting.{popped_there, popped_valid, undo_drafted, undo_undone, none_left}
use Rattle.squall_join.proofs.draft.undo_parts.Goals as goal

pub undo_part-requires-clause-there : goal.undo_part-requires-clause-there
undo_part-requires-clause-there g c = popped_there g.met.K.Ord.total g.met.K.MapKey.exact g.V.Join.before g.V.Join.after g.V.Join.is_draft c.loop-last.entries.items [] c.loop-last.left.items c.pop.new.self.items c.in-Some.last.0 c.in-Some.last.1 c.in-Some.ensures.items c.loop-last.invariant.drafted

pub undo_part-requires-clause-valid : goal.undo_part-requires-clause-valid
undo_part-requires-clause-valid g c = popped_valid g.met.K.Ord.total g.met.K.MapKey.exact g.V.Join.before g.V.Join.after g.V.Join.is_draft c.loop-last.entries.items [] c.loop-last.left.items c.pop.new.self.items c.in-Some.last.0 c.in-Some.last.1 c.in-Some.ensures.items c.loop-last.invariant.drafted

pub loop-last-preserved : goal.loop-last-preserved
loop-last-preserved g c = record {
  drafted = undo_drafted g.met.K.Ord.total g.met.K.MapKey.exact g.V.Join.before g.V.Join.after g.V.Join.is_draft c.loop-last.entries.items c.undo_part.new.entries.items c.loop-last.left.items c.pop.new.self.items c.in-Some.last.0 c.in-Some.last.1 c.in-Some.ensures.items c.loop-last.invariant.drafted c.undo_part.ensures.value;
  so_far = undo_undone g.met.K.Ord.total g.met.K.MapKey.exact g.V.Join.before g.V.Join.after g.V.Join.is_draft c.loop-last.entries.items c.undo_part.new.entries.items c.loop-last.left.items c.pop.new.self.items c.in-Some.last.0 c.in-Some.last.1 c.in-Some.ensures.items c.loop-last.invariant.drafted c.undo_part.ensures.value ∙ c.loop-last.invariant.so_far;
}

pub returns : goal.returns
returns g c =
    let none = none_left c.loop-last.left.items (omega (arith, c.in_default.ensures.cases.0)) in
    sym (ap (undone g.K.Ord.cmp g.V.Join.before g.V.Join.after c.loop-last.entries.items) none ∙ merged_none g.met.K.Ord.total later c.loop-last.entries.items) ∙ c.loop-last.invariant.so_far
