use Rattle.std.proofs.Common.{◌+◌, sym, ap, ◌∙◌, arith, is_lt}
use Rattle.squall_join.proofs.Searching.{among_before, from_next}
use Rattle.squall_join.proofs.search.reach.Goals as goal

pub place_among-requires-clause-among : goal.place_among-requires-clause-among
place_among-requires-clause-among g c =
    among_before g.met.K.Ord.total c.args.entries.now c.requires.sorted c.args.key c.loop-low.low c.min-step.result c.index-entries-last.result (omega arith) (ap is_lt (sym c.cmp.ensures) ∙ sym c.is_lt.ensures ∙ c.if-not-is_lt.true) c.loop-low.invariant.reached

pub loop-low-preserved : goal.loop-low-preserved
loop-low-preserved g c = record {
  onward = omega arith;
  reached = from_next g.met.K.Ord.total c.args.entries.now c.requires.sorted c.args.key (c.loop-low.low + c.min-step.result) c.index-entries-last.result (omega arith) (ap is_lt (sym c.cmp.ensures) ∙ sym c.is_lt.ensures ∙ c.if-not-is_lt.false);
}
