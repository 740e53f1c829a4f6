use Rattle.std.proofs.Common.{is_eq, sym, ap, ◌∙◌}
use Rattle.squall_join.proofs.Searching.{gap_at_end, gap_at_place}
use Rattle.squall_join.proofs.search.settle.Goals as goal
use Rattle.squall_join.proofs.search.settle.Goals.{else-at-entries-via-then-at-entries+else-is_eq, else-at-entries-via-else-at-entries}

pub returns-else-at-entries-clause-absent : goal.returns-else-at-entries-clause-absent
returns-else-at-entries-clause-absent g c = elim c.else-at-entries.branch [
  | else-at-entries-via-then-at-entries+else-is_eq w ↦ gap_at_place g.met.K.Ord.total c.args.entries.now c.requires.sorted c.args.key c.args.at w.index-entries-at.result w.if-at-entries.true w.index-entries-at.is (ap (λ (y : _ × _). is_eq (g.K.Ord.cmp y.0 c.args.key)) w.index-entries-at.is ∙ ap is_eq (sym w.cmp.ensures) ∙ sym w.if-is_eq.ensures) c.requires.place
  | else-at-entries-via-else-at-entries w ↦ gap_at_end g.K.Ord.cmp c.args.entries.now c.args.key c.args.at w.if-at-entries.false c.requires.place
]
