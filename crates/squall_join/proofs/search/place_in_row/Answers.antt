use Rattle.std.proofs.Common.{is_eq, sym, ap, ◌∙◌}
use Rattle.squall_join.proofs.Searching.{place_at_key}
use Rattle.squall_join.proofs.search.place_in_row.Goals as goal

pub returns-then-is_eq : goal.returns-then-is_eq
returns-then-is_eq g c =
    place_at_key g.met.K.Ord.total c.args.entries.now c.requires c.args.key c.steps_from-at.result c.index-entries-at.result c.if-at-entries.true c.index-entries-at.is
    (ap (λ (y : _ × _). is_eq (g.K.Ord.cmp y.0 c.args.key)) c.index-entries-at.is ∙ ap is_eq (sym c.cmp.ensures) ∙ sym c.if-is_eq.ensures)
