use Rattle.std.proofs.Common.{◌≡◌, [], sym, subst}
use Rattle.squall_join.specs.Entries.{merged}
use Rattle.squall_join.specs.Drafts.{later, entry_before}
use Rattle.squall_join.proofs.Places.{merged_none}
use Rattle.squall_join.proofs.draft.undo_part.Goals as goal

pub returns : goal.returns
returns g c = record {
  value = subst (λ p. c.args.entries.now.items ≡ merged g.K.Ord.cmp later c.args.entries.now.items (entry_before g.V.Join.before c.args.key p [])) (sym c.in-Fresh.is) (sym (merged_none g.met.K.Ord.total later c.args.entries.now.items));
}
