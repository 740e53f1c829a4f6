use Rattle.squall_join.proofs.Drafting.{taken_at, copied_at}
use Rattle.squall_join.proofs.draft.draft_at.Goals as goal

pub returns-in_ok-draft-in-Ok-clause-part : goal.returns-in_ok-draft-in-Ok-clause-part
returns-in_ok-draft-in-Ok-clause-part g c = taken_at g.met.K.Ord.total c.args.entries.now.items c.deref.result.now c.deref.ensures.value c.args.key g.V.Join.bottom g.V.Join.join g.V.Join.before g.V.Join.after g.V.Join.is_draft c.args.value.now c.in-Ok.at c.index_mut-entry.result.now c.in_ok-draft-in-Ok.draft c.draft_join.new.self c.in-Ok.ensures.found c.index_mut-entry.ensures.value c.in_ok-draft-in-Ok.ensures.ok c.in_ok-draft-in-Ok.ensures.before c.in_ok-draft-in-Ok.ensures.after c.in_ok-draft-in-Ok.ensures.draft

pub returns-in_ok-copied-in-Err-clause-part : goal.returns-in_ok-copied-in-Err-clause-part
returns-in_ok-copied-in-Err-clause-part g c = copied_at g.met.K.Ord.total c.args.entries.now.items c.deref.result.now c.deref.ensures.value c.args.key g.V.Join.bottom g.V.Join.join g.V.Join.before g.V.Join.after g.V.Join.is_draft c.args.value.now c.in_ok-copied-in-Err.field-0 c.in-Err.field-0 c.in-Err.ensures.absent c.in_ok-copied-in-Err.ensures
