use Rattle.squall_span.proofs.Merging.{union_none}
use Rattle.squall_span.proofs.sweep.merge.Goals as goal

pub returns-in_default : goal.returns-in_default
returns-in_default c = union_none (λ v. v.items) c.args.first c.args.second c.listed.result c.in_default.ensures.steps.0 c.requires.second c.listed.ensures
