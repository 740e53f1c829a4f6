use Rattle.squall_span.specs.SpanLaws.{same_lists}
use Rattle.std.proofs.Common.{sym, ◌∙◌}
use Rattle.squall_part.proofs.New.{added}
use Rattle.squall_part.proofs.laws.new_keys_are_held.Goals as goal

pub returns-clause-held : goal.returns-clause-held
returns-clause-held c = λ chunk k lt le. added c.args.part.now chunk k c.known.ensures lt le

pub returns-clause-one : goal.returns-clause-one
returns-clause-one c = λ chunk a b f g. same_lists a b f.1.0 g.1.0 (λ k. f.2 k ∙ sym (g.2 k))
