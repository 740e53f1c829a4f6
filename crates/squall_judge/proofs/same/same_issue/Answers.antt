use Rattle.std.proofs.Common.{sym, ap, ◌∙◌, true≢false}
use Rattle.squall_report.specs.Issues.{is_same_pair}
use Rattle.squall_report.specs.IssueLaws.{same_pairs_are_equal}
use Rattle.squall_judge.proofs.same.same_issue.Goals as goal

pub returns-clause-same : goal.returns-clause-same
returns-clause-same c = λ is. same_pairs_are_equal.same c.args.a.now c.args.b.now tt tt (sym c.eq.ensures ∙ is)

pub returns-clause-apart : goal.returns-clause-apart
returns-clause-apart c = λ no same.
    true≢false (sym (same_pairs_are_equal.itself c.args.a.now tt) ∙ ap (is_same_pair c.args.a.now) same ∙ sym c.eq.ensures ∙ no)
