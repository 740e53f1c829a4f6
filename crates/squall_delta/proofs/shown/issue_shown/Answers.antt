use Rattle.std.proofs.Common.{rules, ◌&&◌, ◌==◌}
use Rattle.std.specs.Cmp.{nat_cmp_total}
use Rattle.std.specs.Ordering.{nat_cmp}
use Rattle.std.proofs.lemmas.List.Sorted.{answers_always}
use Rattle.squall_wire.specs.declared.digest.IssueRow.{IssueRow}
use Rattle.squall_delta.specs.Repairs.{is_same_hash}
use Rattle.squall_delta.proofs.Searched.{issue_rows_less, issue_test, any_found, any_absent, absent}
use Rattle.squall_delta.proofs.shown.issue_shown.Goals as goal

pub returns-in-Ok-clause-some : goal.returns-in-Ok-clause-some
returns-in-Ok-clause-some c = λ hash. any_found nat_cmp nat_cmp_total (λ (r : IssueRow). r.number) c.args.number (λ r. (r.number == c.args.number) && is_same_hash r.hash hash) (λ r. is_same_hash r.hash hash) (issue_test c.args.number hash)
    c.args.rows.now (issue_rows_less c.args.rows.now c.requires.turn) c.in-Ok.at _ c.in-Ok.ensures.bound
    (c.in-Ok.ensures.position (λ r. r.number) (answers_always _ _ _ (λ f a r g called. search rules)) _)

pub returns-in-Err-clause-none : goal.returns-in-Err-clause-none
returns-in-Err-clause-none c = λ hash. any_absent nat_cmp nat_cmp_total (λ (r : IssueRow). r.number) c.args.number (λ r. (r.number == c.args.number) && is_same_hash r.hash hash) (λ r. is_same_hash r.hash hash) (issue_test c.args.number hash)
    c.args.rows.now
    (absent nat_cmp nat_cmp_total (λ (r : IssueRow). r.number) c.args.number c.args.rows.now (issue_rows_less c.args.rows.now c.requires.turn) c.in-Err.field-0
    (c.in-Err.ensures.position (λ r. r.number) (answers_always _ _ _ (λ f a r g called. search rules))))
