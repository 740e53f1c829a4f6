use Rattle.std.proofs.lemmas.Result.{on_ok_weaker}
use Rattle.squall_cli_json.proofs.Streams.{four, then}
use Rattle.squall_cli_json.proofs.plan.write_range.Goals as goal

pub returns-clause-tokens : goal.returns-clause-tokens
returns-clause-tokens c =
    on_ok_weaker c.end_object.result
    (λ e. four _ _ _ _ _ c.in_ok-begin_object.ensures.ok (rw c.hi.ensures.value at c.in_ok-write_bound_member.ensures.tokens) (rw c.lo.ensures.value at c.in_ok-write_bound_member-2.ensures.tokens)
    (then _ _ _ c.in_ok-write_part_member.ensures.tokens e))
    c.end_object.ensures.ok
