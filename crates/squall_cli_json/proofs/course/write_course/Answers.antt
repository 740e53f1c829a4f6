use Rattle.std.proofs.lemmas.Result.{on_ok_weaker}
use Rattle.squall_cli_json.proofs.Streams.{four, then}
use Rattle.squall_cli_json.proofs.course.write_course.Goals as goal

pub returns-clause-tokens : goal.returns-clause-tokens
returns-clause-tokens c =
    on_ok_weaker c.end_object.result
    (λ e. four _ _ _ _ _ c.in_ok-begin_object.ensures.ok c.in_ok-key.ensures.ok (rw c.moves.ensures.list at c.in_ok-write_moves.ensures.tokens)
    (then _ _ _ (rw c.subplans.ensures.value at c.in_ok-write_number_member.ensures.tokens) e))
    c.end_object.ensures.ok
