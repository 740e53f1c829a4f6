use Rattle.std.proofs.lemmas.Result.{on_ok_weaker}
use Rattle.squall_cli_json.proofs.Streams.{four, three}
use Rattle.squall_cli_json.proofs.status.write_move.Goals as goal

pub returns-clause-tokens : goal.returns-clause-tokens
returns-clause-tokens c =
    on_ok_weaker c.end_object.result
    (λ e. four _ _ _ _ _ c.in_ok-begin_object.ensures.ok c.in_ok-write_part_member.ensures.tokens (rw c.hi.ensures.value at c.in_ok-write_bound_member.ensures.tokens)
    (four _ _ _ _ _ (rw c.keys.ensures.value at c.in_ok-write_count_member.ensures.tokens) (rw c.lo.ensures.value at c.in_ok-write_bound_member-2.ensures.tokens) (rw c.loaded.ensures at c.in_ok-write_count_member-2.ensures.tokens)
    (four _ _ _ _ _ c.in_ok-key.ensures.ok c.in_ok-write_missing.ensures.tokens (rw c.state_of.ensures at c.in_ok-write_text_member.ensures.tokens)
    (three _ _ _ _ c.in_ok-write_number_member.ensures.tokens c.in_ok-write_part_member-2.ensures.tokens e))))
    c.end_object.ensures.ok
