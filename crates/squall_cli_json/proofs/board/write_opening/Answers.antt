use Rattle.std.proofs.lemmas.Result.{on_ok_weaker}
use Rattle.squall_cli_json.proofs.Streams.{four}
use Rattle.squall_cli_json.proofs.board.write_opening.Goals as goal

pub returns-clause-tokens : goal.returns-clause-tokens
returns-clause-tokens c =
    on_ok_weaker c.end_object.result
    (λ e. four _ _ _ _ _ c.in_ok-begin_object.ensures.ok c.in_ok-write_number_member.ensures.tokens c.in_ok-write_number_member-2.ensures.tokens e)
    c.end_object.ensures.ok
