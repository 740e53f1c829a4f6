use Rattle.std.proofs.lemmas.Result.{on_ok_weaker}
use Rattle.squall_cli_json.proofs.Streams.{four, then}
use Rattle.squall_cli_json.proofs.board.write_board.Goals as goal

pub returns-clause-tokens : goal.returns-clause-tokens
returns-clause-tokens c =
    on_ok_weaker c.end_object.result
    (λ e. four _ _ _ _ _ c.in_ok-begin_object.ensures.ok c.in_ok-key.ensures.ok c.in_ok-write_cells.ensures.tokens
    (four _ _ _ _ _ c.in_ok-key-2.ensures.ok (rw (c.deref.ensures.value, c.in_ok-issues.ensures.issues) at c.in_ok-write_issues.ensures.tokens) c.in_ok-key-3.ensures.ok
    (then _ _ _ (rw (c.deref-2.ensures.value, c.in_ok-openings.ensures.openings) at c.in_ok-write_openings.ensures.tokens) e)))
    c.end_object.ensures.ok
