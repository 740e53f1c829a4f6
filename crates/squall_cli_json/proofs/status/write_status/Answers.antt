use Rattle.std.proofs.lemmas.Result.{on_ok_weaker}
use Rattle.squall_cli_json.proofs.Streams.{three, four}
use Rattle.squall_cli_json.proofs.status.write_status.Goals as goal

pub returns-clause-tokens : goal.returns-clause-tokens
returns-clause-tokens c =
    let flag = rw c.complete_moves-over.ensures at c.in_ok-write_flag_member.ensures.tokens in
    let over = rw c.complete_moves-over.ensures at c.in_ok-write_count_member-4.ensures.tokens in
    let share = rw c.course_share.ensures.value at c.in_ok-write_number_member-2.ensures.tokens in
    let ended = rw c.ended_subplans.ensures at c.in_ok-write_count_member-6.ensures.tokens in
    on_ok_weaker c.end_object.result
    (λ e. four _ _ _ _ _ c.in_ok-begin_object.ensures.ok (rw c.moves-moves.ensures at flag) (rw c.number.ensures at c.in_ok-write_number_member.ensures.tokens)
    (four _ _ _ _ _ (rw c.keys.ensures.value at c.in_ok-write_count_member.ensures.tokens) (rw c.loaded.ensures.value at c.in_ok-write_count_member-2.ensures.tokens)
    (rw c.moves-moves.ensures at c.in_ok-write_count_member-3.ensures.tokens)
    (four _ _ _ _ _ c.in_ok-key.ensures.ok (rw c.moves-moves.ensures at c.in_ok-write_moves.ensures.tokens) (rw c.moves-moves.ensures at over)
    (four _ _ _ _ _ c.in_ok-key-2.ensures.ok (rw c.open_subplan.ensures at c.in_ok-write_open.ensures.tokens) (rw c.moves-moves.ensures at share)
    (four _ _ _ _ _ (rw c.subplans-subplans.ensures at c.in_ok-write_count_member-5.ensures.tokens) c.in_ok-key-3.ensures.ok
    (rw c.subplans-subplans.ensures at c.in_ok-write_subplans.ensures.tokens)
    (three _ _ _ _ (rw c.subplans-subplans.ensures at ended) (rw c.thousandths.ensures.value at c.in_ok-write_number_member-3.ensures.tokens) e))))))
    c.end_object.ensures.ok
