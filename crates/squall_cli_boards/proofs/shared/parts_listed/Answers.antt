use Rattle.std.proofs.Common.{◌+◌, map, drop, string_bytes}
use Rattle.squall_cli_boards.specs.BadWords.{bad_seen}
use Rattle.squall_cli_boards.proofs.Routed.{left_words}
use Rattle.squall_cli_boards.proofs.Runs.{run_taken, run_refused}
use Rattle.squall_cli_boards.proofs.shared.parts_listed.Goals as goal

pub returns-in-Err : goal.returns-in-Err
returns-in-Err c =
    let words = c.args.words.now in
    let n = c.loop-word.word-index in
    run_refused c.loop-word.parts.items c.as_str.result.now (map string_bytes (drop n words)) (map string_bytes (drop (n + 1) words)) _
    (left_words string_bytes words n c.word-item.result c.as_str.result.now c.loop-word-test.true c.word-item.is c.as_str.ensures.value)
    c.loop-word.invariant (bad_seen c.in-Err.bad) c.in-Err.ensures.value

pub loop-word-preserved : goal.loop-word-preserved
loop-word-preserved c =
    let words = c.args.words.now in
    let n = c.loop-word.word-index in
    run_taken c.loop-word.parts.items c.as_str.result.now (map string_bytes (drop n words)) (map string_bytes (drop (n + 1) words)) _
    (left_words string_bytes words n c.word-item.result c.as_str.result.now c.loop-word-test.true c.word-item.is c.as_str.ensures.value)
    c.loop-word.invariant c.add_run.new.parts.items _ c.in-Ok.ensures.value c.in_ok-add_run-in-Ok.ensures
