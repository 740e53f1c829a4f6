use Rattle.std.proofs.Common.{◌+◌, map, drop, string_bytes}
use Rattle.squall_board.specs.Boards.{says}
use Rattle.squall_board.specs.Route.{route}
use Rattle.squall_cli_boards.proofs.Routed.{left_words, word_refused, word_answered}
use Rattle.squall_cli_boards.proofs.routes.add_words.Goals as goal

pub returns-then-branch : goal.returns-then-branch
returns-then-branch c =
    let words = c.args.words.now in
    let n = c.loop-word.word-index in
    word_refused (route c.args.course.now (says c.args.board.now)) _ _ c.as_str.result.now (map string_bytes (drop n words)) (map string_bytes (drop (n + 1) words)) _ c.in_ok-add_word.field-0
    (left_words string_bytes words n c.word-item.result c.as_str.result.now c.loop-word-test.true c.word-item.is c.as_str.ensures.value)
    c.loop-word.invariant (c.in_ok-add_word.ensures (map string_bytes (drop (n + 1) words))) c.if-branch.true

pub loop-word-preserved : goal.loop-word-preserved
loop-word-preserved c =
    let words = c.args.words.now in
    let n = c.loop-word.word-index in
    word_answered (route c.args.course.now (says c.args.board.now)) _ _ c.as_str.result.now (map string_bytes (drop n words)) (map string_bytes (drop (n + 1) words)) _ c.in_ok-add_word.field-0
    (left_words string_bytes words n c.word-item.result c.as_str.result.now c.loop-word-test.true c.word-item.is c.as_str.ensures.value)
    c.loop-word.invariant (c.in_ok-add_word.ensures (map string_bytes (drop (n + 1) words))) c.if-branch.false
