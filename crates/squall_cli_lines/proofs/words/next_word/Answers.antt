use Rattle.std.proofs.Common.{arith}
use Rattle.std.proofs.lemmas.Bool.Decides.{nat_tests}
use Rattle.squall_cli_lines.proofs.WordLemmas.{first_word_is, no_word}
use Rattle.squall_cli_lines.proofs.words.next_word.Goals as goal

pub returns-then-is_empty-clause-none : goal.returns-then-is_empty-clause-none
returns-then-is_empty-clause-none c = no_word c.args.line.now c.after_blanks-rest.result.now c.after_blanks-rest.ensures (grind (arith, nat_tests))

pub returns-clause-words : goal.returns-clause-words
returns-clause-words c =
    let is = first_word_is c.args.line.now c.after_blanks-rest.result.now c.split_word.result.0.now c.split_word.result.1.now c.after_blanks-rest.ensures (grind (arith, nat_tests)) c.split_word.ensures.word c.split_word.ensures.rest in
    is.0

pub returns-clause-filled : goal.returns-clause-filled
returns-clause-filled c =
    let is = first_word_is c.args.line.now c.after_blanks-rest.result.now c.split_word.result.0.now c.split_word.result.1.now c.after_blanks-rest.ensures (grind (arith, nat_tests)) c.split_word.ensures.word c.split_word.ensures.rest in
    is.1
