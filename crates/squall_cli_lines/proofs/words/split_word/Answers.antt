use Rattle.std.proofs.Common.{arith, sym}
use Rattle.squall_cli_lines.specs.Words.{is_blank}
use Rattle.squall_cli_lines.proofs.WordLemmas.{before_first-at, before_first-all, from_first-at, from_first-none}
use Rattle.squall_cli_lines.proofs.words.split_word.Goals as goal

pub returns-then-is_blank-clause-word : goal.returns-then-is_blank-clause-word
returns-then-is_blank-clause-word c =
    before_first-at is_blank c.args.line.now c.loop-i.i (omega arith) c.loop-i.invariant (sym c.if-is_blank.ensures)

pub returns-then-is_blank-clause-rest : goal.returns-then-is_blank-clause-rest
returns-then-is_blank-clause-rest c =
    from_first-at is_blank c.args.line.now c.loop-i.i (omega arith) c.loop-i.invariant (sym c.if-is_blank.ensures)

pub returns-clause-word : goal.returns-clause-word
returns-clause-word c = before_first-all is_blank c.args.line.now (λ k within. c.loop-i.invariant k (omega arith))

pub returns-clause-rest : goal.returns-clause-rest
returns-clause-rest c = from_first-none is_blank c.args.line.now (λ k within. c.loop-i.invariant k (omega arith))
