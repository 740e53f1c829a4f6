use Rattle.std.proofs.Common.{arith, sym, ap, ◌∙◌, not}
use Rattle.squall_cli_lines.specs.Words.{is_letter}
use Rattle.squall_cli_lines.proofs.WordLemmas.{from_first-at, from_first-none}
use Rattle.squall_cli_lines.proofs.words.after_blanks.Goals as goal

pub returns-then-not-is_blank : goal.returns-then-not-is_blank
returns-then-not-is_blank c =
    from_first-at is_letter c.args.line.now c.loop-i.i (omega arith) (λ k below. ap not (c.loop-i.invariant k below)) (ap not (sym c.is_blank.ensures ∙ c.if-not-is_blank.true))

pub returns : goal.returns
returns c = from_first-none is_letter c.args.line.now (λ k within. ap not (c.loop-i.invariant k (omega arith)))
