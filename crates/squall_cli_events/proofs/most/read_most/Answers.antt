use Rattle.std.proofs.Common.{refl, sym, ◌∙◌}
use Rattle.squall_key.proofs.Digits.{read_more}
use Rattle.squall_cli_events.proofs.Digits.{no_most}
use Rattle.squall_cli_events.proofs.most.read_most.Goals as goal

pub returns-then-not-is_ascii_digit : goal.returns-then-not-is_ascii_digit
returns-then-not-is_ascii_digit c =
    sym (no_most c.args.text.now c.loop-b.b-index _ c.loop-b-test.true refl (sym c.is_ascii_digit.ensures.value ∙ c.if-not-is_ascii_digit.true))

pub loop-b-preserved : goal.loop-b-preserved
loop-b-preserved c =
    let i = c.loop-b.invariant in
    record {
      few = i.few;
      some = i.some;
      read = read_more c.args.text.now c.loop-b.b-index c.loop-b.value _ c.loop-b-test.true (sym c.is_ascii_digit.ensures.value ∙ c.if-not-is_ascii_digit.false) c.from.ensures i.read;
    }
