use Rattle.std.proofs.Common.{[], ◌∷◌, ◌++◌, ◌+◌, ◌∙◌, sym}
use Rattle.squall_cli_audit.specs.LogTexts.{filled_lines}
use Rattle.squall_cli_audit.proofs.Texts.{taken_grows, says_more}
use Rattle.squall_cli_audit.proofs.text.read_entries.Goals as goal

pub loop-number-preserved : goal.loop-number-preserved
loop-number-preserved c =
    let inv = c.loop-number.invariant.0 in
    let n = c.in-Some.number in
    let line = c.in-Some.line.now in (
      (
        inv.0 ++ (n, line) ∷ [],
        taken_grows (filled_lines c.args.first c.args.text.now) inv.0 (filled_lines c.loop-number.next c.loop-number.rest.now) (filled_lines (n + 1) c.in-Some.others.now) n line inv.1 c.in-Some.ensures.some,
        says_more c.args.node.now inv.0 c.loop-number.entries.items c.push.new.self.items c.loop-number.lines.items c.push-in-Some.new.self.items n line c.in-Some-2.entry inv.2
            (sym c.in_ok-entry.ensures ∙ c.in-Some-2.is) c.in_ok-push.ensures.items c.in_ok-push-2.ensures.items,
      ),
      c.in-Some.ensures.fits,
    )
