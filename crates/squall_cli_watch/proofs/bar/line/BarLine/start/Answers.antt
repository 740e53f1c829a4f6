use Rattle.std.proofs.Common.{subst}
use Rattle.squall_cli_watch.specs.BarLines.{IsDrawn}
use Rattle.squall_cli_watch.proofs.BarLines.{drawn_as}
use Rattle.squall_cli_watch.proofs.bar.line.BarLine.start.Goals as goal

pub returns-clause-drawn : goal.returns-clause-drawn
returns-clause-drawn g c =
    let sent = c.send.ensures in
    let old = g.E.Sink.state c.args.err.now in
    let new = g.E.Sink.state c.send.new.writer in
    subst (IsDrawn c.is_ok-is_on.result old new) c.deref.ensures.value
    (drawn_as c.send.result c.is_ok-is_on.result old new c.deref.result.now c.is_ok-is_on.ensures.value sent.ok sent.err sent.uncounted sent.counted)
