use Rattle.std.proofs.Common.{ap, sym, ◌∙◌}
use Rattle.squall_cli_watch.proofs.BarLines.{added_as}
use Rattle.squall_cli_watch.proofs.bar.line.BarLine.add.Goals as goal

pub returns-then-self-clause-drawn : goal.returns-then-self-clause-drawn
returns-then-self-clause-drawn g c =
    let sent = c.send.ensures in
    added_as c.args.self.now.on c.send.result c.is_ok-self-inside.result (g.E.Sink.state c.args.err.now) (g.E.Sink.state c.send.new.writer) c.args.text.now
    (ap (λ l. l.on) (sym c.self.view_is) ∙ c.if-self.true) c.is_ok-self-inside.ensures.value sent.ok sent.err sent.uncounted sent.counted
