use Rattle.squall_cli_watch.specs.Bars.{erasure}
use Rattle.squall_cli_watch.proofs.BarLines.{adds_then}
use Rattle.squall_cli_watch.proofs.bar.send_above.Goals as goal

pub returns-clause-bar : goal.returns-clause-bar
returns-clause-bar g c = rw c.in-Some.is (
  c.draw.ensures.shown,
  adds_then c.args.line.now.on c.erase.new.self.on c.draw.new.self.on (g.E.Sink.state c.args.err.now) (g.E.Sink.state c.erase.new.err) (g.E.Sink.state c.draw.new.err) erasure c.in-Some.bar.items
      c.erase.ensures.drawn c.draw.ensures.drawn,
)
