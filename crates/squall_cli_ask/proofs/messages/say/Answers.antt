use Rattle.squall_cli_ask.proofs.Telling.{says_sent}
use Rattle.squall_cli_ask.proofs.messages.say.Goals as goal

pub returns : goal.returns
returns g c =
    let sent = c.send_text.ensures in
    record { told = says_sent c.send_text.result (g.E.Sink.state c.args.err.now) (g.E.Sink.state c.send_text.new.writer) c.args.text.now sent.ok sent.err sent.only sent.heeds }
