use Rattle.std.specs.Prelude.{codes}
use Rattle.squall_cli_ask.proofs.Telling.{failed, unfailed, sent_first, sent_later, says_sent}
use Rattle.squall_cli_ask.proofs.messages.send_named.Goals as goal

pub returns-in_err-send_text : goal.returns-in_err-send_text
returns-in_err-send_text g c =
    let e0 = g.E.Sink.state c.args.err.now in
    let e1 = g.E.Sink.state c.send_text.new.writer in
    let first = c.in_err-send_text.ensures in
    record { told = sent_first e0 e1 (codes "squall: ") c.args.text.now first.err.0 first.err.1 (failed _ e0 e1 first.heeds first.only) }

pub returns : goal.returns
returns g c =
    let e0 = g.E.Sink.state c.args.err.now in
    let e1 = g.E.Sink.state c.send_text.new.writer in
    let e2 = g.E.Sink.state c.send_text-2.new.writer in
    let first = c.in_ok-send_text.ensures in
    let second = c.send_text-2.ensures in
    record {
      told = sent_later e0 e1 e2 (codes "squall: ") c.args.text.now first.ok (unfailed _ e0 e1 first.heeds)
          (says_sent c.send_text-2.result e1 e2 c.args.text.now second.ok second.err second.only second.heeds);
    }
