use Rattle.std.proofs.Common.{sym, subst}
use Rattle.std.specs.Prelude.{codes}
use Rattle.squall_cli_lines.specs.Heeding.{Says}
use Rattle.squall_cli_watch.proofs.Front.{some_left}
use Rattle.squall_cli_ask.proofs.Telling.{sent_first, sent_later, says_bytes}
use Rattle.squall_cli_ask.proofs.Answering.{some_told}
use Rattle.squall_cli_ask.proofs.answer.send_refusal.Goals as goal

pub returns-in_err-send : goal.returns-in_err-send
returns-in_err-send g c =
    let e0 = g.E.Sink.state c.args.err.now in
    let e1 = g.E.Sink.state c.send.new.writer in
    let text = c.args.text.now in
    let first = c.in_err-send.ensures in
    record {
      told = subst (Says e0 e1) (sym (some_told text (some_left text c.is_empty.result c.is_empty.ensures c.if-is_empty.false)))
          (sent_first e0 e1 (codes "squall: ") text first.err.0 first.err.1 first.counted);
    }

pub returns : goal.returns
returns g c =
    let e0 = g.E.Sink.state c.args.err.now in
    let e1 = g.E.Sink.state c.send.new.writer in
    let e2 = g.E.Sink.state c.send-2.new.writer in
    let text = c.args.text.now in
    let first = c.in_ok-send.ensures in
    let second = c.send-2.ensures in
    record {
      told = subst (Says e0 e2) (sym (some_told text (some_left text c.is_empty.result c.is_empty.ensures c.if-is_empty.false)))
          (sent_later e0 e1 e2 (codes "squall: ") text first.ok first.uncounted
          (says_bytes c.send-2.result e1 e2 text second.ok second.err second.counted));
    }
