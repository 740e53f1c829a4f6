use Rattle.std.proofs.Common.{◌++◌}
use Rattle.std.specs.Prelude.{codes}
use Rattle.squall_cli_ask.specs.Shown.{shown}
use Rattle.squall_cli_ask.proofs.Telling.{failed, unfailed, sent_first, sent_later, says_sent}
use Rattle.squall_cli_ask.proofs.messages.send_line.Goals as goal

pub returns-in_err-send_text : goal.returns-in_err-send_text
returns-in_err-send_text g c =
    let e0 = g.E.Sink.state c.args.err.now in
    let e1 = g.E.Sink.state c.send_text.new.writer in
    let first = c.in_err-send_text.ensures in
    record { told = sent_first e0 e1 c.args.first.now (shown c.args.second.now ++ (c.args.third.now ++ (c.args.fourth.now ++ codes "\n"))) first.err.0 first.err.1 (failed _ e0 e1 first.heeds first.only) }

pub returns-in_err-send_shown : goal.returns-in_err-send_shown
returns-in_err-send_shown g c =
    let e0 = g.E.Sink.state c.args.err.now in
    let e1 = g.E.Sink.state c.send_text.new.writer in
    let e2 = g.E.Sink.state c.send_shown.new.err in
    let rest = c.args.third.now ++ (c.args.fourth.now ++ codes "\n") in
    let first = c.in_ok-send_text.ensures in
    let second = c.in_err-send_shown.ensures in
    record {
      told = sent_later e0 e1 e2 c.args.first.now (shown c.args.second.now ++ rest) first.ok (unfailed _ e0 e1 first.heeds)
          (sent_first e1 e2 (shown c.args.second.now) rest second.err.0 second.err.1 (failed _ e1 e2 second.heeds second.only));
    }

pub returns-in_err-send_text-2 : goal.returns-in_err-send_text-2
returns-in_err-send_text-2 g c =
    let e0 = g.E.Sink.state c.args.err.now in
    let e1 = g.E.Sink.state c.send_text.new.writer in
    let e2 = g.E.Sink.state c.send_shown.new.err in
    let e3 = g.E.Sink.state c.send_text-2.new.writer in
    let last = c.args.fourth.now ++ codes "\n" in
    let first = c.in_ok-send_text.ensures in
    let second = c.in_ok-send_shown.ensures in
    let third = c.in_err-send_text-2.ensures in
    record {
      told = sent_later e0 e1 e3 c.args.first.now (shown c.args.second.now ++ (c.args.third.now ++ last)) first.ok (unfailed _ e0 e1 first.heeds)
          (sent_later e1 e2 e3 (shown c.args.second.now) (c.args.third.now ++ last) second.ok (unfailed _ e1 e2 second.heeds)
          (sent_first e2 e3 c.args.third.now last third.err.0 third.err.1 (failed _ e2 e3 third.heeds third.only)));
    }

pub returns-in_err-send_text-3 : goal.returns-in_err-send_text-3
returns-in_err-send_text-3 g c =
    let e0 = g.E.Sink.state c.args.err.now in
    let e1 = g.E.Sink.state c.send_text.new.writer in
    let e2 = g.E.Sink.state c.send_shown.new.err in
    let e3 = g.E.Sink.state c.send_text-2.new.writer in
    let e4 = g.E.Sink.state c.send_text-3.new.writer in
    let last = c.args.fourth.now ++ codes "\n" in
    let first = c.in_ok-send_text.ensures in
    let second = c.in_ok-send_shown.ensures in
    let third = c.in_ok-send_text-2.ensures in
    let fourth = c.in_err-send_text-3.ensures in
    record {
      told = sent_later e0 e1 e4 c.args.first.now (shown c.args.second.now ++ (c.args.third.now ++ last)) first.ok (unfailed _ e0 e1 first.heeds)
          (sent_later e1 e2 e4 (shown c.args.second.now) (c.args.third.now ++ last) second.ok (unfailed _ e1 e2 second.heeds)
          (sent_later e2 e3 e4 c.args.third.now last third.ok (unfailed _ e2 e3 third.heeds)
          (sent_first e3 e4 c.args.fourth.now (codes "\n") fourth.err.0 fourth.err.1 (failed _ e3 e4 fourth.heeds fourth.only))));
    }

pub returns : goal.returns
returns g c =
    let e0 = g.E.Sink.state c.args.err.now in
    let e1 = g.E.Sink.state c.send_text.new.writer in
    let e2 = g.E.Sink.state c.send_shown.new.err in
    let e3 = g.E.Sink.state c.send_text-2.new.writer in
    let e4 = g.E.Sink.state c.send_text-3.new.writer in
    let e5 = g.E.Sink.state c.send_text-4.new.writer in
    let last = c.args.fourth.now ++ codes "\n" in
    let first = c.in_ok-send_text.ensures in
    let second = c.in_ok-send_shown.ensures in
    let third = c.in_ok-send_text-2.ensures in
    let fourth = c.in_ok-send_text-3.ensures in
    let fifth = c.send_text-4.ensures in
    record {
      told = sent_later e0 e1 e5 c.args.first.now (shown c.args.second.now ++ (c.args.third.now ++ last)) first.ok (unfailed _ e0 e1 first.heeds)
          (sent_later e1 e2 e5 (shown c.args.second.now) (c.args.third.now ++ last) second.ok (unfailed _ e1 e2 second.heeds)
          (sent_later e2 e3 e5 c.args.third.now last third.ok (unfailed _ e2 e3 third.heeds)
          (sent_later e3 e4 e5 c.args.fourth.now (codes "\n") fourth.ok (unfailed _ e3 e4 fourth.heeds)
          (says_sent c.send_text-4.result e4 e5 (codes "\n") fifth.ok fifth.err fifth.only fifth.heeds))));
    }
