use Rattle.std.proofs.Common.{◌≡◌, ℕ, take, sym, subst, ap, ◌∙◌}
use Rattle.std.specs.Prelude.{OnOk, OnErr, true}
use Rattle.std.specs.List.{list_all}
use Rattle.squall_cli_device.specs.States.{TookBytes}
use Rattle.squall_cli_ask.specs.Shown.{is_plain}
use Rattle.squall_cli_ask.proofs.ShownBytes.{plain_shown}
use Rattle.squall_cli_ask.proofs.shown.send_shown.Goals as goal

pub returns-then-are_plain-clause-ok : goal.returns-then-are_plain-clause-ok
returns-then-are_plain-clause-ok g c =
    let plain : list_all is_plain c.args.text.now ≡ true = ap (list_all is_plain) (sym c.as_bytes.ensures.value) ∙ sym c.are_plain.ensures ∙ c.if-are_plain.true in
    subst (λ w. OnOk c.send_text.result (TookBytes (g.E.Sink.state c.args.err.now) (g.E.Sink.state c.send_text.new.writer) w)) (sym (plain_shown c.args.text.now plain)) c.send_text.ensures.ok

pub returns-then-are_plain-clause-err : goal.returns-then-are_plain-clause-err
returns-then-are_plain-clause-err g c =
    let plain : list_all is_plain c.args.text.now ≡ true = ap (list_all is_plain) (sym c.as_bytes.ensures.value) ∙ sym c.are_plain.ensures ∙ c.if-are_plain.true in
    subst (λ w. OnErr c.send_text.result ((n : ℕ) × TookBytes (g.E.Sink.state c.args.err.now) (g.E.Sink.state c.send_text.new.writer) (take n w))) (sym (plain_shown c.args.text.now plain)) c.send_text.ensures.err
