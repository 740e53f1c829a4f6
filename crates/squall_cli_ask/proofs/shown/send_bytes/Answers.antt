use Rattle.std.proofs.Common.{◌∙◌, sym}
use Rattle.squall_cli_ask.proofs.ShownBytes.{byte_sent, byte_cut}
use Rattle.squall_cli_ask.proofs.shown.send_bytes.Goals as goal

pub returns-then-is_err-clause-err : goal.returns-then-is_err-clause-err
returns-then-is_err-clause-err g c =
    let i = c.loop-byte.invariant in
    byte_cut (g.E.Sink.state c.args.err.now) (g.E.Sink.state c.loop-byte.err) (g.E.Sink.state c.send_byte.new.err) c.args.bytes.now c.loop-byte.byte-index _ i.0 c.loop-byte-test.true i.1 i.3
    c.send_byte.result (sym c.is_err.ensures.value ∙ c.if-is_err.true) c.send_byte.ensures.err

pub loop-byte-preserved : goal.loop-byte-preserved
loop-byte-preserved g c =
    let i = c.loop-byte.invariant in
    byte_sent (g.E.Sink.state c.args.err.now) (g.E.Sink.state c.loop-byte.err) (g.E.Sink.state c.send_byte.new.err) c.args.bytes.now c.loop-byte.byte-index _ i.0 c.loop-byte-test.true i.1 i.3
    c.send_byte.result (sym c.is_err.ensures.value ∙ c.if-is_err.false) i.2 c.send_byte.ensures.ok c.send_byte.ensures.uncounted
