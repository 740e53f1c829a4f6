use Rattle.std.proofs.Common.{◌∙◌, ◌<◌, [], sym, subst, inr, Err, length, take, ap, arith, refl}
use Rattle.std.proofs.lemmas.Result.{err_from_is_err_and}
use Rattle.squall_cli_lines.proofs.Bytes.{reading_start, reading_more, gave_all, heeds_fault, heeds_other, heeds_limit, heeds_later, heeds_passed, fine_is_no_error}
use Rattle.squall_cli_lines.proofs.Outcomes.{Reading, Reading-start, EndsAs-read, EndsAs-now, EndsAs-last, EndsAs-no_memory, Reading-block, EndsAs-refused, EndsAs-stopped, PromptAs-block, PromptAs-read, PromptAs-now, whole_good, take_small, stops_unread}
use Rattle.squall_cli_lines.proofs.run.Goals as goal

pub returns-in_err-room-clause-text : goal.returns-in_err-room-clause-text
returns-in_err-room-clause-text g c =
    let first = g.M.Machine.plays c.args.machine.now in
    let reader = g.S.Source.state c.args.reader.now in
    let writer = g.K.Sink.state c.args.writer.now in
    let p = err_from_is_err_and c.from_residual.result c.from_residual.ensures.1 in
    rw (p.1, p.2) (EndsAs-no_memory first first first reader reader reader writer writer writer [] (Reading-start first reader writer) (g.met.M.Machine.silent_at_first c.args.machine.now))

pub loop-turn-init : goal.loop-turn-init
loop-turn-init g c =
    let carry_is = sym c.new-carry.ensures.items in
    record {
      reading = subst (Reading (g.M.Machine.plays c.args.machine.now) (g.M.Machine.plays c.args.machine.now) (g.S.Source.state c.args.reader.now) (g.S.Source.state c.args.reader.now) (g.K.Sink.state c.args.writer.now) (g.K.Sink.state c.args.writer.now)) carry_is (Reading-start (g.M.Machine.plays c.args.machine.now) (g.S.Source.state c.args.reader.now) (g.K.Sink.state c.args.writer.now));
      out = c.new-out.ensures.bytes;
      room = omega (arith, c.as_mut_slice-block.ensures);
      reads = reading_start (g.S.Source.state c.args.reader.now);
      kept = (refl, refl);
    }

pub returns-in_default-clause-text : goal.returns-in_default-clause-text
returns-in_default-clause-text g c =
    let first = g.M.Machine.plays c.args.machine.now in
    let now = g.M.Machine.plays c.loop-turn.machine in
    let r0 = g.S.Source.state c.args.reader.now in
    let r1 = g.S.Source.state c.loop-turn.reader in
    let w0 = g.K.Sink.state c.args.writer.now in
    let w1 = g.K.Sink.state c.loop-turn.writer in
    let i = c.loop-turn.invariant in
    EndsAs-read first now now r0 r1 (g.S.Source.state c.read.new.self) w0 w1 w1 c.loop-turn.carry.items i.reading (g.met.M.Machine.silent_at_first c.loop-turn.machine) c.in_default.ensures.bytes

pub returns-then-n-eq0-clause-text : goal.returns-then-n-eq0-clause-text
returns-then-n-eq0-clause-text g c =
    let first = g.M.Machine.plays c.args.machine.now in
    let now = g.M.Machine.plays c.loop-turn.machine in
    let r0 = g.S.Source.state c.args.reader.now in
    let r1 = g.S.Source.state c.loop-turn.reader in
    let w0 = g.K.Sink.state c.args.writer.now in
    let w1 = g.K.Sink.state c.loop-turn.writer in
    let i = c.loop-turn.invariant in
    let t = c.take_last.ensures.took in
    EndsAs-last first now now r0 r1 (g.S.Source.state c.read.new.self) w0 w1 (g.K.Sink.state c.take_last.new.writer) c.loop-turn.carry.items i.reading c.take_last.result t.0 c.take_last.ensures.only (rw c.if-n-eq0.true at c.in-Ok.ensures.bytes.0) t.1 (rw c.as_slice.ensures.value at t.2)

pub returns-in_err-take_block-clause-text : goal.returns-in_err-take_block-clause-text
returns-in_err-take_block-clause-text g c =
    let first = g.M.Machine.plays c.args.machine.now in
    let now = g.M.Machine.plays c.loop-turn.machine in
    let r0 = g.S.Source.state c.args.reader.now in
    let r1 = g.S.Source.state c.loop-turn.reader in
    let w0 = g.K.Sink.state c.args.writer.now in
    let w1 = g.K.Sink.state c.loop-turn.writer in
    let i = c.loop-turn.invariant in
    let p = err_from_is_err_and c.from_residual-in_err-take_block.result c.from_residual-in_err-take_block.ensures.1 in
    let t = c.in_err-take_block.ensures.took in
    rw (p.1, p.2) (EndsAs-stopped first now now r0 r1 (g.S.Source.state c.read.new.self) w0 w1 (g.K.Sink.state c.take_block.new.writer) c.loop-turn.carry.items i.reading (take c.in-Ok.n c.read.new.buf) t.0 c.in-Ok.ensures.bytes.0 t.1 c.in_err-take_block.field-0.0 t.2)

pub returns-in-End-clause-text : goal.returns-in-End-clause-text
returns-in-End-clause-text g c =
    let first = g.M.Machine.plays c.args.machine.now in
    let now = g.M.Machine.plays c.loop-turn.machine in
    let r0 = g.S.Source.state c.args.reader.now in
    let r1 = g.S.Source.state c.loop-turn.reader in
    let w0 = g.K.Sink.state c.args.writer.now in
    let w1 = g.K.Sink.state c.loop-turn.writer in
    let i = c.loop-turn.invariant in
    let t = rw c.in-End.is at c.in_ok-take_block.ensures.took in
    EndsAs-refused first now now r0 r1 (g.S.Source.state c.read.new.self) w0 w1 (g.K.Sink.state c.take_block.new.writer) c.loop-turn.carry.items i.reading (take c.in-Ok.n c.read.new.buf) t.0 c.in-Ok.ensures.bytes.0 t.1 t.2

pub loop-turn-preserved : goal.loop-turn-preserved
loop-turn-preserved g c =
    let first = g.M.Machine.plays c.args.machine.now in
    let now = g.M.Machine.plays c.loop-turn.machine in
    let r0 = g.S.Source.state c.args.reader.now in
    let r1 = g.S.Source.state c.loop-turn.reader in
    let w0 = g.K.Sink.state c.args.writer.now in
    let w1 = g.K.Sink.state c.loop-turn.writer in
    let i = c.loop-turn.invariant in
    let t = rw c.in-On.is at c.in_ok-take_block.ensures.took in
    let b = c.in_ok-take_block.ensures in
    let h = b.heeds.1 (λ e. fine_is_no_error _ _ e) in
    record {
      reading = Reading-block first now (g.M.Machine.plays c.take_block.new.machine) r0 r1 (g.S.Source.state c.read.new.self) w0 w1 (g.K.Sink.state c.take_block.new.writer) c.loop-turn.carry.items i.reading (take c.in-Ok.n c.read.new.buf) t.0 c.in-Ok.ensures.bytes.0 t.1 c.take_block.new.carry.items t.2.0 t.2.1;
      out = b.out;
      room = omega arith;
      reads = reading_more _ (g.S.Source.state c.args.reader.now) (g.S.Source.state c.loop-turn.reader) (g.S.Source.state c.read.new.self) i.reads _ c.in-Ok.n c.in-Ok.ensures.reads c.in-Ok.ensures.faults c.in-Ok.ensures.ends c.if-n-eq0.false;
      kept = (h.0 ∙ i.kept.0, h.1 ∙ i.kept.1);
    }

pub returns-clause-text : goal.returns-clause-text
returns-clause-text g c =
    let first = g.M.Machine.plays c.args.machine.now in
    let now = g.M.Machine.plays c.loop-turn.machine in
    let r0 = g.S.Source.state c.args.reader.now in
    let r1 = g.S.Source.state c.loop-turn.reader in
    let w0 = g.K.Sink.state c.args.writer.now in
    let w1 = g.K.Sink.state c.loop-turn.writer in
    let i = c.loop-turn.invariant in
    EndsAs-now first now now r0 r1 r1 w0 w1 w1 c.loop-turn.carry.items i.reading (g.met.M.Machine.silent_at_first c.loop-turn.machine)

pub returns-in_err-room-clause-prompt : goal.returns-in_err-room-clause-prompt
returns-in_err-room-clause-prompt g c =
    let first = g.M.Machine.plays c.args.machine.now in
    let reader = g.S.Source.state c.args.reader.now in
    let writer = g.K.Sink.state c.args.writer.now in
    PromptAs-now first first first reader reader reader writer writer writer [] (Reading-start first reader writer) (g.met.M.Machine.silent_at_first c.args.machine.now)

pub returns-in_default-clause-prompt : goal.returns-in_default-clause-prompt
returns-in_default-clause-prompt g c =
    let first = g.M.Machine.plays c.args.machine.now in
    let now = g.M.Machine.plays c.loop-turn.machine in
    let r0 = g.S.Source.state c.args.reader.now in
    let r1 = g.S.Source.state c.loop-turn.reader in
    let w0 = g.K.Sink.state c.args.writer.now in
    let w1 = g.K.Sink.state c.loop-turn.writer in
    let i = c.loop-turn.invariant in
    PromptAs-read first now now r0 r1 (g.S.Source.state c.read.new.self) w0 w1 w1 c.loop-turn.carry.items i.reading (g.met.M.Machine.silent_at_first c.loop-turn.machine) c.in_default.ensures.bytes

pub returns-then-n-eq0-clause-prompt : goal.returns-then-n-eq0-clause-prompt
returns-then-n-eq0-clause-prompt g c =
    let first = g.M.Machine.plays c.args.machine.now in
    let now = g.M.Machine.plays c.loop-turn.machine in
    let r0 = g.S.Source.state c.args.reader.now in
    let r1 = g.S.Source.state c.loop-turn.reader in
    let w0 = g.K.Sink.state c.args.writer.now in
    let w1 = g.K.Sink.state c.loop-turn.writer in
    let i = c.loop-turn.invariant in
    let t = c.take_last.ensures.took in
    PromptAs-block first now now r0 r1 (g.S.Source.state c.read.new.self) w0 w1 (g.K.Sink.state c.take_last.new.writer) c.loop-turn.carry.items i.reading (g.met.M.Machine.silent_at_first c.loop-turn.machine) [] t.0 (omega arith) (rw c.if-n-eq0.true at c.in-Ok.ensures.bytes.0) t.1

pub returns-then-n-eq0-clause-no_read_after : goal.returns-then-n-eq0-clause-no_read_after
returns-then-n-eq0-clause-no_read_after g c =
    let first = g.M.Machine.plays c.args.machine.now in
    let now = g.M.Machine.plays c.loop-turn.machine in
    let r0 = g.S.Source.state c.args.reader.now in
    let r1 = g.S.Source.state c.loop-turn.reader in
    let w0 = g.K.Sink.state c.args.writer.now in
    let w1 = g.K.Sink.state c.loop-turn.writer in
    let i = c.loop-turn.invariant in
    λ _. inr (whole_good first now now r0 r1 (g.S.Source.state c.read.new.self) w0 w1 w1 c.loop-turn.carry.items i.reading (g.met.M.Machine.silent_at_first c.loop-turn.machine) (rw c.if-n-eq0.true at c.in-Ok.ensures.bytes.0))

pub returns-in_err-take_block-clause-prompt : goal.returns-in_err-take_block-clause-prompt
returns-in_err-take_block-clause-prompt g c =
    let first = g.M.Machine.plays c.args.machine.now in
    let now = g.M.Machine.plays c.loop-turn.machine in
    let r0 = g.S.Source.state c.args.reader.now in
    let r1 = g.S.Source.state c.loop-turn.reader in
    let w0 = g.K.Sink.state c.args.writer.now in
    let w1 = g.K.Sink.state c.loop-turn.writer in
    let i = c.loop-turn.invariant in
    let t = c.in_err-take_block.ensures.took in
    PromptAs-block first now now r0 r1 (g.S.Source.state c.read.new.self) w0 w1 (g.K.Sink.state c.take_block.new.writer) c.loop-turn.carry.items i.reading (g.met.M.Machine.silent_at_first c.loop-turn.machine) (take c.in-Ok.n c.read.new.buf) t.0 (take_small c.in-Ok.n c.read.new.buf (omega arith)) c.in-Ok.ensures.bytes.0 t.1

pub returns-in-End-clause-prompt : goal.returns-in-End-clause-prompt
returns-in-End-clause-prompt g c =
    let first = g.M.Machine.plays c.args.machine.now in
    let now = g.M.Machine.plays c.loop-turn.machine in
    let r0 = g.S.Source.state c.args.reader.now in
    let r1 = g.S.Source.state c.loop-turn.reader in
    let w0 = g.K.Sink.state c.args.writer.now in
    let w1 = g.K.Sink.state c.loop-turn.writer in
    let i = c.loop-turn.invariant in
    let t = c.in_ok-take_block.ensures.took in
    PromptAs-block first now now r0 r1 (g.S.Source.state c.read.new.self) w0 w1 (g.K.Sink.state c.take_block.new.writer) c.loop-turn.carry.items i.reading (g.met.M.Machine.silent_at_first c.loop-turn.machine) (take c.in-Ok.n c.read.new.buf) t.0 (take_small c.in-Ok.n c.read.new.buf (omega arith)) c.in-Ok.ensures.bytes.0 t.1

pub returns-clause-prompt : goal.returns-clause-prompt
returns-clause-prompt g c =
    let first = g.M.Machine.plays c.args.machine.now in
    let now = g.M.Machine.plays c.loop-turn.machine in
    let r0 = g.S.Source.state c.args.reader.now in
    let r1 = g.S.Source.state c.loop-turn.reader in
    let w0 = g.K.Sink.state c.args.writer.now in
    let w1 = g.K.Sink.state c.loop-turn.writer in
    let i = c.loop-turn.invariant in
    PromptAs-now first now now r0 r1 r1 w0 w1 w1 c.loop-turn.carry.items i.reading (g.met.M.Machine.silent_at_first c.loop-turn.machine)

pub returns-then-n-eq0-clause-fine : goal.returns-then-n-eq0-clause-fine
returns-then-n-eq0-clause-fine g c = λ _.
    let some : 0 < length c.read.new.buf = omega (arith, c.loop-turn.invariant.room) in
    gave_all _ (g.S.Source.state c.args.reader.now) (g.S.Source.state c.loop-turn.reader) (g.S.Source.state c.read.new.self) c.loop-turn.invariant.reads (length c.read.new.buf) c.in-Ok.n some c.if-n-eq0.true c.in-Ok.ensures.ends (c.in-Ok.ensures.bytes.1 c.if-n-eq0.true some)

pub returns-in_default-clause-heeds_reads : goal.returns-in_default-clause-heeds_reads
returns-in_default-clause-heeds_reads g c = heeds_fault _ (g.S.Source.state c.args.reader.now) (g.S.Source.state c.loop-turn.reader) (g.S.Source.state c.read.new.self) c.loop-turn.invariant.reads (omega arith) c.in_default.ensures.reads c.in_default.ensures.faults

pub returns-then-n-eq0-clause-heeds_reads : goal.returns-then-n-eq0-clause-heeds_reads
returns-then-n-eq0-clause-heeds_reads g c =
    heeds_other _ (g.S.Source.state c.args.reader.now) (g.S.Source.state c.loop-turn.reader) (g.S.Source.state c.read.new.self) c.loop-turn.invariant.reads (omega arith) c.in-Ok.ensures.reads c.take_last.result c.take_last.ensures.only c.in-Ok.ensures.faults

pub returns-in_err-take_block-clause-heeds_reads : goal.returns-in_err-take_block-clause-heeds_reads
returns-in_err-take_block-clause-heeds_reads g c =
    let p = err_from_is_err_and c.from_residual-in_err-take_block.result c.from_residual-in_err-take_block.ensures.1 in
    heeds_other _ (g.S.Source.state c.args.reader.now) (g.S.Source.state c.loop-turn.reader) (g.S.Source.state c.read.new.self) c.loop-turn.invariant.reads (omega arith) c.in-Ok.ensures.reads c.from_residual-in_err-take_block.result (stops_unread c.from_residual-in_err-take_block.result c.in_err-take_block.field-0.0 _ _ _ (p.1 ∙ ap Err p.2) c.in_err-take_block.ensures.took.2) c.in-Ok.ensures.faults

pub returns-in-End-clause-heeds_reads : goal.returns-in-End-clause-heeds_reads
returns-in-End-clause-heeds_reads g c =
    heeds_other _ (g.S.Source.state c.args.reader.now) (g.S.Source.state c.loop-turn.reader) (g.S.Source.state c.read.new.self) c.loop-turn.invariant.reads (omega arith) c.in-Ok.ensures.reads _ (λ e. fine_is_no_error _ _ e) c.in-Ok.ensures.faults

pub returns-clause-heeds_reads : goal.returns-clause-heeds_reads
returns-clause-heeds_reads g c = heeds_limit c.loop-turn.turn (g.S.Source.state c.args.reader.now) (g.S.Source.state c.loop-turn.reader) c.loop-turn.invariant.reads (omega arith)

pub returns-then-n-eq0-clause-heeds_writes : goal.returns-then-n-eq0-clause-heeds_writes
returns-then-n-eq0-clause-heeds_writes g c = heeds_later c.take_last.result (g.K.Sink.state c.args.writer.now) (g.K.Sink.state c.loop-turn.writer) (g.K.Sink.state c.take_last.new.writer) c.loop-turn.invariant.kept c.take_last.ensures.heeds

pub returns-in_err-take_block-clause-heeds_writes : goal.returns-in_err-take_block-clause-heeds_writes
returns-in_err-take_block-clause-heeds_writes g c =
    let p = err_from_is_err_and c.from_residual-in_err-take_block.result c.from_residual-in_err-take_block.ensures.1 in
    rw (p.1, p.2) (heeds_later _ (g.K.Sink.state c.args.writer.now) (g.K.Sink.state c.loop-turn.writer) (g.K.Sink.state c.take_block.new.writer) c.loop-turn.invariant.kept (heeds_passed c.in_err-take_block.field-0.0 (g.K.Sink.state c.loop-turn.writer) (g.K.Sink.state c.take_block.new.writer) c.in_err-take_block.ensures.heeds))
