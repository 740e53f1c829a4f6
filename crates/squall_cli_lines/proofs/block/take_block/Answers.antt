use Rattle.std.specs.Prelude.{string_bytes}
use Rattle.squall_cli_lines.proofs.Turns.{Turn, Turn-start, Turn-line, Turn-flush, Turn-done, Told-turn, Told-over, Told-fails, Over-line, Over-last, Over-flush}
use Rattle.std.proofs.lemmas.Result.{err_from_is_err_and}
use Rattle.std.proofs.Common.{◌++◌, ◌<◌, ◌∙◌, sym, subst, length, arith, refl}
use Rattle.squall_cli_lines.specs.Lines.{IsOneLine}
use Rattle.squall_cli_lines.proofs.LineLemmas.{IsOneLine-append}
use Rattle.squall_cli_lines.proofs.Bytes.{fine_is_no_error}
use Rattle.squall_cli_lines.proofs.block.take_block.Goals as goal

pub loop-line-init : goal.loop-line-init
loop-line-init g c =
    let first = g.M.Machine.plays c.args.machine.now in
    let old = (g.K.Sink.state c.args.writer.now).contents in
    let read = c.args.carry.now.items ++ c.args.block.now in
    let start = Turn-start first old read c.args.carry.now.items (g.met.M.Machine.silent_at_first c.args.machine.now) c.requires.carry in
    record { turn = subst (λ w. Turn first first old old read read w c.args.carry.now.items) (sym c.requires.out) start; kept = (refl, refl) }

pub returns-in_err-flush-in-End-clause-took : goal.returns-in_err-flush-in-End-clause-took
returns-in_err-flush-in-End-clause-took g c =
    let first = g.M.Machine.plays c.args.machine.now in
    let now = g.M.Machine.plays c.loop-line.machine in
    let old = (g.K.Sink.state c.args.writer.now).contents in
    let new = (g.K.Sink.state c.loop-line.writer).contents in
    let read = c.args.carry.now.items ++ c.args.block.now in
    let answered = c.in_ok-take_line.ensures.answered in
    let taken = rw c.in-End.is at answered.2 in
    let over = Over-line first now now old new new read c.loop-line.carry.items c.loop-line.rest.now c.in-Some.line.now c.in-Some.others.now (string_bytes c.loop-line.out) answered.0 (string_bytes c.take_line.new.out) c.loop-line.invariant.turn c.in-Some.ensures.line.0 c.in-Some.ensures.line.1 taken answered.1 in
    let p = err_from_is_err_and c.from_residual-in_err-flush-in-End.result c.from_residual-in_err-flush-in-End.ensures.1 in
    let e = c.in_err-flush-in-End.ensures.err in
    rw (p.1, p.2, c.in_err-flush-in-End.ensures.only) (Told-fails first now now old new (g.K.Sink.state c.flush.new.writer).contents read (string_bytes c.take_line.new.out) e.0 (Told-over first now now old new new read (string_bytes c.take_line.new.out) over) e.1)

pub returns-in-End-clause-took : goal.returns-in-End-clause-took
returns-in-End-clause-took g c =
    let first = g.M.Machine.plays c.args.machine.now in
    let now = g.M.Machine.plays c.loop-line.machine in
    let old = (g.K.Sink.state c.args.writer.now).contents in
    let new = (g.K.Sink.state c.loop-line.writer).contents in
    let read = c.args.carry.now.items ++ c.args.block.now in
    let answered = c.in_ok-take_line.ensures.answered in
    let taken = rw c.in-End.is at answered.2 in
    let over = Over-line first now now old new new read c.loop-line.carry.items c.loop-line.rest.now c.in-Some.line.now c.in-Some.others.now (string_bytes c.loop-line.out) answered.0 (string_bytes c.take_line.new.out) c.loop-line.invariant.turn c.in-Some.ensures.line.0 c.in-Some.ensures.line.1 taken answered.1 in
    Over-flush first now now old new (g.K.Sink.state c.flush.new.writer).contents read (string_bytes c.take_line.new.out) over c.in_ok-flush-in-End.ensures.ok

pub loop-line-preserved-in-Continue-branch-4 : goal.loop-line-preserved-in-Continue-branch-4
loop-line-preserved-in-Continue-branch-4 g c =
    let first = g.M.Machine.plays c.args.machine.now in
    let now = g.M.Machine.plays c.loop-line.machine in
    let next = g.M.Machine.plays c.take_line.new.machine in
    let old = (g.K.Sink.state c.args.writer.now).contents in
    let new = (g.K.Sink.state c.loop-line.writer).contents in
    let read = c.args.carry.now.items ++ c.args.block.now in
    let i = c.loop-line.invariant in
    let answered = c.in_ok-take_line.ensures.answered in
    let taken = rw c.in-On.is at answered.2 in
    let turn = Turn-line first now next old new new read c.loop-line.carry.items c.loop-line.rest.now c.in-Some.line.now c.in-Some.others.now (string_bytes c.loop-line.out) answered.0 (string_bytes c.take_line.new.out) c.take_line.new.carry.items i.turn c.in-Some.ensures.line.0 c.in-Some.ensures.line.1 taken answered.1 c.in_ok-take_line.ensures.carry in
    let left = c.take_line.new.carry.items ++ c.in-Some.others.now in
    let f = c.in_ok-flush-in-On.ensures in
    record {
      turn = Turn-flush first next next old new (g.K.Sink.state c.flush-then-len-ge-BLOCK_SIZE.new.writer).contents read left c.take_line.new.carry.items (string_bytes c.take_line.new.out) (string_bytes c.flush-then-len-ge-BLOCK_SIZE.new.out) (g.met.M.Machine.silent_at_first c.take_line.new.machine) turn f.ok f.empty;
      kept = let h = f.heeds.1 (λ e. fine_is_no_error _ _ e) in (h.0 ∙ i.kept.0, h.1 ∙ i.kept.1);
    }

pub returns-in_err-flush-in-On-clause-took : goal.returns-in_err-flush-in-On-clause-took
returns-in_err-flush-in-On-clause-took g c =
    let first = g.M.Machine.plays c.args.machine.now in
    let now = g.M.Machine.plays c.loop-line.machine in
    let next = g.M.Machine.plays c.take_line.new.machine in
    let old = (g.K.Sink.state c.args.writer.now).contents in
    let new = (g.K.Sink.state c.loop-line.writer).contents in
    let read = c.args.carry.now.items ++ c.args.block.now in
    let i = c.loop-line.invariant in
    let answered = c.in_ok-take_line.ensures.answered in
    let taken = rw c.in-On.is at answered.2 in
    let turn = Turn-line first now next old new new read c.loop-line.carry.items c.loop-line.rest.now c.in-Some.line.now c.in-Some.others.now (string_bytes c.loop-line.out) answered.0 (string_bytes c.take_line.new.out) c.take_line.new.carry.items i.turn c.in-Some.ensures.line.0 c.in-Some.ensures.line.1 taken answered.1 c.in_ok-take_line.ensures.carry in
    let left = c.take_line.new.carry.items ++ c.in-Some.others.now in
    let p = err_from_is_err_and c.from_residual-in_err-flush-in-On.result c.from_residual-in_err-flush-in-On.ensures.1 in
    let e = c.in_err-flush-in-On.ensures.err in
    rw (p.1, p.2, c.in_err-flush-in-On.ensures.only) (Told-fails first next next old new (g.K.Sink.state c.flush-then-len-ge-BLOCK_SIZE.new.writer).contents read (string_bytes c.take_line.new.out) e.0 (Told-turn first next next old new new read left c.take_line.new.carry.items (string_bytes c.take_line.new.out) (g.met.M.Machine.silent_at_first c.take_line.new.machine) turn) e.1)

pub loop-line-preserved : goal.loop-line-preserved
loop-line-preserved g c =
    let first = g.M.Machine.plays c.args.machine.now in
    let now = g.M.Machine.plays c.loop-line.machine in
    let next = g.M.Machine.plays c.take_line.new.machine in
    let old = (g.K.Sink.state c.args.writer.now).contents in
    let new = (g.K.Sink.state c.loop-line.writer).contents in
    let read = c.args.carry.now.items ++ c.args.block.now in
    let i = c.loop-line.invariant in
    let answered = c.in_ok-take_line.ensures.answered in
    let taken = rw c.in-On.is at answered.2 in
    record {
      turn = Turn-line first now next old new new read c.loop-line.carry.items c.loop-line.rest.now c.in-Some.line.now c.in-Some.others.now (string_bytes c.loop-line.out) answered.0 (string_bytes c.take_line.new.out) c.take_line.new.carry.items i.turn c.in-Some.ensures.line.0 c.in-Some.ensures.line.1 taken answered.1 c.in_ok-take_line.ensures.carry;
      kept = i.kept;
    }

pub returns-in_err-flush-clause-took : goal.returns-in_err-flush-clause-took
returns-in_err-flush-clause-took g c =
    let first = g.M.Machine.plays c.args.machine.now in
    let now = g.M.Machine.plays c.loop-line.machine in
    let old = (g.K.Sink.state c.args.writer.now).contents in
    let new = (g.K.Sink.state c.loop-line.writer).contents in
    let read = c.args.carry.now.items ++ c.args.block.now in
    let left = c.loop-line.carry.items ++ c.loop-line.rest.now in
    let t = c.loop-line.invariant.turn in
    let one : IsOneLine left = IsOneLine-append c.loop-line.carry.items c.loop-line.rest.now t.one c.in_default.ensures.none in
    let line_is = c.in_ok-extend_from_slice.ensures.items in
    let answered = c.in_ok-take.ensures.answered in
    let long : 1048577 < length c.as_slice.result.now = omega arith in
    let taken = rw (c.in_ok-take.ensures.long long) at answered.2 in
    let over = Over-last first now now old new new read left c.loop-line.carry.items c.as_slice.result.now (string_bytes c.loop-line.out) answered.0 (string_bytes c.take.new.out) t (sym line_is ∙ sym c.as_slice.ensures.value) (subst IsOneLine (sym line_is ∙ sym c.as_slice.ensures.value) one) (omega arith) taken answered.1 in
    let p = err_from_is_err_and c.from_residual-in_err-flush.result c.from_residual-in_err-flush.ensures.1 in
    let e = c.in_err-flush.ensures.err in
    rw (p.1, p.2, c.in_err-flush.ensures.only) (Told-fails first now now old new (g.K.Sink.state c.flush-then-len-gt-LONGEST_PIECE.new.writer).contents read (string_bytes c.take.new.out) e.0 (Told-over first now now old new new read (string_bytes c.take.new.out) over) e.1)

pub returns-then-len-gt-LONGEST_PIECE-clause-took : goal.returns-then-len-gt-LONGEST_PIECE-clause-took
returns-then-len-gt-LONGEST_PIECE-clause-took g c =
    let first = g.M.Machine.plays c.args.machine.now in
    let now = g.M.Machine.plays c.loop-line.machine in
    let old = (g.K.Sink.state c.args.writer.now).contents in
    let new = (g.K.Sink.state c.loop-line.writer).contents in
    let read = c.args.carry.now.items ++ c.args.block.now in
    let left = c.loop-line.carry.items ++ c.loop-line.rest.now in
    let t = c.loop-line.invariant.turn in
    let one : IsOneLine left = IsOneLine-append c.loop-line.carry.items c.loop-line.rest.now t.one c.in_default.ensures.none in
    let line_is = c.in_ok-extend_from_slice.ensures.items in
    let answered = c.in_ok-take.ensures.answered in
    let long : 1048577 < length c.as_slice.result.now = omega arith in
    let taken = rw (c.in_ok-take.ensures.long long) at answered.2 in
    let over = Over-last first now now old new new read left c.loop-line.carry.items c.as_slice.result.now (string_bytes c.loop-line.out) answered.0 (string_bytes c.take.new.out) t (sym line_is ∙ sym c.as_slice.ensures.value) (subst IsOneLine (sym line_is ∙ sym c.as_slice.ensures.value) one) (omega arith) taken answered.1 in
    Over-flush first now now old new (g.K.Sink.state c.flush-then-len-gt-LONGEST_PIECE.new.writer).contents read (string_bytes c.take.new.out) over c.in_ok-flush.ensures.ok

pub returns-in_err-flush-2-clause-took : goal.returns-in_err-flush-2-clause-took
returns-in_err-flush-2-clause-took g c =
    let first = g.M.Machine.plays c.args.machine.now in
    let now = g.M.Machine.plays c.loop-line.machine in
    let old = (g.K.Sink.state c.args.writer.now).contents in
    let new = (g.K.Sink.state c.loop-line.writer).contents in
    let read = c.args.carry.now.items ++ c.args.block.now in
    let left = c.loop-line.carry.items ++ c.loop-line.rest.now in
    let t = c.loop-line.invariant.turn in
    let one : IsOneLine left = IsOneLine-append c.loop-line.carry.items c.loop-line.rest.now t.one c.in_default.ensures.none in
    let line_is = c.in_ok-extend_from_slice.ensures.items in
    let p = err_from_is_err_and c.from_residual-in_err-flush-2.result c.from_residual-in_err-flush-2.ensures.1 in
    let e = c.in_err-flush-2.ensures.err in
    rw (p.1, p.2, c.in_err-flush-2.ensures.only) (Told-fails first now now old new (g.K.Sink.state c.flush-2.new.writer).contents read (string_bytes c.loop-line.out) e.0 (Told-turn first now now old new new read left c.loop-line.carry.items (string_bytes c.loop-line.out) (g.met.M.Machine.silent_at_first c.loop-line.machine) t) e.1)

pub returns-clause-took : goal.returns-clause-took
returns-clause-took g c =
    let first = g.M.Machine.plays c.args.machine.now in
    let now = g.M.Machine.plays c.loop-line.machine in
    let old = (g.K.Sink.state c.args.writer.now).contents in
    let new = (g.K.Sink.state c.loop-line.writer).contents in
    let read = c.args.carry.now.items ++ c.args.block.now in
    let left = c.loop-line.carry.items ++ c.loop-line.rest.now in
    let t = c.loop-line.invariant.turn in
    let one : IsOneLine left = IsOneLine-append c.loop-line.carry.items c.loop-line.rest.now t.one c.in_default.ensures.none in
    let line_is = c.in_ok-extend_from_slice.ensures.items in
    let d = Turn-done first now now old new (g.K.Sink.state c.flush-2.new.writer).contents read left c.loop-line.carry.items (string_bytes c.loop-line.out) t c.in_ok-flush-2.ensures.ok in
    rw line_is (d.0, d.1, (d.2, one))
