use Rattle.std.proofs.Common.{◌≡◌, ◌<◌, ◌++◌, take, sym, subst, arith, length}
use Rattle.std.proofs.lemmas.Result.{err_from_is_err_and}
use Rattle.std.proofs.KnownBytes.{Consumes-trans}
use Rattle.std.specs.Io.KnownBytes.{Consumes}
use Rattle.squall_cli_lines.proofs.Bytes.{reading_more, gave_all, heeds_fault, heeds_other, heeds_limit, fine_is_no_error}
use Rattle.squall_cli_lines.proofs.input.read_all.Goals as goal

pub loop-turn-preserved : goal.loop-turn-preserved
loop-turn-preserved g c =
    let first = (g.S.Source.state c.args.source.now).remaining in
    let before = (g.S.Source.state c.loop-turn.source).remaining in
    let after = (g.S.Source.state c.read.new.self).remaining in
    let i = c.loop-turn.invariant in
    let grown : c.extend_from_slice.new.self.items ≡ c.loop-turn.bytes.items ++ take c.in-Ok.n c.read.new.buf = c.in_ok-extend_from_slice.ensures.items in
    record {
      bytes = subst (Consumes first after) (sym grown) (Consumes-trans first before after c.loop-turn.bytes.items (take c.in-Ok.n c.read.new.buf) i.bytes c.in-Ok.ensures.bytes.0);
      room = omega arith;
      reads = reading_more _ (g.S.Source.state c.args.source.now) (g.S.Source.state c.loop-turn.source) (g.S.Source.state c.read.new.self) i.reads _ c.in-Ok.n c.in-Ok.ensures.reads c.in-Ok.ensures.faults c.in-Ok.ensures.ends c.if-n-eq0.false;
    }

pub returns-in_err-extend_from_slice-clause-bytes : goal.returns-in_err-extend_from_slice-clause-bytes
returns-in_err-extend_from_slice-clause-bytes g c =
    let first = (g.S.Source.state c.args.source.now).remaining in
    let before = (g.S.Source.state c.loop-turn.source).remaining in
    let after = (g.S.Source.state c.read.new.self).remaining in
    let i = c.loop-turn.invariant in
    let p = err_from_is_err_and c.from_residual-in_err-extend_from_slice.result c.from_residual-in_err-extend_from_slice.ensures.1 in (
      c.loop-turn.bytes.items ++ take c.in-Ok.n c.read.new.buf,
      Consumes-trans first before after c.loop-turn.bytes.items (take c.in-Ok.n c.read.new.buf) i.bytes c.in-Ok.ensures.bytes.0,
      rw (p.1) tt,
    )

pub returns-then-n-eq0-clause-all : goal.returns-then-n-eq0-clause-all
returns-then-n-eq0-clause-all g c =
    let some : 0 < length c.read.new.buf = omega (arith, c.loop-turn.invariant.room) in
    gave_all _ (g.S.Source.state c.args.source.now) (g.S.Source.state c.loop-turn.source) (g.S.Source.state c.read.new.self) c.loop-turn.invariant.reads (length c.read.new.buf) c.in-Ok.n some c.if-n-eq0.true c.in-Ok.ensures.ends (c.in-Ok.ensures.bytes.1 c.if-n-eq0.true some)

pub returns-in_default-clause-heeds : goal.returns-in_default-clause-heeds
returns-in_default-clause-heeds g c = heeds_fault _ (g.S.Source.state c.args.source.now) (g.S.Source.state c.loop-turn.source) (g.S.Source.state c.read.new.self) c.loop-turn.invariant.reads (omega arith) c.in_default.ensures.reads c.in_default.ensures.faults

pub returns-then-n-eq0-clause-heeds : goal.returns-then-n-eq0-clause-heeds
returns-then-n-eq0-clause-heeds g c =
    heeds_other _ (g.S.Source.state c.args.source.now) (g.S.Source.state c.loop-turn.source) (g.S.Source.state c.read.new.self) c.loop-turn.invariant.reads (omega arith) c.in-Ok.ensures.reads _ (λ e. fine_is_no_error _ _ e) c.in-Ok.ensures.faults

pub returns-clause-heeds : goal.returns-clause-heeds
returns-clause-heeds g c = heeds_limit c.loop-turn.turn (g.S.Source.state c.args.source.now) (g.S.Source.state c.loop-turn.source) c.loop-turn.invariant.reads (omega arith)
