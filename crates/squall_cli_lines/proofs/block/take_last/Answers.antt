use Rattle.std.specs.Prelude.{string_bytes}
use Rattle.std.proofs.Common.{◌≡◌, ◌<◌, [], ◌++◌, ◌∙◌, length, take, arith, ap, refl}
use Rattle.std.proofs.lemmas.Bool.Decides.{nat_tests}
use Rattle.std.proofs.lemmas.Result.{err_from_is_err_and}
use Rattle.std.proofs.KnownBytes.{Appends-nil}
use Rattle.squall_cli_lines.specs.Script.{silence}
use Rattle.squall_cli_lines.proofs.Outcomes.{last-none, last-on, last-end, last-cut}
use Rattle.squall_cli_lines.proofs.block.take_last.Goals as goal

pub returns-then-is_empty-clause-took : goal.returns-then-is_empty-clause-took
returns-then-is_empty-clause-took g c =
    let none : length c.args.carry.now ≡ 0 = grind (arith, nat_tests) in
    ([], Appends-nil (g.K.Sink.state c.args.writer.now).contents, last-none (g.M.Machine.plays c.args.machine.now) c.args.carry.now none (g.met.M.Machine.silent_at_first c.args.machine.now))

pub returns-in_err-flow-clause-took : goal.returns-in_err-flow-clause-took
returns-in_err-flow-clause-took g c =
    let p = err_from_is_err_and c.from_residual.result c.from_residual.ensures.1 in
    rw (p.1, p.2) ([], Appends-nil (g.K.Sink.state c.args.writer.now).contents, (0, silence, g.met.M.Machine.silent_at_first c.args.machine.now, refl))

pub returns-in_err-flush-clause-took : goal.returns-in_err-flush-clause-took
returns-in_err-flush-clause-took g c =
    let now = g.M.Machine.plays c.args.machine.now in
    let next = g.M.Machine.plays c.take.new.self in
    let answered = c.in_ok-flow.ensures.answered in
    let some : 0 < length c.args.carry.now = grind (arith, nat_tests) in
    let out = (string_bytes c.take.new.out) in
    let p = err_from_is_err_and c.from_residual-in_err-flush.result c.from_residual-in_err-flush.ensures.1 in
    let e = c.in_err-flush.ensures.err in
    rw (p.1, p.2, c.in_err-flush.ensures.only) (take e.0 out, e.1, last-cut now next c.args.carry.now answered.0 c.requires.carry some c.in_ok-flow.flow out e.0 (answered.1 ∙ ap (λ w. w ++ answered.0) c.requires.out) (g.met.M.Machine.silent_at_first c.take.new.self) answered.2)

pub returns-in-On-clause-took : goal.returns-in-On-clause-took
returns-in-On-clause-took g c =
    let now = g.M.Machine.plays c.args.machine.now in
    let next = g.M.Machine.plays c.take.new.self in
    let answered = c.in_ok-flow.ensures.answered in
    let some : 0 < length c.args.carry.now = grind (arith, nat_tests) in
    let out = (string_bytes c.take.new.out) in
    (out, c.in_ok-flush.ensures.ok, last-on now next c.args.carry.now answered.0 c.requires.carry some out (answered.1 ∙ ap (λ w. w ++ answered.0) c.requires.out) (g.met.M.Machine.silent_at_first c.take.new.self) (rw c.in-On.is at answered.2))

pub returns-in-End-clause-took : goal.returns-in-End-clause-took
returns-in-End-clause-took g c =
    let now = g.M.Machine.plays c.args.machine.now in
    let next = g.M.Machine.plays c.take.new.self in
    let answered = c.in_ok-flow.ensures.answered in
    let some : 0 < length c.args.carry.now = grind (arith, nat_tests) in
    let out = (string_bytes c.take.new.out) in
    (out, c.in_ok-flush.ensures.ok, last-end now next c.args.carry.now answered.0 c.requires.carry some out (answered.1 ∙ ap (λ w. w ++ answered.0) c.requires.out) (rw c.in-End.is at answered.2))
