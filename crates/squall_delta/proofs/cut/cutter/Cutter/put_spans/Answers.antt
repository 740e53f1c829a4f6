use Rattle.std.proofs.lemmas.Result.{err_from_is_err_and}
use Rattle.squall_delta.specs.declared.cut.fault.CutFault.TheVariants.{TooLong}
use Rattle.squall_delta.proofs.Slices.{passed_on}
use Rattle.std.proofs.Common.{arith}
use Rattle.std.proofs.lemmas.Bool.Decides.{nat_tests}
use Rattle.squall_delta.proofs.Slices.{span_too_long}
use Rattle.squall_delta.proofs.cut.cutter.Cutter.put_spans.Goals as goal

pub returns-in_err-look-clause-long : goal.returns-in_err-look-clause-long
returns-in_err-look-clause-long c = λ e.
    let p = err_from_is_err_and c.from_residual.result c.from_residual.ensures.1 in
    span_too_long c.args.self.now.most c.args.self.now.piece c.args.place c.args.spans.now c.requires.next (first_of (omega arith, grind (arith, nat_tests))) (c.look.ensures.long (passed_on c.look.result c.from_residual.result c.in_err-look.field-0.0 p.0 TooLong c.in_err-look.was p.1 p.2 e))
