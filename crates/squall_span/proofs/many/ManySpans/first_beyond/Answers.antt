use Rattle.std.proofs.Common.{◌∙◌, sym, ap, None, Some}
use Rattle.squall_span.proofs.Changing.{first_beyond_is, beyond_some}
use Rattle.squall_span.proofs.many.ManySpans.first_beyond.Goals as goal

pub returns-in_err-hi : goal.returns-in_err-hi
returns-in_err-hi c = c.from_residual.ensures ∙ first_beyond_is c.args.bound c.self.inside.ends c.args.self.now None c.self.view_is (sym c.above.ensures ∙ c.in_err-hi.was)

pub between-requires : goal.between-requires
between-requires c = beyond_some c.args.bound c.self.inside.ends (c.in_ok-hi.hi, c.in_ok-hi.lo) c.self.invariant.0 (sym c.above.ensures ∙ c.in_ok-hi.was)

pub returns : goal.returns
returns c =
    ap Some c.between.ensures
    ∙ first_beyond_is c.args.bound c.self.inside.ends c.args.self.now (Some (c.in_ok-hi.hi, c.in_ok-hi.lo)) c.self.view_is (sym c.above.ensures ∙ c.in_ok-hi.was)
