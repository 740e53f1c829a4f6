use Rattle.std.proofs.Common.{◌<◌, rules}
use Rattle.squall_part.proofs.Awaited.{awaited_still}
use Rattle.squall_part.proofs.log.Log.load.Goals as goal

pub invariant_of-self : goal.invariant_of-self
invariant_of-self c =
    let lt : c.args.span.lo < c.args.span.hi = search rules in
    awaited_still c.load_awaited.result _ _ c.self.inside.course c.self.inside.part c.args.span c.self.inside.loaded c.self.inside.awaited c.load_awaited.new.loaded c.load_awaited.new.awaited lt c.known.ensures.0
    c.load_awaited.ensures.loaded c.load_awaited.ensures.awaited c.load_awaited.ensures.err c.self.invariant
