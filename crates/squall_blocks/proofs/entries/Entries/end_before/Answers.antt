use Rattle.squall_blocks.specs.EntriesLaws.{before_is, before_none}
use Rattle.std.proofs.Common.{arith}
use Rattle.squall_blocks.proofs.entries.Entries.end_before.Goals as goal

pub returns-then-at-eq0 : goal.returns-then-at-eq0
returns-then-at-eq0 g c = before_none c.args.least c.args.key c.ended-at.result c.args.self.now c.ended-at.ensures.up_to c.if-at-eq0.true

pub returns : goal.returns
returns g c = before_is c.args.least c.args.key c.ended-at.result c.args.self.now c.at.result c.ended-at.ensures.up_to c.ended-at.ensures.within (omega (arith, c.if-at-eq0.false)) c.at.ensures
