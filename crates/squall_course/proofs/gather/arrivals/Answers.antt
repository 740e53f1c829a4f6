use Rattle.std.proofs.Common.{arith}
use Rattle.squall_course.proofs.Filed.{subplan_moves, dests_rise}
use Rattle.squall_course.proofs.gather.arrivals.Goals as goal

pub returns-clause-value : goal.returns-clause-value
returns-clause-value c = subplan_moves c.args.sub _ _ c.args.arriving.now c.arriving_between.result.now (omega arith) (omega arith) c.requires c.arriving_between.ensures

pub returns-clause-rise : goal.returns-clause-rise
returns-clause-rise c = dests_rise c.args.sub c.args.arriving.now c.arriving_between.result.now c.requires (subplan_moves c.args.sub _ _ c.args.arriving.now c.arriving_between.result.now (omega arith) (omega arith) c.requires c.arriving_between.ensures)
