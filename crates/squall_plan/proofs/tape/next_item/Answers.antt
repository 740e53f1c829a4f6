use Rattle.squall_plan.proofs.Tapes.{steps}
use Rattle.squall_plan.proofs.tape.next_item.Goals as goal

pub returns-clause-value : goal.returns-clause-value
returns-clause-value c ds s = steps c.args.items.now c.next.result c.next.new.self ds c.next.ensures.value s
