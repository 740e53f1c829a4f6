use Rattle.squall_store.proofs.Firsts.{before_first}
use Rattle.squall_store.proofs.memory.MemoryRows.first_in.Goals as goal

pub returns-clause-first : goal.returns-clause-first
returns-clause-first c = before_first c.self.inside.values c.args.self.now c.range.result _ (c.in_ok-key.key.now, c.in_ok-key.value.now) c.args.from c.args.to c.self.view_is (c.range.ensures.in_range tt) c.in_ok-key.ensures.steps
