use Rattle.squall_store.proofs.Listed.{goes_on}
use Rattle.squall_store.proofs.memory.MemoryRows.listed.Goals as goal

pub loop-key-preserved : goal.loop-key-preserved
loop-key-preserved c = goes_on c.args.self.now c.args.span.lo c.loop-key.at c.rank-to.result c.in-Some.key c.in-Some.value.now c.loop-key.values.items c.push_value.new.values.items
    c.loop-key.invariant c.in-Some.ensures.inside.0 c.in-Some.ensures.inside.1 c.in-Some.ensures.value c.in-Some.ensures.first (cc (c.in_ok-push_value.ensures, c.key_of.ensures, c.in_ok-value.ensures))
