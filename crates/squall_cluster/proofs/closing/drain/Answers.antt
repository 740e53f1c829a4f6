use Rattle.squall_cluster.proofs.Draining.{fewer_left}
use Rattle.squall_cluster.proofs.closing.drain.Goals as goal

pub loop-turn-smaller : goal.loop-turn-smaller
loop-turn-smaller g c = fewer_left c.in_ok-turn.turn.took c.loop-turn.owner c.turn.new.self c.in_ok-turn.ensures.took c.if-not-turn.false c.known.ensures.count
