use Rattle.squall_cluster.proofs.Joined.{joined_all, any_order, has_facts}
use Rattle.squall_cluster.proofs.laws.letters_are_joined.Goals as goal

pub returns-clause-join : goal.returns-clause-join
returns-clause-join c allowed letters h = joined_all allowed _ letters c.known.ensures.board h

pub returns-clause-facts : goal.returns-clause-facts
returns-clause-facts c allowed letters h = has_facts allowed _ letters c.known.ensures.board h

pub returns-clause-any_order : goal.returns-clause-any_order
returns-clause-any_order c allowed letters others h k same = any_order allowed _ letters others c.known.ensures.board h k same
