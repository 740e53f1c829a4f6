use Rattle.squall_part.proofs.Gone.{held_no_more, given_then}
use Rattle.squall_part.proofs.laws.given_keys_are_gone.Goals as goal

pub returns-clause-held : goal.returns-clause-held
returns-clause-held c = λ s k lt le h. held_no_more c.args.part.now s k h

pub returns-clause-given : goal.returns-clause-given
returns-clause-given c = λ s k lt le h. given_then c.args.part.now s k c.known.ensures lt h
