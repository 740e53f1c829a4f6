use Rattle.squall_join.specs.FactLaws.{pair_factual}
use Rattle.squall_join.proofs.laws.pairs_lift_facts.Goals as goal

pub returns : goal.returns
returns g c p q l m = pair_factual l m
