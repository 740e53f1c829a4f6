use Rattle.squall_cli_race.proofs.Endings.{refused_race, good_race, fine_race}
use Rattle.squall_cli_race.proofs.laws.refused_race_ends_in_a_refusal.Goals as goal

pub returns-clause-refused : goal.returns-clause-refused
returns-clause-refused c = refused_race

pub returns-clause-good : goal.returns-clause-good
returns-clause-good c = good_race

pub returns-clause-fine : goal.returns-clause-fine
returns-clause-fine c = fine_race
