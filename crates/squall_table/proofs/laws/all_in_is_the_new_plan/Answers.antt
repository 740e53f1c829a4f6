use Rattle.squall_table.specs.TableLaws.{all_in}
use Rattle.squall_table.proofs.laws.all_in_is_the_new_plan.Goals as goal

pub returns : goal.returns
returns c = all_in
