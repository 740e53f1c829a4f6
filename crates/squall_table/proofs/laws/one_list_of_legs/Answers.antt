use Rattle.squall_table.specs.TableLaws.{one_list}
use Rattle.squall_table.proofs.laws.one_list_of_legs.Goals as goal

pub returns : goal.returns
returns c = one_list
