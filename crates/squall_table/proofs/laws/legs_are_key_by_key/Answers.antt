use Rattle.squall_table.specs.TableLaws.{key_by_key}
use Rattle.squall_table.proofs.laws.legs_are_key_by_key.Goals as goal

pub returns : goal.returns
returns c = key_by_key
