use Rattle.std.proofs.Common.{◌∙◌}
use Rattle.squall_plan.proofs.Tapes.{at_data, str_is}
use Rattle.squall_plan.proofs.tape.read_string.Goals as goal

pub returns : goal.returns
returns c d s = c.as_str.ensures s.0 s.1 ∙ at_data _ _ d s.2 (str_is s.0)
