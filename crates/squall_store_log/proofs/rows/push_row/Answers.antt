use Rattle.std.proofs.Common.{ap, Err, ◌≡◌}
use Rattle.squall_store_log.specs.declared.fault.ReadFault.TheVariants.{Strange}
use Rattle.squall_store_log.proofs.rows.push_row.Goals as goal

pub returns-in-Err-clause-strange : goal.returns-in-Err-clause-strange
returns-in-Err-clause-strange c = λ e. let same : c.in-Err.fault ≡ Strange = cc in c.in-Err.ensures.strange (ap Err same)
