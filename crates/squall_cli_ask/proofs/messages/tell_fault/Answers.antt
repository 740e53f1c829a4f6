use Rattle.std.proofs.Common.{[], refl}
use Rattle.squall_cli_lines.specs.declared.RunFault.TheVariants.{Read, Write, NoMemory}
use Rattle.squall_cli_ask.specs.Told.{fault_told}
use Rattle.squall_cli_ask.proofs.messages.tell_fault.Goals as goal

pub returns-in-Read-clause-told : goal.returns-in-Read-clause-told
returns-in-Read-clause-told g c = let t = c.tell_failed.ensures.told in rw c.in-Read.is (fault_told Read t.0, (t.0, refl), t.1)

pub returns-in-Write-clause-told : goal.returns-in-Write-clause-told
returns-in-Write-clause-told g c = let t = c.tell_failed-in-Write.ensures.told in rw c.in-Write.is (fault_told Write t.0, (t.0, refl), t.1)

pub returns-in-NoMemory-clause-told : goal.returns-in-NoMemory-clause-told
returns-in-NoMemory-clause-told g c = rw c.in-NoMemory.is (fault_told NoMemory [], ([], refl), c.say.ensures.told)
