-- The texts of what stops a run.
use Rattle.std.specs.Prelude.{ℕ, List, codes}
use Rattle.squall_cli_lines.specs.declared.RunFault.{RunFault}
use Rattle.squall_cli_lines.specs.declared.RunFault.TheVariants.{Read, Write, NoMemory}

-- the text of a fault
abbrev pub text_of_run_fault : RunFault → List ℕ
text_of_run_fault Read = codes "read failed"
text_of_run_fault Write = codes "write failed"
text_of_run_fault NoMemory = codes "no memory"
