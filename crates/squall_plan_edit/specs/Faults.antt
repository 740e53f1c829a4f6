-- The names of faults (this project).
use Rattle.std.specs.Prelude.{ℕ, List, codes}
use Rattle.squall_plan_edit.specs.declared.fault.EditFault.{EditFault}
use Rattle.squall_plan_edit.specs.declared.fault.EditFault.TheVariants.{Many, NoMemory}

abbrev pub text_of_fault : EditFault → List ℕ
text_of_fault Many = codes "Many"
text_of_fault NoMemory = codes "NoMemory"
