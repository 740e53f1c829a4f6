-- The names of faults, as they are printed (this project).
use Rattle.std.specs.Prelude.{ℕ, List, codes}
use Rattle.squall_delta.specs.declared.cut.fault.CutFault.{CutFault}
use Rattle.squall_delta.specs.declared.cut.fault.CutFault.TheVariants.{TooLong, NoMemory}

abbrev pub text_of_cut_fault : CutFault → List ℕ
text_of_cut_fault TooLong = codes "TooLong"
text_of_cut_fault NoMemory = codes "NoMemory"
