-- Faults of courses as they are printed (this project's text form).
use Rattle.std.specs.Prelude.{ℕ, List, codes}
use Rattle.squall_course.specs.declared.fault.CourseFault.{CourseFault}
use Rattle.squall_course.specs.declared.fault.CourseFault.TheVariants.{ZeroNumber, NoMemory}

-- the text of a fault
abbrev pub text_of_fault : CourseFault → List ℕ
text_of_fault ZeroNumber = codes "ZeroNumber"
text_of_fault NoMemory = codes "NoMemory"
