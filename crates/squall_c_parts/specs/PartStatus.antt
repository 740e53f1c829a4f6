-- The numbers by which calls of a partition of the C library say how they ended (this project).
use Rattle.std.specs.Prelude.{ℕ, List, Result, Ok, Err}
use Rattle.squall_span.specs.Spans.{Interval}
use Rattle.squall_report.specs.declared.report.ReportKind.{ReportKind}
use Rattle.squall_report.specs.Issues.{PlanPair}
use Rattle.squall_protocol.specs.Chunks.{ChunkValue}
use Rattle.squall_part.specs.declared.giving.GiveFault.{GiveFault}
use Rattle.squall_part.specs.declared.giving.GiveFault.TheVariants.{NotOpen, Ended, NothingLeft, ZeroMax, NotOutgoing, Given, NotHeld, NoMemory}
use Rattle.squall_part.specs.declared.loading.Load.{Load}
use Rattle.squall_part.specs.declared.loading.Load.TheVariants.{Again, Loaded}
use Rattle.squall_part.specs.declared.loading.LoadFault.{LoadFault}
use Rattle.squall_part.specs.declared.loading.LoadFault.TheVariants.{NotOpen as NotOpenToLoad, Stranger, NoMemory as NoMemoryToLoad}
use Rattle.squall_part.specs.declared.finishing.FinishFault.{FinishFault}
use Rattle.squall_part.specs.declared.finishing.FinishFault.TheVariants.{NotOpen as NotOpenToFinish, NotAll, NothingDue, NoMemory as NoMemoryToFinish}

-- it was done
abbrev pub ok : ℕ
ok = 0

-- an allocation failed
abbrev pub no_memory : ℕ
no_memory = 1

-- a number or a rank lies outside its limits, or a span has no key
abbrev pub limit : ℕ
limit = 2

-- a frame would have more bytes than it may have
abbrev pub too_long : ℕ
too_long = 5

-- no digest was heard
abbrev pub no_digest : ℕ
no_digest = 6

-- as far as the partition knows, the sub-plan is not opened
abbrev pub not_open : ℕ
not_open = 71

-- the number of the answer to a demand for keys
abbrev pub give_status : Result ChunkValue GiveFault → ℕ
give_status (Ok chunk) = ok
give_status (Err NotOpen) = not_open
give_status (Err NothingLeft) = 72
give_status (Err ZeroMax) = 73
give_status (Err NotOutgoing) = 74
give_status (Err Given) = 75
give_status (Err NotHeld) = 76
give_status (Err Ended) = 81
give_status (Err NoMemory) = no_memory

-- of the reason why a chunk is not loaded
abbrev pub load_fault_status : LoadFault → ℕ
load_fault_status NotOpenToLoad = not_open
load_fault_status Stranger = 77
load_fault_status NoMemoryToLoad = no_memory

-- of the answer to a chunk; 80 says that each of its keys was loaded before
abbrev pub load_status : Result Load LoadFault → ℕ
load_status (Ok (Loaded report)) = ok
load_status (Ok Again) = 80
load_status (Err fault) = load_fault_status fault

-- of the answer to the question which keys of a chunk are new
abbrev pub fresh_status : Result (List Interval) LoadFault → ℕ
fresh_status (Ok keys) = ok
fresh_status (Err fault) = load_fault_status fault

-- of the answer when a sub-plan is to be finished
abbrev pub finish_status : Result (ReportKind PlanPair) FinishFault → ℕ
finish_status (Ok report) = ok
finish_status (Err NotOpenToFinish) = not_open
finish_status (Err (NotAll span)) = 78
finish_status (Err NothingDue) = 79
finish_status (Err NoMemoryToFinish) = no_memory
