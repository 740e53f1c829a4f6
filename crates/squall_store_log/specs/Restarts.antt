-- An opened store, as a restart in a system of stores (this project).
use Rattle.std.specs.Prelude.{ℕ, List, [], Option}
use Rattle.squall_course.specs.Change.{Change}
use Rattle.squall_part.specs.Parts.{IsPart}
use Rattle.squall_store.specs.Memory.{value_at, run_on}
use Rattle.squall_store.specs.Systems.{StoresValue, StoreCall, IsStoreIn, with_store}
use Rattle.squall_store_log.specs.Steps.{Rows, IsSameStore}

-- in each system in which the one store stands, the other one may take its place, as after a restart
abbrev pub Restarts : Type 0
Restarts =
    (first : Change) (s : StoresValue (Option (List ℕ))) (p : ℕ) (there store : Rows) → IsStoreIn s p there.part (value_at there.rows) → IsPart store.part
    → IsSameStore there store → StoreCall run_on first s [] (with_store s p store.part (value_at store.rows))
