-- What a client of stores derives from the theorem that they are one map (this project).
use Rattle.std.specs.Prelude.{◌≡◌, ◌≢◌, ℕ, List, [], ◌∷◌, ◌++◌, Option, Some}
use Rattle.std.specs.List.{AllByRecursion}
use Rattle.squall_plan.specs.declared.range.PlanRange.{PlanRange}
use Rattle.squall_store.specs.declared.command.Command.{Command}
use Rattle.squall_store.specs.declared.command.Command.TheVariants.{Get, Put}
use Rattle.squall_store.specs.Memory.{run_on}
use Rattle.squall_store.specs.Systems.{StoresValue, Done, IsStoreRun}

-- values of bytes, and commands on them that ran
abbrev pub Row : Type 0
Row = Option (List ℕ)

abbrev pub DoneOnRows : Type 0
DoneOnRows = Done Command Row

-- a command on a key that ran
abbrev pub done : ℕ → Command → Row → DoneOnRows
done k command reply = record { key = k; command = command; reply = reply }

-- commands on other keys
abbrev pub AreElsewhere : ℕ → List DoneOnRows → Type 0
AreElsewhere k = AllByRecursion (λ d. d.key ≢ k)

-- in every run of stores a value is got that was put, if there was no other command on its key in between
abbrev pub PutIsGot : Type 0
PutIsGot =
    (old new : List PlanRange) (routers : ℕ) (s t : StoresValue Row) (before between : List DoneOnRows) (k : ℕ) (value : List ℕ) (r x : Row)
    → AreElsewhere k between → IsStoreRun run_on old new routers s (before ++ (done k (Put value) r ∷ (between ++ done k Get x ∷ []))) t
    → x ≡ Some value
