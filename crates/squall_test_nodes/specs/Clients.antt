-- What a client of `one_map` learns of rows that may be there or not (this project).
use Rattle.std.specs.Prelude.{◌≡◌, ℕ, List, [], ◌∷◌, ◌++◌, map, Option}
use Rattle.squall_plan.specs.declared.range.PlanRange.{PlanRange}
use Rattle.squall_protocol.specs.declared.event.Event.{Event}
use Rattle.squall_protocol.specs.declared.answer.Answer.{Answer}
use Rattle.squall_protocol.specs.Steps.{IsPlan}
use Rattle.squall_rows.specs.Rows.{RowsValue, Starts}
use Rattle.squall_rows.specs.RowSteps.{Plain, Ask, Answered, Ran, RowRun}
use Rattle.squall_test_nodes.specs.declared.rows.Command.{Command}
use Rattle.squall_test_nodes.specs.declared.rows.Command.TheVariants.{Get, Put}

-- the row that a command makes of one, and its reply: the row before
abbrev pub done : Command → Option ℕ → Option ℕ × Option ℕ
done Get row = (row, row)
done (Put next) row = (next, row)

-- whoever gets a row after one put and any events of the protocol gets what was put, whichever partitions they asked
abbrev pub PutIsGot : Type 0
PutIsGot =
    (old new : List PlanRange) (routers : ℕ) (w v : RowsValue (Option ℕ)) (p q k a b : ℕ) (x r s : Option ℕ) (events : List Event) (answers : List Answer)
    → IsPlan old → IsPlan new → Starts old new routers w
    → RowRun done w (Ask p k a (Put x) ∷ (map Plain events ++ Ask q k b Get ∷ [])) (Ran r ∷ (map Answered answers ++ Ran s ∷ [])) v → s ≡ x
