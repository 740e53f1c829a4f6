-- The logs of courses that become known (this project).
use Rattle.std.specs.Prelude.{ℕ, ◌==◌, ◌&&◌, not, nat_lt, Bool, true, false, List, [], ◌∷◌, if◌then◌else◌}
use Rattle.std.specs.List.{flat_map}
use Rattle.squall_join.specs.declared.flat.Flat.{Flat}
use Rattle.squall_join.specs.declared.flat.Flat.TheVariants.{Unknown, One, Clash}
use Rattle.squall_course.specs.Change.{Change}
use Rattle.squall_report.specs.Issues.{PlanPair}
use Rattle.squall_board.specs.Boards.{BoardValue, issued}
use Rattle.squall_part.specs.Parts.{Log, log_with}

abbrev pub is_unknown : Flat PlanPair → Bool
is_unknown Unknown = true
is_unknown (One pair) = false
is_unknown Clash = false

-- the number is not the first course's, and the board has no issue under it
abbrev pub is_new : Change → BoardValue → ℕ → Bool
is_new first b n = not (n == first.number) && is_unknown (issued b n)

-- the log of a course under which nothing was done
abbrev pub empty_log : ℕ → PlanPair → Log
empty_log n pair = log_with (record { number = n; old = pair.old; new = pair.new }) [] [] false

-- the log that an issue brings: one if its number is new and it has one pair of plans, else none
abbrev pub fresh_log : Change → BoardValue → ℕ × Flat PlanPair → List Log
fresh_log first b (n, Unknown) = []
fresh_log first b (n, One pair) = if is_new first b n then empty_log n pair ∷ [] else []
fresh_log first b (n, Clash) = []

-- the logs that issues bring
abbrev pub fresh_logs : Change → BoardValue → List (ℕ × Flat PlanPair) → List Log
fresh_logs first b es = flat_map (fresh_log first b) es

abbrev pub is_above : ℕ → Log → Bool
is_above n l = nat_lt n l.course.number

-- the log among the others: before the first one of a greater number
abbrev pub put_log : Log → List Log → List Log
put_log l [] = l ∷ []
put_log l (m ∷ ms) = if is_above l.course.number m then l ∷ m ∷ ms else m ∷ put_log l ms

-- the logs among the others, the last one first
abbrev pub put_logs : List Log → List Log → List Log
put_logs [] logs = logs
put_logs (l ∷ ls) logs = put_log l (put_logs ls logs)
