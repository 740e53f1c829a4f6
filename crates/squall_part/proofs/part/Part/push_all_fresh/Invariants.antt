use Rattle.std.proofs.Common.{◌≡◌, ◌++◌, map, drop}
use Rattle.std.specs.Arc.{arc_value}
use Rattle.std.specs.List.{AllByRecursion}
use Rattle.squall_join.specs.Flats.{flat_map}
use Rattle.squall_part.specs.Parts.{IsLog}
use Rattle.squall_part.specs.Fresh.{fresh_logs}
use Rattle.squall_part.proofs.part.Part.push_all_fresh.Given as goal

-- the logs that are there and those to come are those of before and all
abbrev pub invariant-loop-entry : goal.invariant-loop-entry
invariant-loop-entry l =
    (l.logs.items ++ fresh_logs l.self.first l.self.board (map (λ e. (e.0, flat_map arc_value e.1)) (drop l.entry-index l.issues)) ≡ l.fn.logs.items ++ fresh_logs l.self.first l.self.board (map (λ e. (e.0, flat_map arc_value e.1)) l.issues))
    × (AllByRecursion IsLog l.fn.logs.items → AllByRecursion IsLog l.logs.items)
