use Rattle.std.proofs.Common.{◌≡◌, ℕ, drop, map}
use Rattle.std.specs.Arc.{arc_value}
use Rattle.squall_join.specs.Flats.{flat_map}
use Rattle.squall_report.specs.Told.{both_issued}
use Rattle.squall_board.specs.Boards.{issued}
use Rattle.squall_board.specs.Listed.{entries_issue}
use Rattle.squall_router.proofs.issues.put_entries.Given as goal

-- what is put in and what is to come are together what was there and all entries
abbrev pub invariant-loop-entry : goal.invariant-loop-entry
invariant-loop-entry l = (n : ℕ) → both_issued (issued l.board n) (entries_issue (map (λ e. (e.0, flat_map arc_value e.1)) (drop l.entry-index l.entries)) n) ≡ both_issued (issued l.fn.board n) (entries_issue (map (λ e. (e.0, flat_map arc_value e.1)) l.entries) n)
