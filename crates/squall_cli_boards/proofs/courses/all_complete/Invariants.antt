use Rattle.std.proofs.Common.{◌≡◌, drop}
use Rattle.std.specs.List.{list_all}
use Rattle.squall_status.specs.Coming.{is_complete}
use Rattle.squall_cli_boards.proofs.courses.all_complete.Given as goal

-- the moves that are left are all complete exactly if all moves are
abbrev pub invariant-loop-change : goal.invariant-loop-change
invariant-loop-change l = list_all (λ m. is_complete m.progress) (drop l.change-index l.change-items) ≡ list_all (λ m. is_complete m.progress) l.change-items
