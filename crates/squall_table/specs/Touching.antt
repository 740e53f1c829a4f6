-- The keys that moves bring to the cells of a delta (this project).
use Rattle.std.specs.Prelude.{ℕ, ◌&&◌, Bool, List, Some}
use Rattle.std.specs.List.{list_any}
use Rattle.squall_course.specs.declared.moving.Move.{Move}
use Rattle.squall_course.specs.Moves.{goes_to, move_has}
use Rattle.squall_board.specs.Boards.{CellValue, Parts, Subs}
use Rattle.squall_board.specs.MovesRoute.{cell_has_come}

-- the key lies in a move to the partition in the sub-plan
abbrev pub brought : ℕ → ℕ → List Move → ℕ → Bool
brought sub part ms k = list_any (λ m. goes_to sub part m && move_has k m) ms

-- the key lies in a move to the cell, and has come there by what the cell says
abbrev pub touched_by_cell : List Move → ℕ → ℕ → CellValue → ℕ → Bool
touched_by_cell ms sub part cell k = cell_has_come (Some cell) k && brought sub part ms k

-- some cell of the sub-plan touches the key
abbrev pub touched_by_parts : List Move → ℕ → Parts → ℕ → Bool
touched_by_parts ms sub parts k = list_any (λ e. touched_by_cell ms sub e.0 e.1 k) parts

-- some cell of the sub-plans touches the key
abbrev pub touched_by_subs : List Move → Subs → ℕ → Bool
touched_by_subs ms subs k = list_any (λ e. touched_by_parts ms e.0 e.1 k) subs
