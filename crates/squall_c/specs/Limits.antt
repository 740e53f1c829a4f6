-- How much frames may tell a router of the C library (this project).
use Rattle.std.specs.Prelude.{◌≡◌, ◌≢◌, ℕ, ◌+◌, ◌==◌, Bool, ◌&&◌, List, [], Option, None, Some, length, ◌⊎◌, if◌then◌else◌}
use Rattle.squall_board.specs.Boards.{BoardValue, board_join}
use Rattle.squall_wire.specs.declared.message.Message.{Message}
use Rattle.squall_delta.specs.Pieces.{joined_boards}
use Rattle.squall_status.specs.declared.tally.Tally.{Tally}
use Rattle.squall_status.specs.Tallies.{at_most_64_bits, tally_of, IsWithin}
use Rattle.squall_c_frames.specs.Joined.{deltas_of}
use Rattle.squall_c.specs.declared.router.RouterSlot.{RouterSlot}
use Rattle.squall_c.specs.declared.router.Station.{Station}
use Rattle.squall_c.specs.Status.{ok, closed}
use Rattle.squall_c.specs.Opening.{with_station, with_limit}

-- no number of the board is above the limit, if there is one
abbrev pub IsWithinLimit : Option Tally → BoardValue → Type 0
IsWithinLimit None b = Unit {0}
IsWithinLimit (Some most) b = IsWithin (tally_of b) most

-- some number of it is
abbrev pub IsBeyondLimit : Option Tally → BoardValue → Type 0
IsBeyondLimit None b = ⊥
IsBeyondLimit (Some most) b = IsWithin (tally_of b) most → ⊥

-- the station's board, and all that the messages tell
abbrev pub joined_with : Station → List Message → BoardValue
joined_with s ms = board_join s.router.board (joined_boards (deltas_of ms))

-- the messages tell nothing, or the board that has what they tell is within the limit
abbrev pub IsAdmitted : Station → List Message → Type 0
IsAdmitted s ms = (deltas_of ms ≡ []) ⊎ IsWithinLimit s.most (joined_with s ms)

-- they bring a board, and the board that has what they tell is beyond the limit
abbrev pub IsRefused : Station → List Message → Type 0
IsRefused s ms = (deltas_of ms ≢ []) × IsBeyondLimit s.most (joined_with s ms)

-- how many frames were taken, with `more` further ones
abbrev pub count_after : ℕ → ℕ → ℕ
count_after taken more = if more == 0 then taken else at_most_64_bits (taken + more)

-- the same of a station, and of these messages
abbrev pub taken_after : Station → List Message → ℕ
taken_after s ms = count_after s.taken (length ms)

-- ---- setting it

-- the number is the greatest one of 64 bits
abbrev pub is_greatest : ℕ → Bool
is_greatest n = n == 18446744073709551615

-- the limit of those numbers: none if each is the greatest one
abbrev pub limit_of : Tally → Option Tally
limit_of t = if is_greatest t.cells && (is_greatest t.spans && (is_greatest t.opened && is_greatest t.issues)) then None else Some t

-- the numbers of a limit
abbrev pub most_of : ℕ → ℕ → ℕ → ℕ → Tally
most_of cells spans opened issues = record { cells = cells; spans = spans; opened = opened; issues = issues }

-- a slot after such a limit was set
abbrev pub station_limits : RouterSlot → Option Station → Tally → RouterSlot → ℕ → Type 0
station_limits old None most new status = (status ≡ closed) × (new ≡ old)
station_limits old (Some s) most new status = (status ≡ ok) × (new ≡ with_station old (with_limit s (limit_of most)))

abbrev pub Limits : Tally → RouterSlot → RouterSlot → ℕ → Type 0
Limits most old new status = station_limits old old.station most new status

-- ---- counting

-- how many frames a router has taken, 0 if there is none
abbrev pub taken_count : Option Station → ℕ
taken_count None = 0
taken_count (Some s) = s.taken
