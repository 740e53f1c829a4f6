-- The frame of one report, written into a room (this project).
use Rattle.std.specs.Prelude.{◌≡◌, ◌≢◌, ℕ, nat_lt, List, length, Option, None, Some, if◌then◌else◌}
use Rattle.squall_report.specs.declared.report.ReportKind.{ReportKind}
use Rattle.squall_report.specs.Issues.{PlanPair}
use Rattle.squall_board.specs.Boards.{report_board}
use Rattle.squall_wire.specs.declared.message.Message.TheVariants.{Delta}
use Rattle.squall_wire.specs.Messages.{spell}
use Rattle.squall_c_values.specs.Rooms.{over}

-- in the place of a count: an allocation failed
abbrev pub no_count : ℕ
no_count = 18446744073709551615

-- the frame of the report alone
abbrev pub frame_of : ReportKind PlanPair → List ℕ
frame_of report = spell (Delta (report_board report))

-- the room with the bytes at its front, if it holds them
abbrev pub room_with : List ℕ → List ℕ → List ℕ
room_with bytes room = if nat_lt (length room) (length bytes) then room else over bytes room

-- the frame was written if the room holds it, and its length answered; or there was not the memory for it
pub record PutsFrame (frame old new : List ℕ) (count : ℕ) : Type 0 where
  pub put : count ≢ no_count → (new ≡ room_with frame old) × (count ≡ length frame)
  pub memory : count ≡ no_count → new ≡ old

-- the same if there is a report
abbrev pub PutsReport : Option (ReportKind PlanPair) → List ℕ → List ℕ → ℕ → Type 0
PutsReport None old new count = (count ≡ 0) × (new ≡ old)
PutsReport (Some report) old new count = PutsFrame (frame_of report) old new count
