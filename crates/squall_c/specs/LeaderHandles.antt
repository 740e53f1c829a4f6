-- What lies where a handle of a leader points to (this project).
use Rattle.std.specs.Prelude.{ℕ}
use Rattle.std.specs.Borrow.{Fml, fsep, ftrue, full_share}
use Rattle.std.specs.Ptr.{Ptr, lies_at, room_at}
use base.Fml.{fex}
use prog.Memory.{size, capped}
use denote.Param.{layout}
use Rattle.squall_c.specs.contracts.leaders.LeaderSlot.{the_row as leader_row}
use Rattle.squall_c.specs.declared.leaders.LeaderSlot.{LeaderSlot}

-- how many bytes a leader's slot takes
abbrev pub leader_bytes : ℕ
leader_bytes = capped (size (layout leader_row))

-- there is room for a leader's slot at p, and nothing of use lies there
abbrev pub leader_room : Ptr → Fml
leader_room p = room_at leader_row p

-- the leader's slot s lies at p, and nobody else has a part in it
abbrev pub leader_at : Ptr → LeaderSlot → Fml
leader_at p s = lies_at leader_row full_share p s

-- a leader's slot of which the fact holds lies at p
abbrev pub leader_such : Ptr → (LeaderSlot → Type 0) → Fml
leader_such p P = fex LeaderSlot (λ s. fsep (leader_at p s) (fex (P s) (λ _. ftrue)))
