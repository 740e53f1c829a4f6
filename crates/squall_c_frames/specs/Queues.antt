-- A queue of frames, and the room into which its first one is fetched (this project).
use Rattle.std.specs.Prelude.{ℕ, nat_lt, List, [], ◌∷◌, length, if◌then◌else◌}
use Rattle.squall_c_values.specs.Rooms.{over}

-- the frames without the first, if that fits the room
abbrev pub frames_after : List (List ℕ) → List ℕ → List (List ℕ)
frames_after [] room = []
frames_after (f ∷ fs) room = if nat_lt (length room) (length f) then f ∷ fs else fs

-- the room, the first frame at its front if that fits it
abbrev pub room_after : List (List ℕ) → List ℕ → List ℕ
room_after [] room = room
room_after (f ∷ fs) room = if nat_lt (length room) (length f) then room else over f room

-- the length of the first frame, 0 if there is none
abbrev pub first_length : List (List ℕ) → ℕ
first_length [] = 0
first_length (f ∷ fs) = length f
