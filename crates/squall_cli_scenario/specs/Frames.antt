-- What the lines `hear` and `frame` do and answer (this project's scenario language).
use Rattle.std.specs.Prelude.{ℕ, List, [], ◌∷◌, ◌++◌, length, Option, None, Some, nat_lt, codes, if◌then◌else◌}
use Rattle.std.specs.List.{flat_map}
use Rattle.hex.specs.Hex.{encode_lower}
use Rattle.squall_board.specs.Boards.{BoardValue, board_join}
use Rattle.squall_wire.specs.declared.fault.WireFault.{WireFault}
use Rattle.squall_wire.specs.declared.message.Message.TheVariants.{Delta}
use Rattle.squall_wire.specs.FaultText.{text_of_fault}
use Rattle.squall_wire.specs.Limits.{body_limit}
use Rattle.squall_wire.specs.Messages.{Body, lists, rows, body_of, spell_body, spell}
use Rattle.squall_wire.specs.BoardOf.{board_of_lists}

-- ---- hear

-- a line for each message: a delta, or a digest
abbrev pub heard_line : Body → List ℕ
heard_line (lists d) = codes "heard delta\n"
heard_line (rows d) = codes "heard digest\n"

abbrev pub heard_lines : List Body → List ℕ
heard_lines bodies = flat_map heard_line bodies

-- and one for the fault, if there is one
abbrev pub fault_line : WireFault → List ℕ
fault_line fault = codes "fault " ++ (text_of_fault fault ++ codes "\n")

abbrev pub text_of_heard : List Body → Option WireFault → List ℕ
text_of_heard bodies (Some fault) = heard_lines bodies ++ fault_line fault
text_of_heard [] None = codes "heard nothing\n"
text_of_heard (b ∷ bodies) None = heard_lines (b ∷ bodies)

-- the board after a message: a delta is merged into it, a digest has no effect
abbrev pub after_body : BoardValue → Body → BoardValue
after_body b (lists d) = board_join b (board_of_lists d)
after_body b (rows d) = b

-- the board after the messages, one after the other
abbrev pub after_bodies : BoardValue → List Body → BoardValue
after_bodies b [] = b
after_bodies b (body ∷ bodies) = after_bodies (after_body b body) bodies

-- ---- frame

-- the frame of the board, in lower case, or that it would be too long
abbrev pub frame_text : BoardValue → List ℕ
frame_text b = if nat_lt body_limit (length (spell_body (body_of (Delta b)))) then codes "no TooLong\n"
    else codes "frame " ++ (encode_lower (spell (Delta b)) ++ codes "\n")
