-- The board that a frame brings is the one that was encoded.
use Rattle.std.specs.Prelude.{◌≡◌, ℕ, List, [], ◌++◌, length, Result, Ok, Err, Some, None}
use Rattle.std.proofs.Common.{sym, ap, ◌∙◌}
use Rattle.std.proofs.lemmas.List.{append-nil}
use Rattle.squall_board.specs.Boards.{BoardValue}
use Rattle.squall_wire.specs.declared.fault.WireFault.{WireFault}
use Rattle.squall_wire.specs.declared.message.Message.{Message}
use Rattle.squall_wire.specs.declared.message.Message.TheVariants.{Delta, Digest}
use Rattle.squall_wire.specs.DigestValue.{DigestValue}
use Rattle.squall_wire.specs.Messages.{spell, IsMessage}

abbrev Read : Message → ℕ → Result (Message × ℕ) WireFault
Read m n = Ok (m, n)

-- what starts with the frame is read as the message
abbrev pub ReadsOnly : List ℕ → Message → ℕ → Type 0
ReadsOnly bytes m n = (x : Message) (rest : List ℕ) → IsMessage x → bytes ≡ spell x ++ rest → Read x (length (spell x)) ≡ Read m n

abbrev message_of : Message → Result (Message × ℕ) WireFault → Message
message_of other (Ok x) = x.0
message_of other (Err e) = other

one_message : (x m : Message) (k n : ℕ) → Read x k ≡ Read m n → x ≡ m
one_message x m k n e = ap (message_of x) e

pub message_is : (bytes frame : List ℕ) (b : BoardValue) (m : Message) (n : ℕ) → ReadsOnly bytes m n → IsMessage (Delta b) → bytes ≡ frame → frame ≡ spell (Delta b) → Delta b ≡ m
message_is bytes frame b m n only is e f = one_message (Delta b) m (length (spell (Delta b))) n (only (Delta b) [] is (e ∙ f ∙ sym (append-nil (spell (Delta b)))))

pub delta_is : (b d : BoardValue) (m : Message) → Delta b ≡ m → m ≡ Delta d → Some d ≡ Some b
delta_is b d m p q = cc

pub no_digest : (b : BoardValue) (d : DigestValue) (m : Message) → Delta b ≡ m → m ≡ Digest d → None ≡ Some b
no_digest b d m p q = cc
