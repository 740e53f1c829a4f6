-- What is decoded is spelled so, and no other message begins the bytes.
use Rattle.std.proofs.Common.{◌≡◌, ℕ, ◌≤◌, List, ◌++◌, length, take, Result, Ok, Err, sym, ap, ◌∙◌}
use Rattle.std.specs.Prelude.{IfOk}
use Rattle.squall_board.specs.Boards.{BoardValue, IsBoard}
use Rattle.squall_wire.specs.declared.fault.WireFault.{WireFault}
use Rattle.squall_wire.specs.declared.message.Message.{Message}
use Rattle.squall_wire.specs.declared.message.Message.TheVariants.{Delta, Digest}
use Rattle.squall_wire.specs.Messages.{Body, lists_of, body_of, spell, IsContent, IsMessage}
use Rattle.squall_wire.specs.BoardOf.{board_of_lists}
use Rattle.squall_wire.specs.BoardOfLaws.{lists_back}
use Rattle.squall_wire.specs.Reading.{Gives, message_at}
use Rattle.squall_wire.specs.FieldLaws.{IsBytes, ok_is}
use Rattle.squall_wire.specs.FrameLaws.{message_takes, message_again}

-- boards with the same lists are equal
pub same_board : (a b : BoardValue) → IsBoard a → IsBoard b → lists_of a ≡ lists_of b → a ≡ b
same_board a b is too e = sym (lists_back a is) ∙ ap board_of_lists e ∙ lists_back b too

-- messages with the same body are equal
pub same_message : (m n : Message) → IsContent m → IsContent n → body_of m ≡ body_of n → m ≡ n
same_message (Delta a) (Delta b) is too e =
    let same : lists_of a ≡ lists_of b = cc in
    ap Delta (same_board a b is too same)
same_message (Delta a) (Digest d) is too e = absurd cc
same_message (Digest d) (Delta b) is too e = absurd cc
same_message (Digest d) (Digest f) is too e =
    let same : d ≡ f = cc in
    ap Digest same

abbrev seen : Message × ℕ → Body × ℕ
seen x = (body_of x.0, x.1)

pub is_spelled : (bytes : List ℕ) (r : Result (Message × ℕ) WireFault) → IsBytes bytes → Gives seen r (message_at bytes) → IfOk r (λ x. IsContent x.0) → IfOk r (λ x. IsMessage x.0 × (x.1 ≤ length bytes) × (take x.1 bytes ≡ spell x.0))
is_spelled bytes (Ok x) fits given content =
    let t = message_takes bytes (seen x) fits given in
    (record { content = content; body = t.0; short = t.1 }, t.2, t.3)
is_spelled bytes (Err e) fits given content = tt

abbrev good : {A : Type 0} → A → Result A WireFault
good x = Ok x

not_both : {A : Type 0} (x : A) (e : WireFault) → good x ≡ Err e → ⊥
not_both x e h = cc

-- a message whose frame begins the bytes is the one that is read
pub is_the_message : (bytes : List ℕ) (r : Result (Message × ℕ) WireFault) (m : Message) (rest : List ℕ) → Gives seen r (message_at bytes) → IfOk r (λ x. IsContent x.0) → IsMessage m → bytes ≡ spell m ++ rest → Gives (λ (x : Message × ℕ). x) r (Ok (m, length (spell m)))
is_the_message bytes (Ok x) m rest given content is e =
    let again : message_at bytes ≡ Ok (body_of m, length (spell m)) = ap message_at e ∙ message_again (body_of m) rest is.body is.short in
    let same : (body_of m, length (spell m)) ≡ seen x = ok_is (body_of m, length (spell m)) (seen x) (sym again ∙ given) in
    let message : m ≡ x.0 = same_message m x.0 is.content content (ap (λ (p : Body × ℕ). p.0) same) in
    λ i. Ok (message i, ap (λ (p : Body × ℕ). p.1) same i)
is_the_message bytes (Err f) m rest given content is e =
    λ ne. absurd (not_both (body_of m, length (spell m)) f (sym (ap message_at e ∙ message_again (body_of m) rest is.body is.short) ∙ given ne))
