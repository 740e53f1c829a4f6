-- What a feed hears is what the frames say, computed one by one.
use Rattle.std.specs.Prelude.{◌≡◌, ◌≢◌, ℕ, zero, suc, ◌≤◌, List, [], ◌∷◌, ◌++◌, length, map, drop, Option, Some, None, Result, Ok, Err, refl}
use Rattle.std.specs.List.{AllByRecursion}
use Rattle.std.proofs.Common.{sym, ap, subst, ◌∙◌, append_assoc, arith}
use Rattle.std.proofs.lemmas.List.{nil_from_length, drop_at, length-append}
use Rattle.squall_wire.specs.declared.fault.WireFault.{WireFault}
use Rattle.squall_wire.specs.declared.fault.WireFault.TheVariants.{Magic, Version, Kind, TooLong, Short, Count, Range, Order, Spare, NoMemory}
use Rattle.squall_wire.specs.declared.message.Message.{Message}
use Rattle.squall_wire.specs.Messages.{Body, body_of, spell, spell_all, IsMessage}
use Rattle.squall_wire.specs.Reading.{message_at, frame_at}
use Rattle.squall_wire.specs.Hearing.{EndsIn, IsHeard}
use Rattle.squall_wire.specs.FrameLaws.{message_again}
use Rattle.squall_wire.specs.Heard.{HeardValue, heard_with, heard_first, heard_next, frames_in, heard_of}

nothing_is_short : message_at [] ≡ Err Short
unfolding message_at frame_at
nothing_is_short = refl

next_fault : (e : WireFault) (bytes : List ℕ) (then : List ℕ → HeardValue) → e ≢ Short → heard_next (Err e) bytes then ≡ heard_with [] (Some e) bytes
next_fault Magic bytes then ne = refl
next_fault Version bytes then ne = refl
next_fault Kind bytes then ne = refl
next_fault TooLong bytes then ne = refl
next_fault Short bytes then ne = absurd (ne refl)
next_fault Count bytes then ne = refl
next_fault Range bytes then ne = refl
next_fault Order bytes then ne = refl
next_fault Spare bytes then ne = refl
next_fault NoMemory bytes then ne = refl

fault_in : Result (Body × ℕ) WireFault → WireFault
fault_in (Ok x) = Short
fault_in (Err f) = f

one_fault : (r : Result (Body × ℕ) WireFault) (x y : WireFault) → r ≡ Err x → r ≡ Err y → x ≡ y
unfolding fault_in
one_fault r x y p q = ap fault_in (sym p ∙ q)

-- no more frames
ends_at_once : (f : Option WireFault) (n : ℕ) (s : List ℕ) → length s ≤ n → EndsIn f s → frames_in n s ≡ heard_with [] f s
unfolding frames_in
ends_at_once None zero s le e = refl
ends_at_once (Some fault) zero s le e =
    let nothing : s ≡ [] = nil_from_length s (omega (arith, le)) in
    absurd (e.0 (one_fault (message_at s) fault Short e.2 (ap message_at nothing ∙ nothing_is_short)))
ends_at_once None (suc n) s le e = ap (λ r. heard_next r s (frames_in n)) e
ends_at_once (Some fault) (suc n) s le e = ap (λ r. heard_next r s (frames_in n)) e.2 ∙ next_fault fault s (frames_in n) e.0

-- one frame first
one_first : (n : ℕ) (s : List ℕ) (m : Message) (rest : List ℕ) → IsMessage m → s ≡ spell m ++ rest → frames_in (suc n) s ≡ heard_first (body_of m) (frames_in n rest)
unfolding frames_in
one_first n s m rest is e =
    ap (λ r. heard_next r s (frames_in n)) (ap message_at e ∙ message_again (body_of m) rest is.body is.short)
    ∙ ap (λ t. heard_first (body_of m) (frames_in n t)) (ap (drop (length (spell m))) e ∙ drop_at (spell m) rest (length (spell m)) refl)

heard_in : (n : ℕ) (s : List ℕ) (ms : List Message) (f : Option WireFault) (r : List ℕ) → length s ≤ n → AllByRecursion IsMessage ms → s ≡ spell_all ms ++ r → EndsIn f r → frames_in n s ≡ heard_with (map body_of ms) f r
heard_in n s [] f r le is e ends = subst (λ t. frames_in n t ≡ heard_with [] f r) (sym e) (ends_at_once f n r (subst (λ t. length t ≤ n) e le) ends)
heard_in zero s (m ∷ ms) f r le is e ends = absurd (omega (arith, le, ap length e))
heard_in (suc n) s (m ∷ ms) f r le is e ends =
    let split : s ≡ spell m ++ (spell_all ms ++ r) = e ∙ append_assoc (spell m) (spell_all ms) r in
    let fewer : length (spell_all ms ++ r) ≤ n = omega (arith, le, ap length split, length-append (spell m) (spell_all ms ++ r)) in
    one_first n s m (spell_all ms ++ r) is.0 split
    ∙ ap (heard_first (body_of m)) (heard_in n (spell_all ms ++ r) ms f r fewer is.1 refl ends)

pub heard_is : (s : List ℕ) (ms : List Message) (f : Option WireFault) (r : List ℕ) → IsHeard s ms f r → heard_of s ≡ heard_with (map body_of ms) f r
heard_is s ms f r h = heard_in (length s) s ms f r (omega arith) h.each h.frames h.ends
