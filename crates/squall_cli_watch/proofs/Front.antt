-- The messages whose frames bytes begin with, one after the other.
use Rattle.std.proofs.Common.{◌≡◌, ℕ, List, [], ◌∷◌, ◌++◌, take, drop, sym, ap, subst, ◌∙◌, append_assoc, arith}
use Rattle.std.proofs.lemmas.List.{append-nil, take-append-drop}
use Rattle.std.proofs.lemmas.Bool.Decides.{nat_tests}
use Rattle.std.specs.Prelude.{length, nat_eq, Bool, false}
use Rattle.std.specs.List.{AllByRecursion}
use Rattle.squall_wire.specs.declared.message.Message.{Message}
use Rattle.squall_wire.specs.Messages.{spell, spell_all, IsMessage}
use Rattle.squall_wire.specs.HearingLaws.{spell_all-append}

all_more : {X : Type 0} (P : X → Type 0) (xs : List X) (x : X) → AllByRecursion P xs → P x → AllByRecursion P (xs ++ x ∷ [])
all_more P [] x p q = (q, tt)
all_more P (y ∷ ys) x p q = (p.0, all_more P ys x p.1 q)

-- the frames of the messages, and what is left
abbrev pub Begins : List ℕ → List Message → List ℕ → Type 0
Begins bytes messages rest = AllByRecursion IsMessage messages × (bytes ≡ spell_all messages ++ rest)

front_more : (bytes rest : List ℕ) (ms : List Message) (m : Message) (used : ℕ) → IsMessage m → take used rest ≡ spell m → Begins bytes ms rest → Begins bytes (ms ++ m ∷ []) (drop used rest)
front_more bytes rest ms m used is text begins = (
  all_more IsMessage ms m begins.0 is,
  begins.1
      ∙ ap (λ (xs : List ℕ). spell_all ms ++ xs) (sym (take-append-drop used rest) ∙ ap (λ (xs : List ℕ). xs ++ drop used rest) text)
      ∙ sym (append_assoc (spell_all ms) (spell m) (drop used rest))
      ∙ ap (λ (xs : List ℕ). (spell_all ms ++ xs) ++ drop used rest) (sym (append-nil (spell m)))
      ∙ ap (λ (xs : List ℕ). xs ++ drop used rest) (sym (spell_all-append ms (m ∷ []))),
)

-- one message more
pub takes_frame : (bytes rest after : List ℕ) (ms new : List Message) (m : Message) (used : ℕ) → new ≡ ms ++ m ∷ [] → after ≡ drop used rest → IsMessage m → take used rest ≡ spell m → Begins bytes ms rest → Begins bytes new after
takes_frame bytes rest after ms new m used e d is text begins =
    subst (λ (xs : List Message). Begins bytes xs after) (sym e) (subst (λ (xs : List ℕ). Begins bytes (ms ++ m ∷ []) xs) (sym d) (front_more bytes rest ms m used is text begins))

-- bytes are left
pub some_left : (xs : List ℕ) (t : Bool) → t ≡ nat_eq (length xs) 0 → t ≡ false → xs ≡ [] → ⊥
some_left [] t e f none = absurd (grind (arith, nat_tests))
some_left (x ∷ xs) t e f none = absurd cc
