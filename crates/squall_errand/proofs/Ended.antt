-- Errands that have ended.
use Rattle.std.specs.Prelude.{◌≡◌, ℕ, Bool, true, false, cond, nat_lt, List, [], ◌∷◌, map, Option, None, Some, refl}
use Rattle.std.proofs.Common.{ap, ◌∙◌}
use Rattle.squall_errand.specs.declared.errand.Reply.{Reply}
use Rattle.squall_errand.specs.declared.errand.Reply.TheVariants.{Held, Moved, Pending, Behind, Elsewhere}
use Rattle.squall_errand.specs.declared.errand.Next.{Next}
use Rattle.squall_errand.specs.declared.errand.Next.TheVariants.{Ask, Served, Lost}
use Rattle.squall_errand.specs.Errands.{ErrandValue, errand_with, Step, goes_on, ends, step_on, step_from, step_of, answers_of}

-- it has ended, and answers that
abbrev pub HasEnded : Next → ErrandValue → Type 0
HasEnded next e = e.ended ≡ Some next

pub ended_answers : (next : Next) (asked number : ℕ) (replies : List Reply) → answers_of (errand_with asked number (Some next)) replies ≡ map (λ _. next) replies
ended_answers next asked number [] = refl
ended_answers next asked number (reply ∷ replies) = ap (λ xs. next ∷ xs) (ended_answers next asked number replies)

ended_so : (next : Next) (e : ErrandValue) (replies : List Reply) → HasEnded next e → answers_of e replies ≡ map (λ _. next) replies
ended_so next e replies is = ap (λ (o : Option Next). answers_of (errand_with e.asked e.number o) replies) is ∙ ended_answers next e.asked e.number replies

-- a step whose answer is an end leaves an errand that has ended so
abbrev Leaves : Next → Step → Type 0
Leaves next s = s.next ≡ next → HasEnded next s.after

moved_served : (b : Bool) (e : ErrandValue) (dest number : ℕ) → Leaves Served (cond b (goes_on (Ask dest) (errand_with dest number None)) (ends Lost e))
moved_served true e dest number is = cc
moved_served false e dest number is = cc

moved_lost : (b : Bool) (e : ErrandValue) (dest number : ℕ) → Leaves Lost (cond b (goes_on (Ask dest) (errand_with dest number None)) (ends Lost e))
moved_lost true e dest number is = cc
moved_lost false e dest number is = refl

on_served : (e : ErrandValue) (reply : Reply) → Leaves Served (step_on e reply)
on_served e Held is = refl
on_served e (Moved dest number) is = moved_served (nat_lt e.number number) e dest number is
on_served e (Pending source) is = cc
on_served e Behind is = cc
on_served e (Elsewhere dest) is = cc

on_lost : (e : ErrandValue) (reply : Reply) → Leaves Lost (step_on e reply)
on_lost e Held is = cc
on_lost e (Moved dest number) is = moved_lost (nat_lt e.number number) e dest number is
on_lost e (Pending source) is = cc
on_lost e Behind is = cc
on_lost e (Elsewhere dest) is = refl

from_served : (e : ErrandValue) (o : Option Next) (reply : Reply) → e.ended ≡ o → Leaves Served (step_from e o reply)
from_served e None reply same is = on_served e reply is
from_served e (Some next) reply same is = same ∙ ap Some is

from_lost : (e : ErrandValue) (o : Option Next) (reply : Reply) → e.ended ≡ o → Leaves Lost (step_from e o reply)
from_lost e None reply same is = on_lost e reply is
from_lost e (Some next) reply same is = same ∙ ap Some is

pub served_for_ever : (e : ErrandValue) (reply : Reply) (replies : List Reply) → (step_of e reply).next ≡ Served → answers_of (step_of e reply).after replies ≡ map (λ _. Served) replies
served_for_ever e reply replies is = ended_so Served (step_of e reply).after replies (from_served e e.ended reply refl is)

pub lost_for_ever : (e : ErrandValue) (reply : Reply) (replies : List Reply) → (step_of e reply).next ≡ Lost → answers_of (step_of e reply).after replies ≡ map (λ _. Lost) replies
lost_for_ever e reply replies is = ended_so Lost (step_of e reply).after replies (from_lost e e.ended reply refl is)
