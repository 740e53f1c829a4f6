-- Errands: a key is brought to its partition by the partitions' replies (this project; that a partition which no longer has a key
-- names the next one: Squall, SIGMOD 2015).
use Rattle.std.specs.Prelude.{ℕ, nat_lt, List, [], ◌∷◌, Option, None, Some, if◌then◌else◌}
use Rattle.squall_errand.specs.declared.errand.Reply.{Reply}
use Rattle.squall_errand.specs.declared.errand.Reply.TheVariants.{Held, Moved, Pending, Behind, Elsewhere}
use Rattle.squall_errand.specs.declared.errand.Next.{Next}
use Rattle.squall_errand.specs.declared.errand.Next.TheVariants.{Ask, Again, Served, Lost}

-- an errand: the partition that it asks, the number of its last Moved, 0 before the first, and how it ended, if it has
pub record ErrandValue : Type 0 where
  pub asked : ℕ
  pub number : ℕ
  pub ended : Option Next

abbrev pub errand_with : ℕ → ℕ → Option Next → ErrandValue
errand_with asked number ended = record { asked = asked; number = number; ended = ended }

-- an errand that begins at a partition
abbrev pub errand_from : ℕ → ErrandValue
errand_from part = errand_with part 0 None

-- what comes next, and the errand after it
pub record Step : Type 0 where
  pub next : Next
  pub after : ErrandValue

-- it goes on as that errand
abbrev pub goes_on : Next → ErrandValue → Step
goes_on next after = record { next = next; after = after }

-- it ends with this answer
abbrev pub ends : Next → ErrandValue → Step
ends next e = record { next = next; after = errand_with e.asked e.number (Some next) }

-- while it has not ended: a key that is held is served. If the key has moved under a greater number than that of the last move,
-- the partition to which it went is asked; under no greater number it is lost. If the key is awaited, or the partition has not
-- heard of the last move, the same partition is asked again. A key that was never there is lost
abbrev pub step_on : ErrandValue → Reply → Step
step_on e Held = ends Served e
step_on e (Moved dest number) = if nat_lt e.number number then goes_on (Ask dest) (errand_with dest number None) else ends Lost e
step_on e (Pending source) = goes_on (Again e.asked) e
step_on e Behind = goes_on (Again e.asked) e
step_on e (Elsewhere dest) = ends Lost e

-- once it has ended its answer stays, whatever the replies are
abbrev pub step_from : ErrandValue → Option Next → Reply → Step
step_from e None reply = step_on e reply
step_from e (Some next) reply = goes_on next e

abbrev pub step_of : ErrandValue → Reply → Step
step_of e reply = step_from e e.ended reply

-- the answers to replies, one after the other
abbrev pub answers_of : ErrandValue → List Reply → List Next
answers_of e [] = []
answers_of e (reply ∷ replies) = (step_of e reply).next ∷ answers_of (step_of e reply).after replies
