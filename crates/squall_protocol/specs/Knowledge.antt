-- What a partition of a world knows, and what it replies for a key: the definitions of a partition, over tests in the place of sets.
use Rattle.std.specs.Prelude.{◌≡◌, ℕ, ◌+◌, ◌<◌, ◌≤◌, ◌==◌, ◌&&◌, not, Bool, true, false, Option, Some, if◌then◌else◌}
use Rattle.squall_plan.specs.Ranges.{owner_of}
use Rattle.squall_course.specs.Change.{Change}
use Rattle.squall_course.specs.Subplans.{moves}
use Rattle.squall_course.specs.Moves.{is_incoming, is_outgoing}
use Rattle.squall_report.specs.Queries.{Queries}
use Rattle.squall_board.specs.CourseRoute.{IsCourseBy}
use Rattle.squall_errand.specs.declared.errand.Reply.{Reply}
use Rattle.squall_errand.specs.declared.errand.Reply.TheVariants.{Held, Moved, Pending, Behind, Elsewhere}
use Rattle.squall_protocol.specs.Firsts.{IsGreatest}
use Rattle.squall_protocol.specs.Known.{course_under}
use Rattle.squall_protocol.specs.declared.event.Node.TheVariants.{Part}
use Rattle.squall_protocol.specs.Worlds.{WorldValue, first_course}

-- A partition answers from its number, the first course and its facts. It also answers from whether it holds a key, whether it gave
-- or loaded the key in the course of a number, and whether it gives no more in that course.
pub record PartQueries : Type 0 where
  pub id : ℕ
  pub first : Change
  pub told : Queries
  pub held : ℕ → Bool
  pub closed : ℕ → Bool
  pub given : ℕ → ℕ → Bool
  pub loaded : ℕ → ℕ → Bool

-- a partition of the world
abbrev pub part_in : WorldValue → ℕ → PartQueries
part_in w p = record { id = p; first = first_course w; told = w.facts (Part p); held = w.held p; closed = λ n. w.closed n p; given = λ n k. w.given n p k; loaded = λ n k. w.loaded n p k }

-- ---- courses

-- the course of a number, as far as a node knows: all know the first, and a later one by what is issued under its number
abbrev pub known_by : Change → Queries → ℕ → Option Change
known_by first t n = if n == first.number then Some first else course_under n (t.issued n)

-- the partition knows the course of the number
abbrev pub Knows : PartQueries → ℕ → Change → Type 0
Knows p n c = known_by p.first p.told n ≡ Some c

-- the course is the newest that the partition knows, the sub-plan the one opened last under it there, and the partition still gives
-- in it
abbrev pub IsCurrent : PartQueries → Change → ℕ → Type 0
IsCurrent p c s = IsCourseBy p.first p.told c × (p.told.opened c.number ≡ s + 1) × (p.closed c.number ≡ false)

-- no sub-plan is opened there under the newest course that it knows
abbrev pub NoneOpen : PartQueries → Type 0
NoneOpen p = (c : Change) × IsCourseBy p.first p.told c × (p.told.opened c.number ≡ 0) × (p.closed c.number ≡ false)

-- it gives no more in that course
abbrev pub IsClosed : PartQueries → Type 0
IsClosed p = (c : Change) × IsCourseBy p.first p.told c × (p.closed c.number ≡ true)

-- ---- keys

-- the key goes out from the partition in the sub-plan of the course
abbrev pub goes_out : PartQueries → Change → ℕ → ℕ → Bool
goes_out p c s k = is_outgoing c.old c.new s p.id k

-- it goes out, and is still held
abbrev pub is_left : PartQueries → Change → ℕ → ℕ → Bool
is_left p c s k = goes_out p c s k && p.held k

-- the key comes in to the partition in the sub-plan of the course
abbrev pub comes_in : PartQueries → Change → ℕ → ℕ → Bool
comes_in p c s k = is_incoming c.old c.new s p.id k

-- it comes in, and is not loaded
abbrev pub is_missing : PartQueries → Change → ℕ → ℕ → Bool
is_missing p c s k = comes_in p c s k && not (p.loaded c.number k)

-- ---- replies

-- the partition knows the course of the number, and gave the key in it
abbrev pub GaveUnder : PartQueries → ℕ → ℕ → Type 0
GaveUnder p k n = ((c : Change) × Knows p n c) × (p.given n k ≡ true)

-- the number is that of the newest course that the partition knows, by which the key comes in, and it is not loaded. A key that was
-- to come in an earlier course and did not comes no more
abbrev pub ComesUnder : PartQueries → ℕ → ℕ → Type 0
ComesUnder p k n = (c : Change) × IsCourseBy p.first p.told c × (c.number ≡ n) × (moves c.old c.new k ≡ true) × (owner_of c.new k ≡ p.id) × (p.loaded n k ≡ false)

-- the last number under which it gave the key, and the one by which the key comes in and is not loaded, 0 for none
abbrev pub IsLastGiven : PartQueries → ℕ → ℕ → Type 0
IsLastGiven p k g = IsGreatest (GaveUnder p k) g

abbrev pub IsLastComing : PartQueries → ℕ → ℕ → Type 0
IsLastComing p k c = IsGreatest (ComesUnder p k) c

-- the old, or the new, partition of the key by the course of the number
abbrev pub OldOwnerUnder : PartQueries → ℕ → ℕ → ℕ → Type 0
OldOwnerUnder p k n part = (c : Change) × Knows p n c × (part ≡ owner_of c.old k)

abbrev pub NewOwnerUnder : PartQueries → ℕ → ℕ → ℕ → Type 0
NewOwnerUnder p k n part = (c : Change) × Knows p n c × (part ≡ owner_of c.new k)

-- the reply of a partition that is asked for a key with the number of the last move that was followed
abbrev pub Serves : PartQueries → ℕ → ℕ → Reply → Type 0
Serves p k after Held = p.held k ≡ true
Serves p k after (Pending source) = (p.held k ≡ false) × ((g : ℕ) × (c : ℕ) × IsLastGiven p k g × IsLastComing p k c × (g < c) × OldOwnerUnder p k c source)
Serves p k after (Moved dest g) = (p.held k ≡ false) × IsLastGiven p k g × ((c : ℕ) × IsLastComing p k c × (c ≤ g)) × (after < g) × NewOwnerUnder p k g dest
Serves p k after Behind =
    (p.held k ≡ false) × ((g : ℕ) × (c : ℕ) × IsLastGiven p k g × IsLastComing p k c × (c ≤ g) × (g ≤ after)) × ((newest : Change) × IsCourseBy p.first p.told newest × (newest.number < after))
Serves p k after (Elsewhere part) =
    (p.held k ≡ false) × ((g : ℕ) × (c : ℕ) × IsLastGiven p k g × IsLastComing p k c × (c ≤ g) × (g ≤ after))
    × ((newest : Change) × IsCourseBy p.first p.told newest × (after ≤ newest.number) × (part ≡ owner_of newest.old k))
