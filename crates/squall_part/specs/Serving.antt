-- What a partition replies if it is asked for a key. (That a partition which gave a key says where it went: Squall, SIGMOD 2015. The
-- numbers that keep replies of several reconfigurations apart are this project's.)
use Rattle.std.specs.Prelude.{◌≡◌, ℕ, ◌<◌, ◌≤◌, true, false, Some}
use Rattle.squall_span.specs.Spans.{has}
use Rattle.squall_plan.specs.Ranges.{owner_of}
use Rattle.squall_course.specs.Change.{Change}
use Rattle.squall_course.specs.Subplans.{moves}
use Rattle.squall_errand.specs.declared.errand.Reply.{Reply}
use Rattle.squall_errand.specs.declared.errand.Reply.TheVariants.{Held, Moved, Pending, Behind, Elsewhere}
use Rattle.squall_protocol.specs.Firsts.{IsGreatest}
use Rattle.squall_part.specs.Parts.{PartValue, known_to, course_of_part, given_by, loaded_by}

-- the partition gave the key under the number, whose course it knows
abbrev pub GaveUnder : PartValue → ℕ → ℕ → Type 0
GaveUnder p k n = ((c : Change) × (known_to p n ≡ Some c)) × (has (given_by p n) k ≡ true)

-- the number is that of its newest course, by which the key comes in, and it is not loaded. A key that was to come in an earlier course
-- and did not comes no more
abbrev pub ComesUnder : PartValue → ℕ → ℕ → Type 0
ComesUnder p k n =
    (n ≡ (course_of_part p).number) × (moves (course_of_part p).old (course_of_part p).new k ≡ true) × (owner_of (course_of_part p).new k ≡ p.id)
    × (has (loaded_by p n) k ≡ false)

-- the last number under which it gave the key, and the one by which the key comes in and is not loaded, 0 for none
abbrev pub IsLastGiven : PartValue → ℕ → ℕ → Type 0
IsLastGiven p k g = IsGreatest (GaveUnder p k) g

abbrev pub IsLastComing : PartValue → ℕ → ℕ → Type 0
IsLastComing p k c = IsGreatest (ComesUnder p k) c

-- the old, or the new, partition of the key by the course of the number
abbrev pub OldOwnerUnder : PartValue → ℕ → ℕ → ℕ → Type 0
OldOwnerUnder p k n part = (c : Change) × (known_to p n ≡ Some c) × (part ≡ owner_of c.old k)

abbrev pub NewOwnerUnder : PartValue → ℕ → ℕ → ℕ → Type 0
NewOwnerUnder p k n part = (c : Change) × (known_to p n ≡ Some c) × (part ≡ owner_of c.new k)

-- The reply to one who asks for a key, with the number of the last move that was followed. The cases are tried in this order. The key
-- is held. It is awaited by a later course than that by which it was given. It was given under a later number than the one followed.
-- The number followed lies above all that the partition knows. Else the key was never there by what the partition knows.
abbrev pub IsReply : PartValue → ℕ → ℕ → Reply → Type 0
IsReply p k after Held = has p.held k ≡ true
IsReply p k after (Pending source) = (has p.held k ≡ false) × ((g : ℕ) × (c : ℕ) × IsLastGiven p k g × IsLastComing p k c × (g < c) × OldOwnerUnder p k c source)
IsReply p k after (Moved dest g) = (has p.held k ≡ false) × IsLastGiven p k g × ((c : ℕ) × IsLastComing p k c × (c ≤ g)) × (after < g) × NewOwnerUnder p k g dest
IsReply p k after Behind = (has p.held k ≡ false) × ((g : ℕ) × (c : ℕ) × IsLastGiven p k g × IsLastComing p k c × (c ≤ g) × (g ≤ after)) × ((course_of_part p).number < after)
IsReply p k after (Elsewhere part) =
    (has p.held k ≡ false) × ((g : ℕ) × (c : ℕ) × IsLastGiven p k g × IsLastComing p k c × (c ≤ g) × (g ≤ after)) × (after ≤ (course_of_part p).number)
    × (part ≡ owner_of (course_of_part p).old k)
