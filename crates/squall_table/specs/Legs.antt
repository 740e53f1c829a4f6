-- Lists of legs as they grow, and places among legs, moves and spans (this project).
use Rattle.std.specs.Prelude.{◌≡◌, ◌≢◌, ℕ, ◌+◌, ◌<◌, ◌≤◌, Bool, true, List, [], ◌∷◌, if◌then◌else◌, length, slice_index_or}
use Rattle.squall_key.specs.Keys.{top}
use Rattle.squall_span.specs.Spans.{Interval, has}
use Rattle.squall_plan.specs.declared.range.PlanRange.{PlanRange}
use Rattle.squall_course.specs.declared.moving.Move.{Move}
use Rattle.squall_report.specs.Facts.{Fact}
use Rattle.squall_board.specs.Boards.{says}
use Rattle.squall_board.specs.MovesRoute.{route_by_moves}
use Rattle.squall_table.specs.declared.routes.Heard.{Heard}
use Rattle.squall_table.specs.declared.routes.Routes.{Routes}
use Rattle.squall_table.specs.declared.routes.Heard.TheVariants.{Board, All}

-- ---- lists that grow

-- the first leg, if any, is of another partition
abbrev pub Differs : ℕ → List PlanRange → Type 0
Differs p [] = Unit {0}
Differs p (l ∷ ls) = p ≢ l.part

-- the legs of a route from one bound to another, as `AreLegs` has them, leg by leg
abbrev pub Legs : (ℕ → ℕ) → ℕ → ℕ → List PlanRange → Type 0
Legs f from to [] = from ≡ to
Legs f from to (l ∷ ls) = (l.span.lo ≡ from) × (l.span.lo < l.span.hi) × ((k : ℕ) → l.span.lo ≤ k → k < l.span.hi → f k ≡ l.part) × Differs l.part ls × Legs f l.span.hi to ls

-- the new list goes on from lo to hi with the legs of g. Take any route that is g from lo to hi: if the old list is its legs up
-- to lo, the new one is its legs up to hi
abbrev pub Grows : (ℕ → ℕ) → ℕ → ℕ → List PlanRange → List PlanRange → Type 0
Grows g lo hi old new = (f : ℕ → ℕ) (from : ℕ) → ((k : ℕ) → lo ≤ k → k < hi → f k ≡ g k) → Legs f from lo old → Legs f from hi new

-- ---- places of legs

-- the leg at i has the key
pub record IsAt (ls : List PlanRange) (k i : ℕ) : Type 0 where
  pub within : i < length ls
  pub from : (d : PlanRange) → (slice_index_or ls i d).span.lo ≤ k
  pub below : (d : PlanRange) → k < (slice_index_or ls i d).span.hi

-- one of `size` legs from the index `base` on has the key
pub record IsAmong (ls : List PlanRange) (k base size : ℕ) : Type 0 where
  pub some : 0 < size
  pub within : base + size ≤ length ls
  pub from : (d : PlanRange) → (slice_index_or ls base d).span.lo ≤ k
  pub beyond : (j : ℕ) (d : PlanRange) → base + size ≤ j → j < length ls → k < (slice_index_or ls j d).span.lo

-- the leg at i has the keys before the bound
pub record EndsAt (ls : List PlanRange) (bound i : ℕ) : Type 0 where
  pub within : i < length ls
  pub from : (d : PlanRange) → (slice_index_or ls i d).span.lo < bound
  pub below : (d : PlanRange) → bound ≤ (slice_index_or ls i d).span.hi

-- ---- spans

-- one partition in the spans, another outside them
abbrev pub pick : List Interval → ℕ → ℕ → ℕ → ℕ
pick spans dest source k = if has spans k then dest else source

-- ---- moves

-- moves by rising key from a bound on, none empty, none sharing a key with another
abbrev pub MovesRise : ℕ → List Move → Type 0
MovesRise from [] = from ≤ top
MovesRise from (m ∷ ms) = (from ≤ m.span.lo) × (m.span.lo < m.span.hi) × MovesRise m.span.hi ms

-- the index of the first move that ends beyond the bound
pub record FirstMove (ms : List Move) (bound i : ℕ) : Type 0 where
  pub within : i ≤ length ms
  pub before : (j : ℕ) (d : Move) → j < i → (slice_index_or ms j d).span.hi ≤ bound
  pub after : (j : ℕ) (d : Move) → i ≤ j → j < length ms → bound < (slice_index_or ms j d).span.hi

-- the index of the first move, from the index `first` on, that begins at the bound or later
pub record EndMove (ms : List Move) (bound first i : ℕ) : Type 0 where
  pub from : first ≤ i
  pub within : i ≤ length ms
  pub before : (j : ℕ) (d : Move) → first ≤ j → j < i → (slice_index_or ms j d).span.lo < bound
  pub after : (j : ℕ) (d : Move) → i ≤ j → j < length ms → bound ≤ (slice_index_or ms j d).span.lo

-- what is said: what the board has, or that every key of a move has come
abbrev pub said : Heard → Fact → Bool
said (Board b) fact = says b.now fact
said All fact = true

-- the routes by the moves of a course of that number, by what is said, and by the legs for keys of no move
abbrev pub route_told : Routes → ℕ → ℕ
route_told r = route_by_moves r.number r.legs.now r.moves.now (said r.heard)
