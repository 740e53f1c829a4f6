-- A value of a node beside a node of a world: in what both must agree, so that the one stands for the other (this project).
use Rattle.std.specs.Prelude.{◌≡◌, ℕ, ◌<◌, true, false, List, Option, None, Some}
use Rattle.squall_key.specs.Keys.{part_limit}
use Rattle.squall_span.specs.Spans.{has}
use Rattle.squall_plan.specs.Ranges.{names}
use Rattle.squall_report.specs.Queries.{SameQueries, no_queries}
use Rattle.squall_board.specs.BoardQueries.{queries_of}
use Rattle.squall_protocol.specs.Chunks.{ChunkValue}
use Rattle.squall_protocol.specs.declared.event.Node.{Node}
use Rattle.squall_protocol.specs.declared.event.Node.TheVariants.{Leader, Part, Router}
use Rattle.squall_protocol.specs.declared.event.Event.{Event}
use Rattle.squall_protocol.specs.declared.answer.Answer.{Answer}
use Rattle.squall_protocol.specs.declared.answer.Answer.TheVariants.{Refused}
use Rattle.squall_protocol.specs.declared.answer.Refusal.{Refusal}
use Rattle.squall_protocol.specs.Worlds.{WorldValue, first_course, last_course, same_node, is_part, is_node}
use Rattle.squall_protocol.specs.Steps.{Step}
use Rattle.squall_part.specs.Parts.{PartValue, closed_by, given_by, loaded_by}
use Rattle.squall_leader.specs.Leaders.{LeaderValue}
use Rattle.squall_router.specs.Routers.{RouterValue}

-- ---- one node

-- the value stands for the partition of that number: it is there, and has heard, holds, gave, loaded and closed what the value says
pub record StandsForPart (w : WorldValue) (p : ℕ) (a : PartValue) : Type 0 where
  pub there : is_part w p ≡ true
  pub limit : p < part_limit
  pub id : a.id ≡ p
  pub first : first_course w ≡ a.first
  pub told : SameQueries (w.facts (Part p)) (queries_of a.board)
  pub held : (k : ℕ) → w.held p k ≡ has a.held k
  pub closed : (n : ℕ) → w.closed n p ≡ closed_by a n
  pub given : (n k : ℕ) → w.given n p k ≡ has (given_by a n) k
  pub loaded : (n k : ℕ) → w.loaded n p k ≡ has (loaded_by a n) k

-- the value stands for the leader: both use the course begun last, opened as many of its sub-plans, and heard the same
pub record StandsForLeader (w : WorldValue) (l : LeaderValue) : Type 0 where
  pub course : l.course ≡ Some (last_course w)
  pub opened : w.opened w.last ≡ l.opened
  pub told : SameQueries (w.facts Leader) (queries_of l.board)

-- the value stands for the router of that number: it is there, began with the same course, and has heard the same
pub record StandsForRouter (w : WorldValue) (r : ℕ) (x : RouterValue) : Type 0 where
  pub there : is_node w (Router r) ≡ true
  pub first : first_course w ≡ x.first
  pub told : SameQueries (w.facts (Router r)) (queries_of x.board)

-- no partition of that number is there. Nothing was held, given, loaded, closed or heard under it, and the first old plan does not name it
pub record IsAbsent (w : WorldValue) (p : ℕ) : Type 0 where
  pub gone : is_part w p ≡ false
  pub unnamed : names (first_course w).old p ≡ false
  pub told : SameQueries (w.facts (Part p)) no_queries
  pub held : (k : ℕ) → w.held p k ≡ false
  pub closed : (n : ℕ) → w.closed n p ≡ false
  pub given : (n k : ℕ) → w.given n p k ≡ false
  pub loaded : (n k : ℕ) → w.loaded n p k ≡ false

-- ---- the others

-- values stand for all nodes but one as before, no partition came, and the first course is the same
pub record OthersStand (w v : WorldValue) (node : Node) : Type 0 where
  pub parts : (q : ℕ) (a : PartValue) → same_node (Part q) node ≡ false → StandsForPart w q a → StandsForPart v q a
  pub leader : (l : LeaderValue) → same_node Leader node ≡ false → StandsForLeader w l → StandsForLeader v l
  pub routers : (r : ℕ) (x : RouterValue) → same_node (Router r) node ≡ false → StandsForRouter w r x → StandsForRouter v r x
  pub absent : (q : ℕ) → same_node (Part q) node ≡ false → IsAbsent w q → IsAbsent v q
  pub first : first_course v ≡ first_course w

-- ---- what a call comes to in the world

-- the answer that refuses, if there is a refusal
abbrev pub refused : Option Refusal → Option Answer
refused None = None
refused (Some e) = Some (Refused e)

-- A call with an answer is a step: the answer may be given to the event, and `After` holds of the world after it. A call without one, for
-- which memory was missing, is no step: `After` holds of the world as it is
abbrev pub Becomes : WorldValue → Event → Option Answer → (WorldValue → Type 0) → Type 0
Becomes w event None After = After w
Becomes w event (Some answer) After = (v : WorldValue) × Step w event answer v × After v

-- the value stands for the partition, and other values for other nodes as before. These are the chunks, and messages are as before
pub record PartStands (w : WorldValue) (p : ℕ) (a : PartValue) (on_way : List ChunkValue) (v : WorldValue) : Type 0 where
  pub itself : StandsForPart v p a
  pub others : OthersStand w v (Part p)
  pub chunks : v.chunks ≡ on_way
  pub messages : v.messages ≡ w.messages

-- the value stands for the leader, and other values for other nodes as before. Chunks and messages are as before
pub record LeaderStands (w : WorldValue) (l : LeaderValue) (v : WorldValue) : Type 0 where
  pub itself : StandsForLeader v l
  pub others : OthersStand w v Leader
  pub chunks : v.chunks ≡ w.chunks
  pub messages : v.messages ≡ w.messages

-- the value stands for the router, and other values for other nodes as before. Chunks and messages are as before
pub record RouterStands (w : WorldValue) (r : ℕ) (x : RouterValue) (v : WorldValue) : Type 0 where
  pub itself : StandsForRouter v r x
  pub others : OthersStand w v (Router r)
  pub chunks : v.chunks ≡ w.chunks
  pub messages : v.messages ≡ w.messages
