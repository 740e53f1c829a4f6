-- Worlds: a leader, partitions and routers, and the messages and chunks on their way between them (a leader that starts
-- reconfigurations, and partitions that give keys and report what they loaded: Squall, SIGMOD 2015; routers, messages that may be
-- lost, repeated and reordered, and several reconfigurations are this project's).
use Rattle.std.specs.Prelude.{◌≡◌, ℕ, ◌==◌, ◌≤◌, ◌&&◌, ◌||◌, nat_lt, Bool, true, false, List, []}
use Rattle.std.specs.List.{filter, list_any, range_with_len}
use Rattle.squall_key.specs.Keys.{top, part_limit}
use Rattle.squall_plan.specs.declared.range.PlanRange.{PlanRange}
use Rattle.squall_plan.specs.Ranges.{owner_of, names}
use Rattle.squall_course.specs.Change.{Change}
use Rattle.squall_report.specs.Issues.{PlanPair, plan_pair}
use Rattle.squall_report.specs.Queries.{Queries, SameQueries, no_queries, issued_queries}
use Rattle.squall_protocol.specs.Chunks.{ChunkValue}
use Rattle.squall_protocol.specs.declared.event.Node.{Node}
use Rattle.squall_protocol.specs.declared.event.Node.TheVariants.{Leader, Part, Router}

-- the most routers that a world may have
abbrev pub most_routers : ℕ
most_routers = 1000

pub record WorldValue : Type 0 where
  -- both plans of the course of a number. The old one says where the keys are when it begins
  pub old : ℕ → List PlanRange
  pub new : ℕ → List PlanRange
  -- the number of the course begun last, and how many sub-plans of the course of a number were opened
  pub last : ℕ
  pub opened : ℕ → ℕ
  -- the partitions that there are, in the order in which plans first named them
  pub parts : List ℕ
  -- how many routers there are
  pub routers : ℕ
  -- whether a partition gives no more in the course of a number
  pub closed : ℕ → ℕ → Bool
  -- whether a partition holds a key; whether it gave it, and whether it loaded it, in the course of a number
  pub held : ℕ → ℕ → Bool
  pub given : ℕ → ℕ → ℕ → Bool
  pub loaded : ℕ → ℕ → ℕ → Bool
  -- the facts of each node: those that came in messages, and its own
  pub facts : Node → Queries
  -- the facts of each message, and the keys of each chunk
  pub messages : List Queries
  pub chunks : List ChunkValue

-- ---- its courses

-- the course of a number
abbrev pub course_at : WorldValue → ℕ → Change
course_at w n = record { number = n; old = w.old n; new = w.new n }

-- the course with which the world began, and the course begun last
abbrev pub first_course : WorldValue → Change
first_course w = course_at w 1

abbrev pub last_course : WorldValue → Change
last_course w = course_at w w.last

-- the course of the number was begun
abbrev pub WasBegun : WorldValue → ℕ → Type 0
WasBegun w n = (1 ≤ n) × (n ≤ w.last)

-- both plans of the course of a number
abbrev pub pair_at : WorldValue → ℕ → PlanPair
pair_at w n = plan_pair (w.old n) (w.new n)

-- ---- its nodes

abbrev pub same_node : Node → Node → Bool
same_node Leader Leader = true
same_node Leader (Part q) = false
same_node Leader (Router s) = false
same_node (Part p) Leader = false
same_node (Part p) (Part q) = p == q
same_node (Part p) (Router s) = false
same_node (Router r) Leader = false
same_node (Router r) (Part q) = false
same_node (Router r) (Router s) = r == s

-- the partition is there
abbrev pub is_part : WorldValue → ℕ → Bool
is_part w p = list_any (λ q. q == p) w.parts

-- the node is there
abbrev pub is_node : WorldValue → Node → Bool
is_node w Leader = true
is_node w (Part p) = is_part w p
is_node w (Router r) = nat_lt r w.routers

-- ---- at first

-- the partitions that either plan names, in rising number
abbrev pub first_parts : List PlanRange → List PlanRange → List ℕ
first_parts old new = filter (λ p. names old p || names new p) (range_with_len 0 part_limit)

-- the leader has issued the first course. No other node has any fact yet.
abbrev pub first_facts : List PlanRange → List PlanRange → Node → Queries
first_facts old new Leader = issued_queries 1 (plan_pair old new)
first_facts old new (Part p) = no_queries
first_facts old new (Router r) = no_queries

-- the world as it begins: each key lies where the old plan has it, and the course to the new plan is begun
abbrev pub start : List PlanRange → List PlanRange → ℕ → WorldValue
start old new routers =
    record {
      old = λ n. old;
      new = λ n. new;
      last = 1;
      opened = λ n. 0;
      parts = first_parts old new;
      routers = routers;
      closed = λ n p. false;
      held = λ p k. nat_lt k top && (owner_of old k == p);
      given = λ n p k. false;
      loaded = λ n p k. false;
      facts = first_facts old new;
      messages = [];
      chunks = [];
    }

-- ---- the same

-- both worlds agree in each of their parts
pub record SameWorld (w v : WorldValue) : Type 0 where
  pub old : (n : ℕ) → w.old n ≡ v.old n
  pub new : (n : ℕ) → w.new n ≡ v.new n
  pub last : w.last ≡ v.last
  pub opened : (n : ℕ) → w.opened n ≡ v.opened n
  pub parts : w.parts ≡ v.parts
  pub routers : w.routers ≡ v.routers
  pub closed : (n p : ℕ) → w.closed n p ≡ v.closed n p
  pub held : (p k : ℕ) → w.held p k ≡ v.held p k
  pub given : (n p k : ℕ) → w.given n p k ≡ v.given n p k
  pub loaded : (n p k : ℕ) → w.loaded n p k ≡ v.loaded n p k
  pub facts : (node : Node) → SameQueries (w.facts node) (v.facts node)
  pub messages : w.messages ≡ v.messages
  pub chunks : w.chunks ≡ v.chunks
