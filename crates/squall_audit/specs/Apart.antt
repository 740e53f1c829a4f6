-- Where events happen, and what they leave alone elsewhere.
use Rattle.std.specs.Prelude.{◌≡◌, ℕ, ◌≤◌, List, ◌++◌, Some}
use Rattle.std.specs.List.{slice_get}
use Rattle.squall_protocol.specs.Chunks.{ChunkValue}
use Rattle.squall_protocol.specs.declared.event.Node.{Node}
use Rattle.squall_protocol.specs.declared.event.Node.TheVariants.{Leader, Part, Router}
use Rattle.squall_protocol.specs.declared.event.Event.{Event}
use Rattle.squall_protocol.specs.declared.event.Event.TheVariants.{OpenNext, Begin, BeginFrom, Close, Give, GiveAt, Load, Finish, Send, SendPart, Deliver, Route, Serve}
use Rattle.squall_protocol.specs.declared.answer.Answer.{Answer}
use Rattle.squall_protocol.specs.Worlds.{WorldValue, first_course}
use Rattle.squall_protocol.specs.Steps.{Step}

-- the event happens at the node
abbrev pub IsAt : WorldValue → Event → Node → Type 0
IsAt w OpenNext m = m ≡ Leader
IsAt w (Begin plan) m = m ≡ Leader
IsAt w (BeginFrom old new) m = m ≡ Leader
IsAt w (Close p) m = m ≡ Part p
IsAt w (Give p most) m = m ≡ Part p
IsAt w (GiveAt p k) m = m ≡ Part p
IsAt w (Load i) m = (x : ChunkValue) × (slice_get w.chunks i ≡ Some x) × (m ≡ Part x.dest)
IsAt w (Finish p s) m = m ≡ Part p
IsAt w (Send node) m = m ≡ node
IsAt w (SendPart node said) m = m ≡ node
IsAt w (Deliver i node) m = m ≡ node
IsAt w (Route r k) m = m ≡ Router r
IsAt w (Serve p k after) m = m ≡ Part p

-- the second list begins with the first
abbrev pub Grows : {A : Type 0} → List A → List A → Type 0
Grows {A = A} xs ys = (more : List A) × (ys ≡ xs ++ more)

-- what a partition holds, gave and loaded stays, and in which courses it gives no more
pub record SamePart (w u : WorldValue) (p : ℕ) : Type 0 where
  pub held : (k : ℕ) → u.held p k ≡ w.held p k
  pub closed : (n : ℕ) → u.closed n p ≡ w.closed n p
  pub given : (n k : ℕ) → u.given n p k ≡ w.given n p k
  pub loaded : (n k : ℕ) → u.loaded n p k ≡ w.loaded n p k

-- the leader's courses and sub-plans stay
pub record SameLead (w u : WorldValue) : Type 0 where
  pub old : (n : ℕ) → u.old n ≡ w.old n
  pub new : (n : ℕ) → u.new n ≡ w.new n
  pub last : u.last ≡ w.last
  pub opened : (n : ℕ) → u.opened n ≡ w.opened n
  pub parts : u.parts ≡ w.parts

-- all that decides what the node may do next stays, or grows
pub record Undisturbed (w u : WorldValue) (m : Node) : Type 0 where
  pub told : u.facts m ≡ w.facts m
  pub part : (p : ℕ) → m ≡ Part p → SamePart w u p
  pub lead : m ≡ Leader → SameLead w u
  pub first : first_course u ≡ first_course w
  pub routers : u.routers ≡ w.routers
  pub parts : Grows w.parts u.parts
  pub chunks : Grows w.chunks u.chunks
  pub messages : Grows w.messages u.messages

-- an event at another node leaves a node undisturbed
abbrev pub NodesAreApart : Type 0
NodesAreApart = (w u : WorldValue) (e : Event) (a : Answer) (m : Node) → 1 ≤ w.last → Step w e a u → (IsAt w e m → ⊥) → Undisturbed w u m
