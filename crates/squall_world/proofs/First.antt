-- A world as it begins.
use Rattle.std.proofs.Common.{◌≡◌, ℕ, List, [], ◌∷◌, ◌++◌, sym, ap, subst, ◌∙◌}
use Rattle.squall_plan.specs.declared.range.PlanRange.{PlanRange}
use Rattle.squall_course.specs.Change.{Change}
use Rattle.squall_protocol.specs.Worlds.{first_parts}
use Rattle.squall_world.specs.Nets.{PeerValue, NetValue, IsRole}
use Rattle.squall_world.specs.Naming.{AreNoted, AreRoles}
use Rattle.squall_world.specs.Events.{IsFirstNet, first_course_of, leader_peer, router_peers, part_peers}
use Rattle.squall_world.proofs.Named.{roles_append}

-- a leader, then others, then others
pub nodes_are : (start one two three rs ps : List PeerValue) (leader : PeerValue) → start ≡ [] → one ≡ start ++ leader ∷ [] → two ≡ one ++ rs → three ≡ two ++ ps → three ≡ leader ∷ (rs ++ ps)
nodes_are start one two three rs ps leader a b c d =
    d ∙ ap (λ (xs : List PeerValue). xs ++ ps) (c ∙ ap (λ (xs : List PeerValue). xs ++ rs) (b ∙ ap (λ (xs : List PeerValue). xs ++ leader ∷ []) a))

-- each of them is what its kind says
pub roles_are : (all rs ps : List PeerValue) (leader : PeerValue) → all ≡ leader ∷ (rs ++ ps) → IsRole leader.role → AreRoles rs → AreRoles ps → AreRoles all
roles_are all rs ps leader is a b c = subst AreRoles (sym is) (a, roles_append rs ps b c)

-- the world that these make
pub first_net : (old new : List PlanRange) (count : ℕ) (m : NetValue) (leader : PeerValue) (c : Change) → m.ended ≡ [] → c ≡ first_course_of old new → leader ≡ leader_peer old new
    → m.courses ≡ c ∷ [] → m.peers ≡ leader ∷ router_peers c count ++ part_peers c (first_parts c.old c.new) → AreRoles m.peers → AreNoted m.peers m.places → m.routers ≡ count → m.messages ≡ [] → m.chunks ≡ []
    → IsFirstNet old new count (first_parts old new) m
first_net old new count m leader c ended c-is leader-is courses nodes valid noted routers messages chunks = record {
  courses = courses ∙ ap (λ (k : Change). k ∷ []) c-is;
  ended = ended;
  peers = nodes ∙ λ i. leader-is i ∷ router_peers (c-is i) count ++ part_peers (c-is i) (first_parts (c-is i).old (c-is i).new);
  valid = valid;
  placed = record { length = noted.length; each = noted.each };
  routers = routers;
  messages = messages;
  chunks = chunks;
}
