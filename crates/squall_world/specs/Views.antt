-- What is seen of a world: the world of the definition that what it keeps makes.
use Rattle.std.specs.Prelude.{ℕ, zero, suc, ◌==◌, if◌then◌else◌, Bool, false, List, [], ◌∷◌, length, map, Option, Some, None, slice_index_or}
use Rattle.std.specs.List.{flat_map, slice_get}
use Rattle.squall_span.specs.Spans.{has}
use Rattle.squall_course.specs.Change.{Change}
use Rattle.squall_report.specs.Queries.{Queries, no_queries}
use Rattle.squall_board.specs.BoardQueries.{queries_of}
use Rattle.squall_part.specs.Parts.{PartValue, closed_by, given_by, loaded_by}
use Rattle.squall_leader.specs.Leaders.{LeaderValue}
use Rattle.squall_protocol.specs.declared.event.Node.TheVariants.{Part}
use Rattle.squall_protocol.specs.Worlds.{WorldValue}
use Rattle.squall_world.specs.declared.peer.Role.{Role}
use Rattle.squall_world.specs.declared.peer.Role.TheVariants.{Leader as LeaderRole, Part as PartRole, Router as RouterRole}
use Rattle.squall_world.specs.Nets.{PeerValue, NetValue, MessageValue, told_with, role_board, leader_in, part_in, first_of, peer_of}

-- the course of a number. Under 0, and beyond the last, it is the first
abbrev pub course_under : NetValue → ℕ → Change
course_under n zero = first_of n
course_under n (suc i) = slice_index_or n.courses i (first_of n)

-- the numbers of the partitions, in the order of the nodes
abbrev pub id_of : Role → List ℕ
id_of (LeaderRole l) = []
id_of (PartRole p) = p.id ∷ []
id_of (RouterRole r) = []

abbrev pub ids_in : NetValue → List ℕ
ids_in n = flat_map (λ p. id_of p.role) n.peers

-- how many sub-plans the leader has opened
abbrev pub opened_by : Option LeaderValue → ℕ
opened_by None = 0
opened_by (Some l) = l.opened

abbrev pub opened_in : Option PeerValue → ℕ
opened_in None = 0
opened_in (Some p) = opened_by (leader_in p.role)

-- how many sub-plans of the course of a number were opened: of those that ended by a list, and of the one after them so many
abbrev pub opened_under : List ℕ → ℕ → ℕ → ℕ
opened_under ended last zero = 0
opened_under ended last (suc i) = slice_index_or ended i (if i == length ended then last else 0)

-- a partition, if it is there
abbrev pub part_of : Option PeerValue → Option PartValue
part_of None = None
part_of (Some p) = part_in p.role

abbrev pub held_by : Option PartValue → ℕ → Bool
held_by None k = false
held_by (Some p) k = has p.held k

abbrev pub closed_under : Option PartValue → ℕ → Bool
closed_under None n = false
closed_under (Some p) n = closed_by p n

abbrev pub given_under : Option PartValue → ℕ → ℕ → Bool
given_under None n k = false
given_under (Some p) n k = has (given_by p n) k

abbrev pub loaded_under : Option PartValue → ℕ → ℕ → Bool
loaded_under None n k = false
loaded_under (Some p) n k = has (loaded_by p n) k

-- what a node has heard and reported itself, nothing if it is not there
abbrev pub facts_of : Option PeerValue → Queries
facts_of None = no_queries
facts_of (Some p) = queries_of (role_board p.role)

-- what a message says
abbrev pub told_by_message : NetValue → MessageValue → Queries
told_by_message n x = queries_of (told_with n.peers x.known x.extra)

abbrev pub view : NetValue → WorldValue
view n =
    record {
      old = λ i. (course_under n i).old;
      new = λ i. (course_under n i).new;
      last = length n.courses;
      opened = opened_under n.ended (opened_in (slice_get n.peers 0));
      parts = ids_in n;
      routers = n.routers;
      held = λ p k. held_by (part_of (peer_of n (Part p))) k;
      closed = λ m p. closed_under (part_of (peer_of n (Part p))) m;
      given = λ m p k. given_under (part_of (peer_of n (Part p))) m k;
      loaded = λ m p k. loaded_under (part_of (peer_of n (Part p))) m k;
      facts = λ node. facts_of (peer_of n node);
      messages = map (told_by_message n) n.messages;
      chunks = n.chunks;
    }
