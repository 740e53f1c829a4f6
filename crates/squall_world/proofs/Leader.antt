-- What the leader does to a world.
use Rattle.std.proofs.Common.{◌≡◌, ◌≢◌, ℕ, get_or, set, Option, Some, None, Result, Ok, Err, ◌⊎◌, inl, inr, refl, sym, ap, subst, ◌∙◌}
use Rattle.std.specs.declared.alloc.AllocError.{AllocError}
use Rattle.std.proofs.lemmas.Option.{none-some}
use Rattle.squall_leader.specs.declared.fault.LeaderFault.{LeaderFault}
use Rattle.squall_leader.specs.declared.fault.LeaderFault.TheVariants.{Running, NoNumber, Idle, NoMemory}
use Rattle.squall_leader.specs.Leaders.{LeaderValue, IsOpened, open_report}
use Rattle.squall_protocol.specs.declared.answer.Answer.{Answer}
use Rattle.squall_protocol.specs.declared.answer.Answer.TheVariants.{Opened}
use Rattle.squall_protocol.specs.declared.answer.Refusal.{Refusal}
use Rattle.squall_world.specs.declared.peer.Role.TheVariants.{Leader as LeaderRole}
use Rattle.squall_world.specs.Nets.{PeerValue, NetValue, reported, IsNet, newest_of}
use Rattle.squall_world.specs.Acts.{Opens}
use Rattle.squall_nodes.specs.LeaderCalls.{open_refusal}
use Rattle.squall_world.specs.Events.{HasLeader, answer_of, IsOpenIn}
use Rattle.squall_world.proofs.Standing.{put_is, leader_there, leader_course}
use Rattle.squall_world.proofs.Demands.{put_in, unchanged, refused_by}

module _ (n m : NetValue) (peer q : PeerValue) (is : IsNet n) (put : m ≡ put_in n 0 q n.chunks) (read : peer ≡ get_or n.peers 0 peer) where
  -- the leader stands at 0
  pub has_leader : (a : LeaderValue) → peer.role ≡ LeaderRole a → HasLeader n peer a
  has_leader a role = record { there = leader_there n peer is read; role = role }

  -- a sub-plan that is opened
  pub opened : (s : ℕ) → Opens peer (Ok s) q → IsOpenIn n (Ok (Opened s)) m
  opened s (a, b, c, role, course, done, valid, turn) =
      (peer, a, b, c, has_leader a role, course, done, valid, put ∙ λ i. record n { peers = (ap (set n.peers 0) turn ∙ put_is 0 (reported 0 peer (LeaderRole b) (open_report c s)) n.peers) i })

  -- by whether the fault is a refusal
  open_refused_by : (f : LeaderFault) (o : Option Refusal) (r : Result Answer AllocError) → open_refusal f ≡ o → answer_of o r → Opens peer (Err f) q → IsOpenIn n r m
  open_refused_by f None (Ok a) e h g = absurd h
  open_refused_by f None (Err x) e h g = unchanged n m 0 peer q n.chunks put read g.3 refl
  open_refused_by f (Some x) r e h g =
      subst (λ r. IsOpenIn n r m) (sym h) (peer, g.0, f, has_leader g.0 g.1, refused_by (λ f. IsOpened g.0 (Err f) g.0) open_refusal NoMemory f x refl e g.2, e, unchanged n m 0 peer q n.chunks put read g.3 refl)

  -- a sub-plan that is not opened, or for which there is no memory
  pub open_refused : (f : LeaderFault) (r : Result Answer AllocError) → answer_of (open_refusal f) r → Opens peer (Err f) q → IsOpenIn n r m
  open_refused f r = open_refused_by f (open_refusal f) r refl

-- what is no lack of memory is what the leader answered
asked : {P : Type 0} (f : LeaderFault) → f ≢ NoMemory → (f ≡ NoMemory) ⊎ P → P
asked f not (inl same) = absurd (not same)
asked f not (inr p) = p

-- a leader that has begun a course refuses for no other reason
module _ (n : NetValue) (peer q : PeerValue) (f : LeaderFault) (is : IsNet n) (read : peer ≡ get_or n.peers 0 peer) (opens : Opens peer (Err f) q) where
  pub not_running : f ≢ Running
  not_running e = asked Running (λ same. let bad : ⊥ = cc in bad) (subst (λ f. Opens peer (Err f) q) e opens).2

  pub not_number : f ≢ NoNumber
  not_number e = asked NoNumber (λ same. let bad : ⊥ = cc in bad) (subst (λ f. Opens peer (Err f) q) e opens).2

  pub not_idle : f ≢ Idle
  not_idle e = let o = subst (λ f. Opens peer (Err f) q) e opens in let none = asked Idle (λ same. let bad : ⊥ = cc in bad) o.2 in none-some (newest_of n) (sym none.0 ∙ leader_course n peer is read o.0 o.1)
