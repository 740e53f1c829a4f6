-- What a course that is begun does to a world.
use Rattle.std.proofs.Common.{◌≡◌, ℕ, ◌+◌, ◌-◌, ◌<◌, ◌≤◌, ◌↔◌, Bool, IsTrue, false, cond, ltb, List, [], ◌∷◌, ◌++◌, length, take, get_or, set, Option, Some, None, Result, Ok, Err, sym, ap, subst, ◌∙◌, arith, length-set, length-append}
use Rattle.std.specs.List.{position}
use Rattle.std.specs.Result.{IsErr}
use Rattle.std.specs.declared.alloc.AllocError.{AllocError}
use Rattle.std.proofs.Math.Seq.{take-append_seam}
use Rattle.std.proofs.lemmas.Bool.{false≢true}
use Rattle.std.proofs.lemmas.List.Folds.{position_or_len-set}
use Rattle.squall_plan.specs.declared.range.PlanRange.{PlanRange}
use Rattle.squall_course.specs.Change.{Change}
use Rattle.squall_report.specs.declared.report.ReportKind.{ReportKind}
use Rattle.squall_report.specs.declared.report.ReportKind.TheVariants.{Issued}
use Rattle.squall_report.specs.Issues.{PlanPair, plan_pair}
use Rattle.squall_leader.specs.declared.fault.LeaderFault.{LeaderFault}
use Rattle.squall_leader.specs.Leaders.{LeaderValue, course_from, issue_report}
use Rattle.squall_leader.specs.Leaders.{IsFinished as IsLeaderFinished}
use Rattle.squall_protocol.specs.declared.answer.Answer.{Answer}
use Rattle.squall_protocol.specs.declared.answer.Answer.TheVariants.{Begun, Refused}
use Rattle.squall_protocol.specs.declared.answer.Refusal.TheVariants.{NoNumber}
use Rattle.squall_world.specs.declared.peer.Role.TheVariants.{Leader as LeaderRole}
use Rattle.squall_world.specs.Nets.{PeerValue, NetValue, IsNet, reported, is_part_role, is_part_peer, first_of, newest_of}
use Rattle.squall_world.specs.Acts.{Begins}
use Rattle.squall_world.specs.Naming.{AreNoted, AreRoles}
use Rattle.squall_world.specs.Events.{HasLeader, IsCourseIn, IsDoneIn, IsBeginIn, part_peers, named_first}
use Rattle.squall_world.proofs.Standing.{put_is, leader_role, leader_there, leader_course, leader_is}

-- where an allocation failed nothing changed
pub nothing_begun : (n m : NetValue) (old plan : List PlanRange) (r : Result Answer AllocError) → IsErr r → m ≡ n → IsCourseIn n old plan r m
nothing_begun n m old plan (Ok a) is same = absurd (false≢true is)
nothing_begun n m old plan (Err e) is same = same

-- a leader that says that its course is over
pub done_is : (n : NetValue) (peer : PeerValue) (over : Bool) → IsNet n → peer ≡ get_or n.peers 0 peer → ((a : LeaderValue) → peer.role ≡ LeaderRole a → IsTrue over ↔ IsLeaderFinished a) → IsTrue over → IsDoneIn n
done_is n peer over is read tells said =
    let role = leader_role n peer is read in
    (peer, is.led.leader, record { there = leader_there n peer is read; role = role }, (tells is.led.leader role).0 said)

-- a course that begins from the newest plan, once the one before is over
pub begun_after : (n m : NetValue) (old plan : List PlanRange) (r : Result Answer AllocError) → old ≡ (newest_of n).new → IsDoneIn n → IsCourseIn n old plan r m → IsBeginIn n plan r m
begun_after n m old plan (Ok (Begun number parts)) e done h = (done, subst (λ o. IsCourseIn n o plan (Ok (Begun number parts)) m) e h)
begun_after n m old plan (Ok (Refused NoNumber)) e done h = (done, subst (λ o. IsCourseIn n o plan (Ok (Refused NoNumber)) m) e h)
begun_after n m old plan (Ok answer) e done h = absurd h
begun_after n m old plan (Err x) e done h = h

-- room that was made changes nothing
pub kept : (n m : NetValue) (courses : List Change) (ended : List ℕ) (peers : List PeerValue) → m ≡ record n { courses = courses; ended = ended; peers = peers } → courses ≡ n.courses → ended ≡ n.ended → peers ≡ n.peers → m ≡ n
kept n m courses ended peers is same-courses same-ended same-peers = is ∙ λ i. record n { courses = same-courses i; ended = same-ended i; peers = same-peers i }

-- what stands in a list as it was is noted
pub noted_from : (peers more all : List PeerValue) (from : ℕ) (places seen : List (Option ℕ)) → AreNoted peers places → all ≡ peers ++ more → from ≡ length peers → seen ≡ places → AreNoted (take from all) seen
noted_from peers more all from places seen noted all-is from-is seen-is =
    let front : take from all ≡ peers = (λ i. take (from-is i) (all-is i)) ∙ take-append_seam peers more in
    subst (λ (ps : List PeerValue). AreNoted ps seen) (sym front) (subst (AreNoted peers) (sym seen-is) noted)

-- how many partitions there are
pub counted : (all peers more : List PeerValue) (q : PeerValue) (size kept routers : ℕ) → all ≡ set peers 0 q ++ more → routers < length peers → size ≡ length all → kept ≡ routers
    → (1 ≤ size) × (kept ≤ size - 1) × (size - 1 - kept + routers + 1 ≡ length all)
counted all peers more q size kept routers is room len same =
    let total : length all ≡ length peers + length more = ap (λ (ps : List PeerValue). length ps) is ∙ length-append (set peers 0 q) more ∙ ap (λ (k : ℕ). k + length more) (length-set peers 0 q) in
    (omega arith, omega arith, omega arith)

-- a leader that refused to begin is as it was
pub not_begun : (peer q : PeerValue) (old plan : List PlanRange) (report : ReportKind PlanPair) (f : LeaderFault) → Begins peer old plan report (Err f) q → q ≡ peer
not_begun peer q old plan report f begins = begins.3

module _ (n : NetValue) (old plan : List PlanRange) (peer q : PeerValue) (is : IsNet n) (read : peer ≡ get_or n.peers 0 peer) (report : ReportKind PlanPair) (c : Change) (begins : Begins peer old plan report (Ok c) q) where
  -- neither the leader before nor the leader after is a partition
  same_places : (p : ℕ) → position (is_part_peer p) (set n.peers 0 q) ≡ position (is_part_peer p) n.peers
  same_places p =
      let before : is_part_peer p peer ≡ false = ap (is_part_role p) begins.2 in
      let after : is_part_peer p q ≡ false = ap (is_part_peer p) begins.5 in
      let lens = position_or_len-set (is_part_peer p) n.peers 0 q peer (after ∙ sym before ∙ ap (is_part_peer p) read) in
      λ i. cond (ltb (lens i) (length-set n.peers 0 q i)) (Some (lens i)) None

  -- so that the notes hold
  pub still_noted : AreNoted (set n.peers 0 q) n.places
  still_noted = record { length = is.placed.length; each = λ p lt. is.placed.each p lt ∙ ap Some (sym (same_places p)) }

  -- the course is begun
  pub is_begun : (m : NetValue) (parts : List PeerValue) (number opened count : ℕ) → parts ≡ part_peers (first_of n) (named_first n plan) → AreRoles parts
      → report ≡ Issued number (plan_pair old plan) → number ≡ (newest_of n).number + 1
      → ((a : LeaderValue) → peer.role ≡ LeaderRole a → opened ≡ a.opened) → m.courses ≡ n.courses ++ c ∷ [] → m.ended ≡ n.ended ++ opened ∷ [] → m.peers ≡ set n.peers 0 q ++ parts → AreNoted m.peers m.places → m.routers ≡ n.routers → m.messages ≡ n.messages → m.chunks ≡ n.chunks
      → count + n.routers + 1 ≡ length m.peers → IsCourseIn n old plan (Ok (Begun number count)) m
  is_begun m parts number opened count nodes valid report-is number-is opened-is courses ended peers noted routers messages chunks counted = (
    peer,
    a,
    b,
    c,
    has,
    begins.3,
    begins.4,
    number-c,
    counted,
    record {
      courses = courses;
      ended = ended ∙ ap (λ v. n.ended ++ v ∷ []) (opened-is a begins.2);
      peers = peers ∙ λ i. (ap (set n.peers 0) q-is ∙ put_is 0 (reported 0 peer (LeaderRole b) (issue_report c)) n.peers) i ++ nodes i;
      valid = subst AreRoles nodes valid;
      placed = record { length = noted.length; each = noted.each };
      routers = routers;
      messages = messages;
      chunks = chunks;
    },
  )
    where
      a : LeaderValue
      a = begins.0

      b : LeaderValue
      b = begins.1

      has : HasLeader n peer a
      has = record { there = leader_there n peer is read; role = begins.2 }

      newest : ((newest_of n).new ≡ a.plan) × ((newest_of n).number ≡ a.last)
      newest = (leader_is n peer is read a begins.2).course (newest_of n) (leader_course n peer is read a begins.2)

      c-is : c ≡ course_from a old plan
      c-is = begins.3.1

      number-a : number ≡ a.last + 1
      number-a = number-is ∙ ap (λ (k : ℕ). k + 1) newest.1

      number-c : number ≡ c.number
      number-c = number-a ∙ sym (ap (λ (d : Change). d.number) c-is)

      own : report ≡ issue_report c
      own = report-is ∙ (λ i. Issued (number-a i) (plan_pair old plan)) ∙ ap (λ (d : Change). issue_report d) (sym c-is)

      q-is : q ≡ reported 0 peer (LeaderRole b) (issue_report c)
      q-is = begins.5 ∙ ap (λ (x : ReportKind PlanPair). reported 0 peer (LeaderRole b) x) own
