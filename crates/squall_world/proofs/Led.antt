-- The leader, as it is seen, and after it made a report.
use Rattle.std.proofs.Common.{◌≡◌, length, Some, sym, ap, subst, ◌∙◌}
use Rattle.std.specs.List.{slice_get}
use Rattle.std.proofs.lemmas.Option.{same_Some}
use Rattle.squall_report.specs.declared.report.ReportKind.{ReportKind}
use Rattle.squall_report.specs.Issues.{PlanPair}
use Rattle.squall_board.specs.Boards.{IsBoard, board_join, report_board}
use Rattle.squall_board.specs.BoardQueries.{queries_of}
use Rattle.squall_leader.specs.Leaders.{LeaderValue, IsLeader}
use Rattle.squall_nodes.specs.Standing.{StandsForLeader}
use Rattle.squall_nodes.proofs.Agree.{same_by}
use Rattle.squall_world.specs.declared.peer.Role.TheVariants.{Leader as LeaderRole}
use Rattle.squall_world.specs.Nets.{PeerValue, NetValue, IsNet, IsPeer, IsRole, reported, role_board, newest_of, leader_in}
use Rattle.squall_world.specs.Views.{view, opened_by, opened_in, facts_of}
use Rattle.squall_world.specs.Events.{HasLeader}
use Rattle.squall_world.proofs.Lists.{all_at}
use Rattle.squall_world.proofs.Nodes.{leader_same}
use Rattle.squall_world.proofs.History.{IsMore, history_of, more_reported}
use Rattle.squall_world.proofs.Courses.{last_seen, opened_last}

-- the course by which it goes is the one begun last
pub leads_last : (n : NetValue) (peer : PeerValue) (a : LeaderValue) → IsNet n → HasLeader n peer a → a.course ≡ Some (newest_of n)
leads_last n peer a net has =
    let one : net.led.leader ≡ a = leader_same net.led.leader a (sym net.led.role ∙ ap (λ p. p.role) (same_Some net.led.peer peer (sym net.led.there ∙ has.there)) ∙ has.role) in
    ap (λ l. l.course) (sym one) ∙ net.led.course

-- it stands for the leader of the world
pub leader_stands : (n : NetValue) (peer : PeerValue) (a : LeaderValue) → IsNet n → HasLeader n peer a → StandsForLeader (view n) a
leader_stands n peer a net has = record {
  course = leads_last n peer a net has ∙ ap Some (sym (last_seen n net));
  opened = opened_last n.ended (opened_in (slice_get n.peers 0)) (length n.courses) net.ended ∙ ap opened_in has.there ∙ ap (λ r. opened_by (leader_in r)) has.role;
  told = same_by _ _ (ap facts_of has.there ∙ ap (λ r. queries_of (role_board r)) has.role);
}

-- ---- a report more

-- the leader's node, where it made a report
abbrev pub leader_reports : PeerValue → LeaderValue → ReportKind PlanPair → PeerValue
leader_reports peer b report = reported 0 peer (LeaderRole b) report

pub leader_more : (n : NetValue) (peer : PeerValue) (a b : LeaderValue) (report : ReportKind PlanPair) → IsNet n → HasLeader n peer a → IsLeader b → b.board ≡ board_join a.board (report_board report) → IsBoard (report_board report) → IsMore n.peers 0 peer (leader_reports peer b report)
leader_more n peer a b report net has is joins board =
    more_reported n.peers n.messages 0 peer (LeaderRole b) report (history_of n net) has.there is board (joins ∙ ap (λ r. board_join (role_board r) (report_board report)) (sym has.role))

-- what holds of the leader that is there
pub leader_is : (n : NetValue) (peer : PeerValue) (a : LeaderValue) → IsNet n → HasLeader n peer a → IsLeader a
leader_is n peer a net has = subst IsRole has.role (all_at IsPeer n.peers 0 peer net.peers has.there).role
