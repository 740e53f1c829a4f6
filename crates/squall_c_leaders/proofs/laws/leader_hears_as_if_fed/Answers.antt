use Rattle.std.specs.Prelude.{◌≡◌, ℕ, List, [], ◌∷◌, ◌++◌, None, Some}
use Rattle.std.proofs.Common.{sym, ap, subst, ◌∙◌, append-nil}
use Rattle.squall_board.specs.Boards.{BoardValue, IsBoard, board_join}
use Rattle.squall_wire.specs.declared.message.Message.{Message}
use Rattle.squall_wire.specs.declared.message.Message.TheVariants.{Delta, Digest}
use Rattle.squall_wire.specs.Messages.{IsMessage, spell}
use Rattle.squall_wire.specs.Hearing.{FeedValue, IsHeard}
use Rattle.squall_wire.specs.HearingLaws.{spelled_are_heard}
use Rattle.squall_c_frames.specs.JoinedLaws.{join_after}
use Rattle.squall_c_leaders.specs.Nodes.{NodeValue, heard_node, with_leader}
use Rattle.squall_c_leaders.specs.Feeding.{fed_node}
use Rattle.squall_c_leaders.proofs.laws.leader_hears_as_if_fed.Goals as goal

-- what one message leaves, fed alone
fed_alone : (n : NodeValue) (m : Message) → IsBoard n.leader.board → IsMessage m → heard_node n m ≡ fed_node n (m ∷ []) n.feed
fed_alone n (Delta b) is message = ap (λ (x : BoardValue). with_leader n (record n.leader { board = board_join n.leader.board x })) (sym (join_after b message.content))
fed_alone n (Digest d) is message = ap (λ (x : BoardValue). record n { leader = record n.leader { board = x }; heard = Some d }) (sym (join_after n.leader.board is))

pub returns : goal.returns
returns c n m is message e = record {
  messages = m ∷ [];
  feed = n.feed;
  heard = record {
    unended = ap (λ (f : FeedValue). f.failed) e;
    rest = [];
    heard = subst (λ (t : List ℕ). IsHeard t (m ∷ []) None []) (append-nil (spell m) ∙ ap (λ (f : FeedValue). f.waiting ++ spell m) (sym e)) (spelled_are_heard (m ∷ []) (message, tt));
    after = e;
  };
  after = fed_alone n m is message;
}
