use Rattle.std.specs.Prelude.{◌≡◌, []}
use Rattle.std.proofs.Common.{sym, ap, subst, ◌∙◌}
use Rattle.squall_board.specs.Boards.{BoardValue, IsBoard}
use Rattle.squall_wire.specs.Hearing.{FeedValue}
use Rattle.squall_c_frames.specs.JoinedLaws.{join_after}
use Rattle.squall_c_leaders.specs.Nodes.{NodeValue}
use Rattle.squall_c_leaders.specs.Feeding.{fed_node}
use Rattle.squall_c_leaders.proofs.node.LeaderNode.wait_on.Goals as goal

-- no message changes no board
waits_on : (n : NodeValue) (new end : FeedValue) → IsBoard n.leader.board → new ≡ end → record n { feed = new } ≡ fed_node n [] end
waits_on n new end is e =
    ap (λ (f : FeedValue). record n { feed = f }) e
    ∙ ap (λ (b : BoardValue). record n { leader = record n.leader { board = b }; feed = end }) (sym (join_after n.leader.board is))

pub returns-clause-waits : goal.returns-clause-waits
returns-clause-waits c =
    let inside = c.self.inside in
    subst (λ (n : NodeValue). record { leader = inside.leader; feed = c.follow.new.self; heard = inside.heard; frames = inside.frames } ≡ fed_node n [] c.args.ahead) c.self.view_is
    (waits_on (record { leader = inside.leader; feed = inside.feed; heard = inside.heard; frames = inside.frames }) c.follow.new.self c.args.ahead c.known.ensures.leader.board c.in_ok-follow.ensures.taken)
