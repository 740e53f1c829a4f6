use Rattle.std.proofs.Common.{◌∷◌, ◌++◌, ◌∙◌}
use Rattle.squall_world.proofs.First.{nodes_are, roles_are}
use Rattle.squall_world.proofs.starting.first_nodes.Goals as goal

pub returns-clause-nodes : goal.returns-clause-nodes
returns-clause-nodes c =
    nodes_are c.new-peers.result.items c.push.new.self.items c.add_all.new.peers.items c.add_all-2.new.peers.items c.in_ok-routers.routers.items c.in_ok-parts.parts.items c.args.leader c.new-peers.ensures.items c.in_ok-push.ensures.items c.in_ok-add_all.ensures c.in_ok-add_all-2.ensures
    ∙ λ i. c.args.leader ∷ (c.in_ok-routers.ensures.nodes i ++ c.in_ok-parts.ensures.nodes i)

pub returns-clause-valid : goal.returns-clause-valid
returns-clause-valid c =
    let nodes = nodes_are c.new-peers.result.items c.push.new.self.items c.add_all.new.peers.items c.add_all-2.new.peers.items c.in_ok-routers.routers.items c.in_ok-parts.parts.items c.args.leader c.new-peers.ensures.items c.in_ok-push.ensures.items c.in_ok-add_all.ensures c.in_ok-add_all-2.ensures in
    roles_are c.add_all-2.new.peers.items c.in_ok-routers.routers.items c.in_ok-parts.parts.items c.args.leader nodes c.requires.leader c.in_ok-routers.ensures.valid c.in_ok-parts.ensures.valid
