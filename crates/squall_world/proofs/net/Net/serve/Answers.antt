use Rattle.std.proofs.Common.{sym, ap, ◌∙◌, rules}
use Rattle.squall_world.specs.Nets.{PeerValue}
use Rattle.squall_world.proofs.Standing.{part_peer, has_part}
use Rattle.squall_world.proofs.net.Net.serve.Goals as goal

pub unreachable-requires : goal.unreachable-requires
unreachable-requires c =
    let r = part_peer c.args.self.now c.args.part c.in-Some.at c.index.result.now (search rules) (search rules) in
    c.in_default-role.not-Part r.part (ap (λ (p : PeerValue). p.role) c.behind-self.view_is ∙ r.role)

pub returns : goal.returns
returns c =
    let role = sym (ap (λ (p : PeerValue). p.role) c.behind-self.view_is) ∙ c.in-Part.is in
    (c.in-Some.at, c.index.result.now, c.in-Part.part, has_part c.args.self.now c.args.part c.in-Some.at c.index.result.now (search rules) (search rules) c.in-Part.part role, c.serve.ensures)
