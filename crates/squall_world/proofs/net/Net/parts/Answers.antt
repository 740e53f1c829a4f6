use Rattle.std.proofs.Common.{◌≡◌, length, ap, arith, rules}
use Rattle.squall_world.specs.Nets.{NetValue}
use Rattle.squall_world.proofs.Added.{nodes_counted}
use Rattle.squall_world.proofs.net.Net.parts.Goals as goal

pub returns : goal.returns
returns c =
    let count : c.len.result ≡ length c.args.self.now.peers = search rules in
    let routers = ap (λ (n : NetValue). n.routers) c.self.view_is in
    let all = nodes_counted c.args.self.now c.requires in
    omega (arith, count, routers, all)
