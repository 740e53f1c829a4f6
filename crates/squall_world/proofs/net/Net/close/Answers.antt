use Rattle.std.proofs.Common.{ap, rules}
use Rattle.squall_world.specs.Nets.{NetValue}
use Rattle.squall_world.proofs.Standing.{part_peer}
use Rattle.squall_world.proofs.Demands.{put_in, closed}
use Rattle.squall_world.proofs.net.Net.close.Goals as goal

pub close-number-requires : goal.close-number-requires
close-number-requires c = part_peer c.args.self.now c.args.part c.in-Some.at c.index_mut.result.now (search rules) (search rules)

pub returns : goal.returns
returns c =
    let put = ap (λ (n : NetValue). put_in n c.in-Some.at c.close-number.new.self n.chunks) c.self.view_is in
    closed c.args.self.now _ c.args.part c.in-Some.at c.index_mut.result.now c.close-number.new.self put (search rules) (search rules) c.close-number.result c.close-number.ensures
