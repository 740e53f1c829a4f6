use Rattle.std.proofs.Common.{ap, rules}
use Rattle.squall_part.specs.Giving.{IsGiven}
use Rattle.squall_world.specs.Nets.{NetValue}
use Rattle.squall_world.proofs.Standing.{part_peer}
use Rattle.squall_world.proofs.Demands.{put_in, given, give_refused}
use Rattle.squall_world.proofs.net.Net.give.Goals as goal

pub give-requires : goal.give-requires
give-requires c = part_peer c.args.self.now c.args.part c.in-Some.at c.index_mut.result.now (search rules) (search rules)

pub returns-in-Ok : goal.returns-in-Ok
returns-in-Ok c =
    let put = ap (λ (n : NetValue). put_in n c.in-Some.at c.give.new.self c.gave.new.chunks.items) c.self.view_is in
    let done = given c.args.self.now _ c.args.part c.in-Some.at c.index_mut.result.now c.give.new.self c.gave.new.chunks.items put (search rules) (search rules) (λ a r b. IsGiven a c.args.max r b) _ c.in-Ok.chunk (search rules) c.in-Ok.ensures (search rules) in
    rw c.gave.ensures.answer done

pub returns-in-Err : goal.returns-in-Err
returns-in-Err c =
    let put = ap (λ (n : NetValue). put_in n c.in-Some.at c.give.new.self c.reserve.new.self.items) c.self.view_is in
    give_refused c.args.self.now _ c.args.part c.in-Some.at c.index_mut.result.now c.give.new.self c.reserve.new.self.items put (search rules) (search rules) c.args.max c.in-Err.fault c.not_given.result c.not_given.ensures c.in-Err.ensures (search rules)
