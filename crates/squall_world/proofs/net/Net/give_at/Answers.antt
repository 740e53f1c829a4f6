use Rattle.std.proofs.Common.{ap, rules}
use Rattle.squall_part.specs.Giving.{IsGivenAt}
use Rattle.squall_world.specs.Nets.{NetValue}
use Rattle.squall_world.proofs.Standing.{part_peer}
use Rattle.squall_world.proofs.Demands.{put_in, given, give_at_refused}
use Rattle.squall_world.proofs.net.Net.give_at.Goals as goal

pub give_at-requires : goal.give_at-requires
give_at-requires c = part_peer c.args.self.now c.args.part c.in-Some.at c.index_mut.result.now (search rules) (search rules)

pub returns-in-Ok : goal.returns-in-Ok
returns-in-Ok c =
    let put = ap (λ (n : NetValue). put_in n c.in-Some.at c.give_at.new.self c.gave.new.chunks.items) c.self.view_is in
    let done = given c.args.self.now _ c.args.part c.in-Some.at c.index_mut.result.now c.give_at.new.self c.gave.new.chunks.items put (search rules) (search rules) (λ a r b. IsGivenAt a c.args.key r b) _ c.in-Ok.chunk (search rules) c.in-Ok.ensures (search rules) in
    rw c.gave.ensures.answer done

pub returns-in-Err : goal.returns-in-Err
returns-in-Err c =
    let put = ap (λ (n : NetValue). put_in n c.in-Some.at c.give_at.new.self c.reserve.new.self.items) c.self.view_is in
    give_at_refused c.args.self.now _ c.args.part c.in-Some.at c.index_mut.result.now c.give_at.new.self c.reserve.new.self.items put (search rules) (search rules) c.args.key c.in-Err.fault c.not_given.result c.not_given.ensures c.in-Err.ensures (search rules)
