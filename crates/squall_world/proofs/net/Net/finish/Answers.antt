use Rattle.std.proofs.Common.{ap, rules}
use Rattle.squall_world.specs.Nets.{NetValue}
use Rattle.squall_world.proofs.Standing.{part_peer}
use Rattle.squall_world.proofs.Demands.{put_in, finished, finish_refused}
use Rattle.squall_world.proofs.net.Net.finish.Goals as goal
use Rattle.squall_world.proofs.net.Net.finish.Goals.{in-Ok, in-Err}

pub finish-requires : goal.finish-requires
finish-requires c = part_peer c.args.self.now c.args.part c.in-Some.at c.index_mut.result.now (search rules) (search rules)

pub returns : goal.returns
returns c =
    let put = ap (λ (n : NetValue). put_in n c.in-Some.at c.finish.new.self n.chunks) c.self.view_is in
    elim c.match-finish.branch [
      | in-Ok w ↦ rw w.result-is (finished c.args.self.now _ c.args.part c.args.sub c.in-Some.at c.index_mut.result.now c.finish.new.self put (search rules) (search rules) w.in-Ok.report w.in-Ok.ensures)
      | in-Err w ↦ rw w.result-is (finish_refused c.args.self.now _ c.args.part c.args.sub c.in-Some.at c.index_mut.result.now c.finish.new.self put (search rules) (search rules) w.in-Err.fault _ w.not_finished.ensures w.in-Err.ensures)
    ]
