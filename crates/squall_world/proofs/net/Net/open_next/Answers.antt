use Rattle.std.proofs.Common.{ap, rules}
use Rattle.squall_world.specs.Nets.{NetValue}
use Rattle.squall_world.proofs.Demands.{put_in}
use Rattle.squall_world.proofs.Leader.{opened, open_refused}
use Rattle.squall_world.proofs.net.Net.open_next.Goals as goal
use Rattle.squall_world.proofs.net.Net.open_next.Goals.{in-Ok, in-Err}

pub returns : goal.returns
returns c =
    let put = ap (λ (n : NetValue). put_in n 0 c.open_next.new.self n.chunks) c.self.view_is in
    elim c.match-open_next.branch [
      | in-Ok w ↦ rw w.result-is (opened c.args.self.now _ c.index_mut.result.now c.open_next.new.self c.requires put (search rules) w.in-Ok.sub w.in-Ok.ensures)
      | in-Err w ↦ rw w.result-is (open_refused c.args.self.now _ c.index_mut.result.now c.open_next.new.self c.requires put (search rules) w.in-Err.fault _ w.not_opened.ensures w.in-Err.ensures)
    ]
