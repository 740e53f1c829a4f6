use Rattle.std.proofs.lemmas.Result.{on_ok_weaker}
use Rattle.squall_board.specs.Takes.{TakesBoard}
use Rattle.squall_c_parts.proofs.hearing.absorb.Goals as goal

pub returns-clause-ok : goal.returns-clause-ok
returns-clause-ok c =
    let e = c.absorb.ensures in
    on_ok_weaker c.absorb.result (λ (takes : TakesBoard c.args.part.now.board c.args.delta.now c.absorb.new.self.board). record { takes = takes; same = e.same; given = e.given; loaded = e.loaded; closed = e.closed }) e.takes
