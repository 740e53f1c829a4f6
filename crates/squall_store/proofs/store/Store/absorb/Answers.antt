use Rattle.std.proofs.Common.{subst, OnOk}
use Rattle.squall_board.specs.Takes.{TakesBoard}
use Rattle.squall_store.proofs.store.Store.absorb.Goals as goal

pub returns-clause-takes : goal.returns-clause-takes
returns-clause-takes g c =
    subst (λ s. OnOk c.absorb.result (TakesBoard s.part.board c.args.delta.now c.absorb.new.self.board)) c.self.view_is c.absorb.ensures.takes
