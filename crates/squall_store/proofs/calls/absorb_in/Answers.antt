use Rattle.std.proofs.Common.{subst}
use Rattle.squall_part.specs.Parts.{IsPart}
use Rattle.squall_store.proofs.Called.{absorbed, anyhow}
use Rattle.squall_store.proofs.calls.absorb_in.Goals as goal

pub returns : goal.returns
returns g c =
    absorbed g.D.Rows.run g.D.Rows.row_of c.absorb-absorbed.result c.args.store.now.part c.absorb-absorbed.new.self.part c.args.store.now.rows c.absorb-absorbed.new.self.rows c.args.delta.now c.absorb-absorbed.ensures.rows
    c.absorb-absorbed.ensures.takes c.absorb-absorbed.ensures.same c.absorb-absorbed.ensures.closed c.absorb-absorbed.ensures.given c.absorb-absorbed.ensures.loaded (anyhow c.absorb-absorbed.result (subst IsPart c.part.ensures c.known.ensures))
