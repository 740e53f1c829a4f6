use Rattle.squall_router.proofs.Turned.{some_legs}
use Rattle.squall_router.proofs.router.Router.stay.Goals as goal

pub take-table-requires : goal.take-table-requires
take-table-requires c = some_legs _ c.self.inside.table c.self.invariant.table
