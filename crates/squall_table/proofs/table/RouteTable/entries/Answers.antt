use Rattle.std.proofs.Common.{sym, subst}
use Rattle.squall_blocks.specs.Entries.{RiseFrom}
use Rattle.squall_table.proofs.Walked.{all_rise}
use Rattle.squall_table.proofs.table.RouteTable.entries.Goals as goal

pub over-requires : goal.over-requires
over-requires c = subst (λ es. RiseFrom c.bottom.result es) (sym c.iter.ensures) (subst (λ n. RiseFrom n c.self.inside.legs) (sym c.bottom.ensures) (all_rise c.self.inside.legs c.self.invariant.0))
