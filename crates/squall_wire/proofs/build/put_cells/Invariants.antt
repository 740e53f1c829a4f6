use Rattle.std.proofs.Common.{◌≡◌}
use Rattle.std.specs.Vec.Iter.{into_iter_items}
use Rattle.squall_wire.specs.BoardOf.{with_cells}
use Rattle.squall_wire.proofs.build.put_cells.Given as goal

abbrev pub invariant-loop-cell : goal.invariant-loop-cell
invariant-loop-cell l = with_cells l.board (into_iter_items l.cell-iterator) ≡ with_cells l.fn.board l.fn.cells.items
