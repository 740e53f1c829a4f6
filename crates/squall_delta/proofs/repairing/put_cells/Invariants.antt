use Rattle.std.proofs.Common.{◌≡◌, drop}
use Rattle.squall_delta.specs.Kept.{with_lacking_cells}
use Rattle.squall_delta.proofs.repairing.put_cells.Given as goal

abbrev pub invariant-loop-entry : goal.invariant-loop-entry
invariant-loop-entry l = with_lacking_cells l.digest l.delta (drop l.entry-index l.numbers) ≡ with_lacking_cells l.digest l.fn.delta l.numbers
