use Rattle.std.proofs.Common.{◌≡◌, drop}
use Rattle.squall_delta.specs.Kept.{with_lacking_rows}
use Rattle.squall_delta.proofs.repairing.put_rows.Given as goal

abbrev pub invariant-loop-entry : goal.invariant-loop-entry
invariant-loop-entry l = with_lacking_rows l.digest l.number l.delta (drop l.entry-index l.subs) ≡ with_lacking_rows l.digest l.number l.fn.delta l.subs
