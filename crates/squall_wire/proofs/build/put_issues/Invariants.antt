use Rattle.std.proofs.Common.{◌≡◌, drop}
use Rattle.squall_wire.specs.BoardOf.{with_issues}
use Rattle.squall_wire.proofs.build.put_issues.Given as goal

abbrev pub invariant-loop-item : goal.invariant-loop-item
invariant-loop-item l = with_issues l.board (drop l.item-index l.issues) ≡ with_issues l.fn.board l.issues
