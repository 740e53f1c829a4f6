use Rattle.std.proofs.Common.{◌≡◌, drop}
use Rattle.squall_wire.specs.BoardOf.{with_openings}
use Rattle.squall_wire.proofs.build.put_openings.Given as goal

abbrev pub invariant-loop-opening : goal.invariant-loop-opening
invariant-loop-opening l = with_openings l.board (drop l.opening-index l.openings) ≡ with_openings l.fn.board l.openings
