use Rattle.std.proofs.Common.{◌≡◌, drop}
use Rattle.squall_delta.specs.Kept.{with_newer_openings}
use Rattle.squall_delta.proofs.repairing.put_openings.Given as goal

abbrev pub invariant-loop-opening : goal.invariant-loop-opening
invariant-loop-opening l = with_newer_openings l.digest.openings l.delta (drop l.opening-index l.openings) ≡ with_newer_openings l.digest.openings l.fn.delta l.openings
