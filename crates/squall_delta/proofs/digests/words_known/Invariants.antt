use Rattle.std.proofs.Common.{take}
use Rattle.std.specs.List.{AllByRecursion}
use Rattle.squall_wire.specs.Fits.{IsWordOpening}
use Rattle.squall_delta.proofs.digests.words_known.Given as goal

abbrev pub invariant-loop-opening : goal.invariant-loop-opening
invariant-loop-opening l = AllByRecursion IsWordOpening (take l.opening-index l.openings)
