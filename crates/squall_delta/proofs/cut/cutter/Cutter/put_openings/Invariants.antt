use Rattle.std.proofs.Common.{map, drop}
use Rattle.squall_delta.specs.Items.{opening}
use Rattle.squall_delta.specs.Cutting.{IsMeasured, cut_with}
use Rattle.squall_delta.specs.PieceStepLaws.{IsFeeding}
use Rattle.squall_delta.proofs.cut.cutter.Cutter.put_openings.Given as goal

abbrev pub invariant-loop-opening : goal.invariant-loop-opening
invariant-loop-opening l = record {
  measured : IsMeasured l.self.piece l.self.length l.self.has_issues l.self.last;
  feeding : IsFeeding (cut_with l.fn.self.most l.fn.self.finished.items l.fn.self.piece) (cut_with l.self.most l.self.finished.items l.self.piece) (map opening l.openings) (map opening (drop l.opening-index l.openings));
}
