use Rattle.std.proofs.Common.{map, length}
use Rattle.squall_delta.specs.Items.{loaded}
use Rattle.squall_delta.specs.Cutting.{IsMeasured, cut_with}
use Rattle.squall_delta.specs.PieceStepLaws.{IsFeeding}
use Rattle.squall_delta.proofs.cut.cutter.Cutter.put_runs.Given as goal

abbrev pub invariant-loop-rest : goal.invariant-loop-rest
invariant-loop-rest l = record {
  measured : IsMeasured l.self.piece l.self.length l.self.has_issues l.self.last;
  feeding : IsFeeding (cut_with l.fn.self.most l.fn.self.finished.items l.fn.self.piece) (cut_with l.self.most l.self.finished.items l.self.piece) (map (loaded l.place) l.spans) (map (loaded l.place) l.rest);
}

abbrev pub decreases-loop-rest : goal.decreases-loop-rest
decreases-loop-rest l = length l.rest
