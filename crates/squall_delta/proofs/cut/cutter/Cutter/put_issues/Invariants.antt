use Rattle.std.proofs.Common.{map, drop}
use Rattle.std.specs.Arc.{arc_value}
use Rattle.squall_join.specs.Flats.{flat_map}
use Rattle.squall_delta.specs.Items.{issue}
use Rattle.squall_delta.specs.Cutting.{IsMeasured, cut_with}
use Rattle.squall_delta.specs.PieceStepLaws.{IsFeeding}
use Rattle.squall_delta.proofs.cut.cutter.Cutter.put_issues.Given as goal

abbrev pub invariant-loop-entry : goal.invariant-loop-entry
invariant-loop-entry l = record {
  measured : IsMeasured l.self.piece l.self.length l.self.has_issues l.self.last;
  feeding : IsFeeding (cut_with l.fn.self.most l.fn.self.finished.items l.fn.self.piece) (cut_with l.self.most l.self.finished.items l.self.piece) (map (λ e. issue (e.0, flat_map arc_value e.1)) l.issues) (map (λ e. issue (e.0, flat_map arc_value e.1)) (drop l.entry-index l.issues));
}
