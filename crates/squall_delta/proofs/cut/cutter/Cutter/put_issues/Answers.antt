use Rattle.std.proofs.lemmas.Result.{err_from_is_err_and}
use Rattle.squall_delta.specs.declared.cut.fault.CutFault.TheVariants.{TooLong}
use Rattle.squall_delta.proofs.Slices.{passed_on}
use Rattle.std.proofs.Common.{map, [], ◌∷◌, ◌+◌, drop}
use Rattle.std.specs.Arc.{arc_value}
use Rattle.squall_join.specs.Flats.{flat_map}
use Rattle.squall_delta.specs.Items.{issue}
use Rattle.squall_delta.specs.Cutting.{cut_with}
use Rattle.squall_delta.specs.PieceStepLaws.{feeding_starts, feeding_ends, feeding_next, feeding_on, feeding_long, left_map, none_left_map}
use Rattle.squall_delta.proofs.cut.cutter.Cutter.put_issues.Goals as goal

pub loop-entry-init : goal.loop-entry-init
loop-entry-init c = record { measured = c.requires.measured; feeding = feeding_starts (cut_with c.args.self.now.most c.args.self.now.finished.items c.args.self.now.piece) (map (λ e. issue (e.0, flat_map arc_value e.1)) c.args.issues.now) c.requires.next }

pub put_issue-requires-clause-measured : goal.put_issue-requires-clause-measured
put_issue-requires-clause-measured c = c.loop-entry.invariant.measured

pub put_issue-requires-clause-next : goal.put_issue-requires-clause-next
put_issue-requires-clause-next c = feeding_next (cut_with c.args.self.now.most c.args.self.now.finished.items c.args.self.now.piece) (cut_with c.loop-entry.self.most c.loop-entry.self.finished.items c.loop-entry.self.piece) (map (λ e. issue (e.0, flat_map arc_value e.1)) c.args.issues.now) (map (λ e. issue (e.0, flat_map arc_value e.1)) (drop c.loop-entry.entry-index c.args.issues.now)) (issue (c.entry-item.result.0, flat_map arc_value c.entry-item.result.1) ∷ []) (map (λ e. issue (e.0, flat_map arc_value e.1)) (drop (c.loop-entry.entry-index + 1) c.args.issues.now))
    (left_map (λ e. issue (e.0, flat_map arc_value e.1)) c.args.issues.now c.loop-entry.entry-index c.entry-item.result c.loop-entry-test.true c.entry-item.is) c.loop-entry.invariant.feeding

pub loop-entry-preserved : goal.loop-entry-preserved
loop-entry-preserved c = record {
  measured = c.in_ok-put_issue.ensures.measured;
  feeding = feeding_on (cut_with c.args.self.now.most c.args.self.now.finished.items c.args.self.now.piece) (cut_with c.loop-entry.self.most c.loop-entry.self.finished.items c.loop-entry.self.piece) (cut_with c.put_issue.new.self.most c.put_issue.new.self.finished.items c.put_issue.new.self.piece) (map (λ e. issue (e.0, flat_map arc_value e.1)) c.args.issues.now) (map (λ e. issue (e.0, flat_map arc_value e.1)) (drop c.loop-entry.entry-index c.args.issues.now)) (issue (c.entry-item.result.0, flat_map arc_value c.entry-item.result.1) ∷ []) (map (λ e. issue (e.0, flat_map arc_value e.1)) (drop (c.loop-entry.entry-index + 1) c.args.issues.now))
      (left_map (λ e. issue (e.0, flat_map arc_value e.1)) c.args.issues.now c.loop-entry.entry-index c.entry-item.result c.loop-entry-test.true c.entry-item.is) c.in_ok-put_issue.ensures.fed c.loop-entry.invariant.feeding;
}

pub returns-clause-measured : goal.returns-clause-measured
returns-clause-measured c = c.loop-entry.invariant.measured

pub returns-clause-fed : goal.returns-clause-fed
returns-clause-fed c = feeding_ends (cut_with c.args.self.now.most c.args.self.now.finished.items c.args.self.now.piece) (cut_with c.loop-entry.self.most c.loop-entry.self.finished.items c.loop-entry.self.piece) (map (λ e. issue (e.0, flat_map arc_value e.1)) c.args.issues.now) (map (λ e. issue (e.0, flat_map arc_value e.1)) (drop c.loop-entry.entry-index c.args.issues.now)) (none_left_map (λ e. issue (e.0, flat_map arc_value e.1)) c.args.issues.now c.loop-entry.entry-index c.loop-entry-test.false) c.loop-entry.invariant.feeding

pub returns-in_err-put_issue-clause-long : goal.returns-in_err-put_issue-clause-long
returns-in_err-put_issue-clause-long c = λ e.
    let p = err_from_is_err_and c.from_residual.result c.from_residual.ensures.1 in
    feeding_long (cut_with c.args.self.now.most c.args.self.now.finished.items c.args.self.now.piece) (cut_with c.loop-entry.self.most c.loop-entry.self.finished.items c.loop-entry.self.piece) (map (λ e. issue (e.0, flat_map arc_value e.1)) c.args.issues.now) (map (λ e. issue (e.0, flat_map arc_value e.1)) (drop c.loop-entry.entry-index c.args.issues.now)) (issue (c.entry-item.result.0, flat_map arc_value c.entry-item.result.1) ∷ []) (map (λ e. issue (e.0, flat_map arc_value e.1)) (drop (c.loop-entry.entry-index + 1) c.args.issues.now))
    (left_map (λ e. issue (e.0, flat_map arc_value e.1)) c.args.issues.now c.loop-entry.entry-index c.entry-item.result c.loop-entry-test.true c.entry-item.is) (c.put_issue.ensures.long (passed_on c.put_issue.result c.from_residual.result c.in_err-put_issue.field-0.0 p.0 TooLong c.in_err-put_issue.was p.1 p.2 e)) c.loop-entry.invariant.feeding
