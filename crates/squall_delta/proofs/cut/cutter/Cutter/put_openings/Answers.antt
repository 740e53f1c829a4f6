use Rattle.std.proofs.lemmas.Result.{err_from_is_err_and}
use Rattle.squall_delta.specs.declared.cut.fault.CutFault.TheVariants.{TooLong}
use Rattle.squall_delta.proofs.Slices.{passed_on}
use Rattle.std.proofs.Common.{map, [], ◌∷◌, ◌+◌, drop, slice_index_or}
use Rattle.squall_board.specs.declared.opening.Opening.{Opening}
use Rattle.squall_delta.specs.Items.{opening}
use Rattle.squall_delta.specs.Cutting.{cut_with}
use Rattle.squall_delta.specs.PieceStepLaws.{feeding_starts, feeding_ends, feeding_next, feeding_on, feeding_long, left_first, none_left_map}
use Rattle.squall_delta.proofs.cut.cutter.Cutter.put_openings.Goals as goal

pub loop-opening-init : goal.loop-opening-init
loop-opening-init c = record { measured = c.requires.measured; feeding = feeding_starts (cut_with c.args.self.now.most c.args.self.now.finished.items c.args.self.now.piece) (map opening c.args.openings.now) c.requires.next }

pub put_opening-requires-clause-measured : goal.put_opening-requires-clause-measured
put_opening-requires-clause-measured c = c.loop-opening.invariant.measured

pub put_opening-requires-clause-next : goal.put_opening-requires-clause-next
put_opening-requires-clause-next c =
    let o : Opening = slice_index_or c.args.openings.now c.loop-opening.opening-index (record { number = 0; count = 0 }) in
    feeding_next (cut_with c.args.self.now.most c.args.self.now.finished.items c.args.self.now.piece) (cut_with c.loop-opening.self.most c.loop-opening.self.finished.items c.loop-opening.self.piece) (map opening c.args.openings.now) (map opening (drop c.loop-opening.opening-index c.args.openings.now)) (opening o ∷ []) (map opening (drop (c.loop-opening.opening-index + 1) c.args.openings.now))
    (left_first opening c.args.openings.now c.loop-opening.opening-index (record { number = 0; count = 0 }) c.loop-opening-test.true) c.loop-opening.invariant.feeding

pub loop-opening-preserved : goal.loop-opening-preserved
loop-opening-preserved c =
    let o : Opening = slice_index_or c.args.openings.now c.loop-opening.opening-index (record { number = 0; count = 0 }) in
    record {
      measured = c.in_ok-put_opening.ensures.measured;
      feeding = feeding_on (cut_with c.args.self.now.most c.args.self.now.finished.items c.args.self.now.piece) (cut_with c.loop-opening.self.most c.loop-opening.self.finished.items c.loop-opening.self.piece) (cut_with c.put_opening.new.self.most c.put_opening.new.self.finished.items c.put_opening.new.self.piece) (map opening c.args.openings.now) (map opening (drop c.loop-opening.opening-index c.args.openings.now)) (opening o ∷ []) (map opening (drop (c.loop-opening.opening-index + 1) c.args.openings.now))
          (left_first opening c.args.openings.now c.loop-opening.opening-index (record { number = 0; count = 0 }) c.loop-opening-test.true) c.in_ok-put_opening.ensures.fed c.loop-opening.invariant.feeding;
    }

pub returns-clause-measured : goal.returns-clause-measured
returns-clause-measured c = c.loop-opening.invariant.measured

pub returns-clause-fed : goal.returns-clause-fed
returns-clause-fed c = feeding_ends (cut_with c.args.self.now.most c.args.self.now.finished.items c.args.self.now.piece) (cut_with c.loop-opening.self.most c.loop-opening.self.finished.items c.loop-opening.self.piece) (map opening c.args.openings.now) (map opening (drop c.loop-opening.opening-index c.args.openings.now)) (none_left_map opening c.args.openings.now c.loop-opening.opening-index c.loop-opening-test.false) c.loop-opening.invariant.feeding

pub returns-in_err-put_opening-clause-long : goal.returns-in_err-put_opening-clause-long
returns-in_err-put_opening-clause-long c = λ e.
    let p = err_from_is_err_and c.from_residual.result c.from_residual.ensures.1 in
    let o : Opening = slice_index_or c.args.openings.now c.loop-opening.opening-index (record { number = 0; count = 0 }) in
    feeding_long (cut_with c.args.self.now.most c.args.self.now.finished.items c.args.self.now.piece) (cut_with c.loop-opening.self.most c.loop-opening.self.finished.items c.loop-opening.self.piece) (map opening c.args.openings.now) (map opening (drop c.loop-opening.opening-index c.args.openings.now)) (opening o ∷ []) (map opening (drop (c.loop-opening.opening-index + 1) c.args.openings.now))
    (left_first opening c.args.openings.now c.loop-opening.opening-index (record { number = 0; count = 0 }) c.loop-opening-test.true) (c.put_opening.ensures.long (passed_on c.put_opening.result c.from_residual.result c.in_err-put_opening.field-0.0 p.0 TooLong c.in_err-put_opening.was p.1 p.2 e)) c.loop-opening.invariant.feeding
