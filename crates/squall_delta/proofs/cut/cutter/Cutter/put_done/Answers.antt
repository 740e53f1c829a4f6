use Rattle.std.proofs.lemmas.Result.{err_from_is_err_and}
use Rattle.squall_delta.specs.declared.cut.fault.CutFault.TheVariants.{TooLong}
use Rattle.squall_delta.proofs.Slices.{passed_on}
use Rattle.std.proofs.Common.{refl, arith, Some, ap, ◌+◌, ◌∙◌, [], ◌∷◌}
use Rattle.squall_board.specs.Boards.{board_join, report_board}
use Rattle.squall_delta.specs.Items.{done}
use Rattle.squall_delta.specs.PieceStepLaws.{fed_step, measured_step, fits_alone, not_alone, done_costs, done_last, next_room}
use Rattle.squall_delta.proofs.cut.cutter.Cutter.put_done.Goals as goal

pub returns-clause-measured : goal.returns-clause-measured
returns-clause-measured c =
    let next = next_room c.args.self.now.most c.make_room.new.self.most c.args.self.now.finished.items c.make_room.new.self.finished.items c.args.self.now.piece c.make_room.new.self.piece (c.args.self.now.length + 17) (done c.args.place ∷ []) c.in_ok-make_room.ensures.fed c.requires.next in
    measured_step c.args.self.now.most c.make_room.new.self.most c.args.self.now.finished.items c.make_room.new.self.finished.items c.args.self.now.piece c.make_room.new.self.piece c.take.new.self (done c.args.place) c.args.self.now.length 17 c.make_room.new.self.length 17 c.make_room.new.self.has_issues c.make_room.new.self.has_issues c.make_room.new.self.last (Some c.args.place)
    c.args.self.now.short c.in_ok-make_room.ensures.fed c.requires.measured.length (done_costs c.args.self.now.piece c.args.place c.requires.next) c.requires.next (c.in_ok-take.ensures.takes.joined ∙ ap (λ r. board_join c.make_room.new.self.piece (report_board r)) c.completion-report.ensures) c.in_ok-make_room.ensures.measured (done_costs c.make_room.new.self.piece c.args.place next) (fits_alone c.args.self.now.most 17 (done c.args.place) c.requires.next.within.0 refl c.in_ok-look.ensures.room) c.in_ok-make_room.ensures.measured.issues (done_last c.make_room.new.self.piece c.args.place next)

pub returns-clause-fed : goal.returns-clause-fed
returns-clause-fed c = fed_step c.args.self.now.most c.make_room.new.self.most c.args.self.now.finished.items c.make_room.new.self.finished.items c.args.self.now.piece c.make_room.new.self.piece c.take.new.self (done c.args.place) c.args.self.now.length 17 c.in_ok-make_room.ensures.fed c.requires.measured.length (done_costs c.args.self.now.piece c.args.place c.requires.next) c.requires.next (c.in_ok-take.ensures.takes.joined ∙ ap (λ r. board_join c.make_room.new.self.piece (report_board r)) c.completion-report.ensures) (fits_alone c.args.self.now.most 17 (done c.args.place) c.requires.next.within.0 refl c.in_ok-look.ensures.room)

pub returns-in_err-look-clause-long : goal.returns-in_err-look-clause-long
returns-in_err-look-clause-long c = λ e.
    let p = err_from_is_err_and c.from_residual.result c.from_residual.ensures.1 in
    not_alone c.args.self.now.most 17 (done c.args.place) c.requires.next.within.0 refl (c.look.ensures.long (passed_on c.look.result c.from_residual.result c.in_err-look.field-0.0 p.0 TooLong c.in_err-look.was p.1 p.2 e)) (omega arith)
