use Rattle.std.proofs.lemmas.Result.{err_from_is_err_and}
use Rattle.squall_delta.specs.declared.cut.fault.CutFault.TheVariants.{TooLong}
use Rattle.squall_delta.proofs.Slices.{passed_on}
use Rattle.std.proofs.Common.{refl, arith}
use Rattle.squall_delta.specs.Items.{opening}
use Rattle.squall_delta.specs.PieceStepLaws.{fed_step, measured_step, fits_alone, not_alone}
use Rattle.squall_delta.proofs.cut.cutter.Cutter.put_opening.Goals as goal

pub returns-clause-measured : goal.returns-clause-measured
returns-clause-measured c = measured_step c.args.self.now.most c.make_room.new.self.most c.args.self.now.finished.items c.make_room.new.self.finished.items c.args.self.now.piece c.make_room.new.self.piece c.put_opening.new.self (opening c.args.opening.now) c.args.self.now.length 8 c.make_room.new.self.length 8 c.make_room.new.self.has_issues c.make_room.new.self.has_issues c.make_room.new.self.last c.make_room.new.self.last
    c.args.self.now.short c.in_ok-make_room.ensures.fed c.requires.measured.length refl c.requires.next c.in_ok-put_opening.ensures.takes.joined c.in_ok-make_room.ensures.measured refl (fits_alone c.args.self.now.most 8 (opening c.args.opening.now) c.requires.next.within.0 refl c.in_ok-look.ensures.room) c.in_ok-make_room.ensures.measured.issues c.in_ok-make_room.ensures.measured.last

pub returns-clause-fed : goal.returns-clause-fed
returns-clause-fed c = fed_step c.args.self.now.most c.make_room.new.self.most c.args.self.now.finished.items c.make_room.new.self.finished.items c.args.self.now.piece c.make_room.new.self.piece c.put_opening.new.self (opening c.args.opening.now) c.args.self.now.length 8 c.in_ok-make_room.ensures.fed c.requires.measured.length refl c.requires.next c.in_ok-put_opening.ensures.takes.joined (fits_alone c.args.self.now.most 8 (opening c.args.opening.now) c.requires.next.within.0 refl c.in_ok-look.ensures.room)

pub returns-in_err-look-clause-long : goal.returns-in_err-look-clause-long
returns-in_err-look-clause-long c = λ e.
    let p = err_from_is_err_and c.from_residual.result c.from_residual.ensures.1 in
    not_alone c.args.self.now.most 8 (opening c.args.opening.now) c.requires.next.within.0 refl (c.look.ensures.long (passed_on c.look.result c.from_residual.result c.in_err-look.field-0.0 p.0 TooLong c.in_err-look.was p.1 p.2 e)) (omega arith)
