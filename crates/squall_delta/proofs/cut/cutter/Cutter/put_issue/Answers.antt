use Rattle.std.proofs.lemmas.Result.{err_from_is_err_and}
use Rattle.squall_delta.specs.declared.cut.fault.CutFault.TheVariants.{TooLong}
use Rattle.squall_delta.proofs.Slices.{passed_on}
use Rattle.std.proofs.Common.{ℕ, true, arith, ◌+◌, ◌∙◌}
use Rattle.std.specs.Arc.{arc_value}
use Rattle.squall_join.specs.Flats.{flat_map}
use Rattle.squall_join.specs.declared.flat.Flat.{Flat}
use Rattle.squall_report.specs.Issues.{PlanPair}
use Rattle.squall_board.specs.Listed.{issues_of}
use Rattle.squall_delta.specs.Items.{issue}
use Rattle.squall_delta.specs.PieceStepLaws.{fed_step, measured_step, fits_alone, not_alone, issue_cost_alone, issue_costs, some_issue}
use Rattle.squall_delta.proofs.cut.cutter.Cutter.put_issue.Goals as goal

pub returns-clause-measured : goal.returns-clause-measured
returns-clause-measured c =
    let e : ℕ × Flat PlanPair = (c.args.number, flat_map arc_value c.args.issue.now) in
    measured_step c.args.self.now.most c.make_room.new.self.most c.args.self.now.finished.items c.make_room.new.self.finished.items c.args.self.now.piece c.make_room.new.self.piece c.put_issue.new.self (issue e) c.args.self.now.length c.bytes_with_count.result c.make_room.new.self.length c.bytes_with_count-2.result c.make_room.new.self.has_issues true c.make_room.new.self.last c.make_room.new.self.last
    c.args.self.now.short c.in_ok-make_room.ensures.fed c.requires.measured.length (c.bytes_with_count.ensures ∙ issue_costs c.args.self.now.piece e c.args.self.now.has_issues c.issue_bytes-bytes.result c.requires.measured.issues c.issue_bytes-bytes.ensures.bytes) c.requires.next c.in_ok-put_issue.ensures.takes.joined c.in_ok-make_room.ensures.measured
    (c.bytes_with_count-2.ensures ∙ issue_costs c.make_room.new.self.piece e c.make_room.new.self.has_issues c.issue_bytes-bytes.result c.in_ok-make_room.ensures.measured.issues c.issue_bytes-bytes.ensures.bytes) (fits_alone c.args.self.now.most (c.issue_bytes-bytes.result + 4) (issue e) c.requires.next.within.0 (issue_cost_alone e c.issue_bytes-bytes.result c.issue_bytes-bytes.ensures.bytes) c.in_ok-look.ensures.room) (some_issue (issues_of c.make_room.new.self.piece) e) c.in_ok-make_room.ensures.measured.last

pub returns-clause-fed : goal.returns-clause-fed
returns-clause-fed c =
    let e : ℕ × Flat PlanPair = (c.args.number, flat_map arc_value c.args.issue.now) in
    fed_step c.args.self.now.most c.make_room.new.self.most c.args.self.now.finished.items c.make_room.new.self.finished.items c.args.self.now.piece c.make_room.new.self.piece c.put_issue.new.self (issue e) c.args.self.now.length c.bytes_with_count.result c.in_ok-make_room.ensures.fed c.requires.measured.length (c.bytes_with_count.ensures ∙ issue_costs c.args.self.now.piece e c.args.self.now.has_issues c.issue_bytes-bytes.result c.requires.measured.issues c.issue_bytes-bytes.ensures.bytes) c.requires.next c.in_ok-put_issue.ensures.takes.joined (fits_alone c.args.self.now.most (c.issue_bytes-bytes.result + 4) (issue e) c.requires.next.within.0 (issue_cost_alone e c.issue_bytes-bytes.result c.issue_bytes-bytes.ensures.bytes) c.in_ok-look.ensures.room)

pub returns-in_err-look-clause-long : goal.returns-in_err-look-clause-long
returns-in_err-look-clause-long c = λ e.
    let p = err_from_is_err_and c.from_residual.result c.from_residual.ensures.1 in
    let i : ℕ × Flat PlanPair = (c.args.number, flat_map arc_value c.args.issue.now) in
    not_alone c.args.self.now.most (c.issue_bytes-bytes.result + 4) (issue i) c.requires.next.within.0 (issue_cost_alone i c.issue_bytes-bytes.result c.issue_bytes-bytes.ensures.bytes) (c.look.ensures.long (passed_on c.look.result c.from_residual.result c.in_err-look.field-0.0 p.0 TooLong c.in_err-look.was p.1 p.2 e)) (omega (arith, c.issue_bytes-bytes.ensures.few))
