use Rattle.std.specs.Prelude.{◌≡◌, ℕ}
use Rattle.std.proofs.Common.{sym, ap, subst, ◌∙◌}
use Rattle.squall_key.specs.Keys.{top}
use Rattle.squall_table.specs.TableLaws.{one_list}
use Rattle.squall_course.specs.Change.{Change}
use Rattle.squall_report.specs.Facts.{reports_say}
use Rattle.squall_board.specs.CourseRoute.{course_of_reports, route_by_newest}
use Rattle.squall_board.specs.CourseRouteLaws.{taken_route}
use Rattle.squall_wire.specs.declared.message.Message.TheVariants.{Delta}
use Rattle.squall_wire.specs.Messages.{spell}
use Rattle.squall_board.specs.Boards.{BoardValue}
use Rattle.squall_headline.specs.Ways.{reports_of, IsSent}
use Rattle.squall_headline.specs.WayLaws.{has_come_by, same_boards, sent_by_route}
use Rattle.squall_headline.proofs.headline.Goals as goal

pub returns-clause-reports : goal.returns-clause-reports
returns-clause-reports c ws leads = has_come_by ws c.args.a.now leads

pub returns-clause-boards : goal.returns-clause-boards
returns-clause-boards c ws vs f g same = same_boards ws vs c.args.a.now c.args.b.now c.known.ensures.board c.known-2.ensures.board f g same

pub returns-clause-frames : goal.returns-clause-frames
returns-clause-frames c ws vs f g same = ap (λ (b : BoardValue). spell (Delta b)) (same_boards ws vs c.args.a.now c.args.b.now c.known.ensures.board c.known-2.ensures.board f g same)

pub returns-clause-tables : goal.returns-clause-tables
returns-clause-tables c ws vs legs entries first f g same t u =
    let one = c.args.one.now in
    let other = c.args.other.now in
    let boards : one.board ≡ other.board = same_boards ws vs one.board other.board c.known-3.ensures.board c.known-4.ensures.board f g same in
    one_list (route_by_newest one.first one.board) (route_by_newest other.first other.board) 0 top legs entries (λ k from below. ap (λ (x : Change). route_by_newest x one.board k) first ∙ ap (λ (b : BoardValue). route_by_newest other.first b k) boards) t u

pub returns-clause-routes : goal.returns-clause-routes
returns-clause-routes c ws k leads below =
    let one = c.args.one.now in
    let taken = taken_route one.first one.board (reports_of ws) k c.known-3.ensures.board (has_come_by ws one.board leads) in
    subst (λ (part : ℕ). IsSent (course_of_reports one.first (reports_of ws)) (reports_say (reports_of ws)) k part) (sym taken) (sent_by_route (course_of_reports one.first (reports_of ws)) (reports_say (reports_of ws)) k)
