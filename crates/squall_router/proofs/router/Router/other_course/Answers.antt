use Rattle.std.proofs.Common.{◌≡◌, ◌∙◌, rules}
use Rattle.squall_router.proofs.Newer.{turns_to_news, stays_by_number, stays_without_issues}
use Rattle.squall_router.proofs.router.Router.other_course.Goals as goal

pub returns-then-not-has_issues : goal.returns-then-not-has_issues
returns-then-not-has_issues c = stays_without_issues c.args.self.now c.self.inside.first c.self.inside.board c.args.news.now c.self.view_is c.known.ensures.board c.known-2.ensures.board (c.has_issues.ensures.none (search rules))

pub returns-then-issues_nothing : goal.returns-then-issues_nothing
returns-then-issues_nothing c =
    let course : c.deref-3.result.now ≡ c.self.inside.course = cc in
    turns_to_news c.args.self.now c.self.inside.first c.deref.result.now c.deref-2.result.now c.deref-3.result.now c.self.inside.board c.args.news.now c.number_of-number.result c.number-current.result c.in_ok-course_of.field-0 _ c.self.view_is c.known.ensures.board c.known-2.ensures.board
    (cc) c.newest-newest.ensures.meaning (cc) c.number_of-number.ensures (course ∙ c.self.invariant.newest) c.number-current.ensures.value c.if-current-number.true (c.issues_nothing.ensures c.if-issues_nothing.true) c.in_ok-course_of.ensures

pub returns-then-issues_nothing-2 : goal.returns-then-issues_nothing-2
returns-then-issues_nothing-2 c =
    let course : c.deref-3.result.now ≡ c.self.inside.course = cc in
    stays_by_number c.args.self.now c.self.inside.first c.deref.result.now c.deref-2.result.now c.deref-3.result.now c.self.inside.board c.args.news.now c.number_of-number.result c.number-current.result _ c.self.view_is c.known.ensures.board c.known-2.ensures.board
    (cc) c.newest-newest.ensures.meaning (cc) c.number_of-number.ensures (course ∙ c.self.invariant.newest) c.number-current.ensures.value c.if-number-current.true (c.issues_nothing-then-number-current.ensures c.if-issues_nothing-2.true)
