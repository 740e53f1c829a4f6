use Rattle.std.proofs.Common.{◌≡◌, ap, ◌∙◌}
use Rattle.squall_course.specs.Change.{Change}
use Rattle.squall_router.proofs.Newer.{other_is, same_number_stays}
use Rattle.squall_router.proofs.router.Router.other_by_all.Goals as goal

pub returns-then-number_of-number : goal.returns-then-number_of-number
returns-then-number_of-number c =
    let course : c.deref-3.result.now ≡ c.self.inside.course = cc in
    same_number_stays c.args.self.now c.self.inside.first c.deref.result.now c.deref-2.result.now c.self.inside.board c.args.news.now c.in_ok-issues.issues c.number_of.result _ c.self.view_is c.known.ensures.board c.known-2.ensures.board c.known-3.ensures.board c.in_ok-issues.ensures (cc) c.newest-newest.ensures.newest c.number_of.ensures (cc)
    (c.if-number_of-number.true ∙ c.number.ensures.value ∙ ap (λ (x : Change). x.number) (course ∙ c.self.invariant.newest))

pub returns : goal.returns
returns c = other_is c.args.self.now c.self.inside.first c.deref.result.now c.self.inside.board c.args.news.now c.in_ok-issues.issues c.in_ok-course_of.field-0 _ c.self.view_is c.known.ensures.board c.known-2.ensures.board c.known-3.ensures.board c.in_ok-issues.ensures (cc) c.newest-newest.ensures.newest c.in_ok-course_of.ensures
