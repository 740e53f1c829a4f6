use Rattle.std.proofs.Common.{◌≡◌, refl, subst, ◌∙◌}
use Rattle.squall_course.specs.Change.{Change}
use Rattle.squall_table.specs.Tables.{IsTable}
use Rattle.squall_table.specs.Readiness.{Absorbs}
use Rattle.squall_router.proofs.Turned.{stays, absorbed}
use Rattle.squall_router.proofs.router.Router.turn_to.Goals as goal

pub invariant_of-self-2 : goal.invariant_of-self-2
invariant_of-self-2 c =
    let course = c.args.course in
    let a = c.self.inside.board in
    let b = c.merge.new.self in
    let news = c.args.news.now in
    let built : c.deref.result.now ≡ course = cc in
    let prepared : c.deref-2.result.now ≡ course = cc in
    let table = subst (λ (x : Change). IsTable x a c.in_ok-table.table) built c.in_ok-table.ensures.table in
    let absorbs = subst (λ (x : Change). Absorbs x news c.in_ok-table.table c.in-Ok.ready.after) prepared c.in-Ok.ensures.after in
    let joined = c.in_ok-merge.ensures.takes.joined in
    stays c.args.self.now c.self.inside.first course course b a news c.put.new.self c.self.view_is c.requires refl joined
    (absorbed course a b news c.in_ok-table.table c.in-Ok.ready.after c.put.new.self c.known.ensures.board absorbs table joined (c.put.ensures ∙ c.make.ensures))
