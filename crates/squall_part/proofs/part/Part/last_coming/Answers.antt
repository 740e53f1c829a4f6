use Rattle.std.proofs.Common.{◌≡◌, ◌≤◌, ◌<◌, true, false, get_or, sym, ap, subst, ◌∙◌, rules, arith}
use Rattle.squall_course.specs.Change.{Change}
use Rattle.squall_part.specs.Parts.{Log, course_of_part}
use Rattle.squall_part.specs.Logs.{awaits}
use Rattle.squall_part.specs.Serving.{IsLastComing}
use Rattle.squall_part.proofs.Served.{comes_here, last_coming_is, none_coming, none_later}
use Rattle.squall_part.proofs.part.Part.last_coming.Goals as goal

pub returns-then-number-after-clause-none : goal.returns-then-number-after-clause-none
returns-then-number-after-clause-none c =
    let le : (course_of_part c.args.self.now).number ≤ c.args.after = search rules in
    none_later c.args.self.now c.args.key c.args.after le

pub returns-then-not-awaits-clause-none : goal.returns-then-not-awaits-clause-none
returns-then-not-awaits-clause-none c =
    let p = c.args.self.now in
    let d : Log = c.index-log.result.now in
    let here : d ≡ get_or p.logs c.newest_place.result d = search rules in
    let no : awaits p.id d.course d.loaded c.args.key ≡ false = search rules in
    let none = sym (comes_here p c.args.key c.newest_place.result d c.known.ensures c.newest_place.ensures) ∙ ap (λ (l : Log). awaits p.id l.course l.loaded c.args.key) (sym here) ∙ no in
    (0, none_coming p c.args.key none, omega arith)

pub returns-clause-course : goal.returns-clause-course
returns-clause-course c =
    let p = c.args.self.now in
    let d : Log = c.index-log.result.now in
    let here : d ≡ get_or p.logs c.newest_place.result d = search rules in
    ap (λ (l : Log). l.course) here ∙ c.newest_place.ensures.course d

pub returns-clause-some : goal.returns-clause-some
returns-clause-some c =
    let p = c.args.self.now in
    let d : Log = c.index-log.result.now in
    let here : d ≡ get_or p.logs c.newest_place.result d = search rules in
    let course : d.course ≡ course_of_part p = ap (λ (l : Log). l.course) here ∙ c.newest_place.ensures.course d in
    let yes : awaits p.id d.course d.loaded c.args.key ≡ true = search rules in
    let comes = sym (comes_here p c.args.key c.newest_place.result d c.known.ensures c.newest_place.ensures) ∙ ap (λ (l : Log). awaits p.id l.course l.loaded c.args.key) (sym here) ∙ yes in
    let above : c.args.after < d.course.number = search rules in
    (subst (λ (x : Change). IsLastComing p c.args.key x.number) (sym course) (last_coming_is p c.args.key comes), above)
