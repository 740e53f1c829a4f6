use Rattle.std.proofs.Common.{◌≡◌, ◌<◌, ◌≤◌, get_or, subst, sym, rules}
use Rattle.squall_key.specs.Keys.{top}
use Rattle.squall_part.specs.Parts.{log_with, course_of_part}
use Rattle.squall_part.specs.Logs.{IsLogAt}
use Rattle.squall_part.proofs.Steps.{given_after, given_valid}
use Rattle.squall_part.proofs.part.Part.give_on.Goals as goal

pub invariant_of-self : goal.invariant_of-self
invariant_of-self c =
    let place = subst (λ p. IsLogAt p.logs (course_of_part p) c.args.at) (sym c.self.view_is) c.requires in
    let l = log_with c.behind-self.inside.course c.behind-self.inside.given c.behind-self.inside.loaded c.behind-self.inside.closed in
    let is : l ≡ get_or c.self.inside.logs.items c.args.at l = search rules in
    let lt : c.args.span.lo < c.args.span.hi = search rules in
    let le : c.args.span.hi ≤ top = search rules in
    given_valid _ c.args.at l c.args.span c.hand_over.new.held c.hand_over.new.given c.self.invariant place is c.hand_over.result lt le c.hand_over.ensures.held c.hand_over.ensures.given c.hand_over.ensures.err

pub returns-clause-ok : goal.returns-clause-ok
returns-clause-ok c =
    let place = subst (λ p. IsLogAt p.logs (course_of_part p) c.args.at) (sym c.self.view_is) c.requires in
    let l = log_with c.behind-self.inside.course c.behind-self.inside.given c.behind-self.inside.loaded c.behind-self.inside.closed in
    let is : l ≡ get_or c.self.inside.logs.items c.args.at l = search rules in
    given_after _ c.args.at l c.args.span c.hand_over.new.held c.hand_over.new.given c.self.invariant place is c.hand_over.result c.args.self.now c.self.view_is c.hand_over.ensures.held c.hand_over.ensures.given
