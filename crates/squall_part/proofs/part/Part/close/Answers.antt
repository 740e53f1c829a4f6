use Rattle.std.proofs.Common.{◌≡◌, set, subst, sym}
use Rattle.squall_part.specs.Parts.{IsPart, course_of_part}
use Rattle.squall_part.specs.Giving.{after_close}
use Rattle.squall_part.specs.Logs.{IsLogAt}
use Rattle.squall_part.proofs.Steps.{closed_after, closed_valid}
use Rattle.squall_part.proofs.part.Part.close.Goals as goal

pub invariant_of-self : goal.invariant_of-self
invariant_of-self c =
    let place = subst (λ p. IsLogAt p.logs (course_of_part p) c.newest_place-at.result) (sym c.self.view_is) c.newest_place-at.ensures in
    let valid = closed_valid _ c.newest_place-at.result c.index_mut-log.result.now c.self.invariant place c.index_mut-log.ensures.value in
    subst (λ l. IsPart (record { id = c.self.inside.id; first = c.self.inside.first; board = c.self.inside.board; held = c.self.inside.held; logs = set c.self.inside.logs.items c.newest_place-at.result l })) (sym c.close.ensures) valid

pub returns-clause-value : goal.returns-clause-value
returns-clause-value c =
    let place = subst (λ p. IsLogAt p.logs (course_of_part p) c.newest_place-at.result) (sym c.self.view_is) c.newest_place-at.ensures in
    let after = closed_after _ c.newest_place-at.result c.index_mut-log.result.now c.self.invariant place c.index_mut-log.ensures.value c.args.self.now c.self.view_is in
    subst (λ l. record { id = c.self.inside.id; first = c.self.inside.first; board = c.self.inside.board; held = c.self.inside.held; logs = set c.self.inside.logs.items c.newest_place-at.result l } ≡ after_close c.args.self.now) (sym c.close.ensures) after
