use Rattle.std.proofs.Common.{◌≡◌, ◌+◌, true, false, get_or, refl, subst, ◌∙◌, rules}
use Rattle.squall_part.specs.Parts.{course_of_part, opened_at}
use Rattle.squall_part.proofs.Given.{closed_here}
use Rattle.squall_part.proofs.part.Part.giving_sub.Goals as goal

pub returns-then-log-clause-chunk : goal.returns-then-log-clause-chunk
returns-then-log-clause-chunk c =
    let p = c.args.self.now in
    let e : (get_or c.args.self.now.logs c.args.at c.index-log.result.now).closed ≡ true = search rules in
    let closed = closed_here p c.args.at c.index-log.result.now c.known.ensures c.requires ∙ e in
    λ k. (closed, refl)

pub returns-then-log-clause-key : goal.returns-then-log-clause-key
returns-then-log-clause-key c =
    let p = c.args.self.now in
    let e : (get_or c.args.self.now.logs c.args.at c.index-log.result.now).closed ≡ true = search rules in
    let closed = closed_here p c.args.at c.index-log.result.now c.known.ensures c.requires ∙ e in
    λ k. (closed, refl)

pub returns-in_default-clause-chunk : goal.returns-in_default-clause-chunk
returns-in_default-clause-chunk c =
    let p = c.args.self.now in
    let e : (get_or c.args.self.now.logs c.args.at c.index-log.result.now).closed ≡ false = search rules in
    let closed = closed_here p c.args.at c.index-log.result.now c.known.ensures c.requires ∙ e in
    let number : c.number.result ≡ (course_of_part c.args.self.now).number = search rules in
    let opened = subst (λ n. opened_at p n ≡ 0) number c.in_default.ensures in
    λ k. ((opened, closed), refl)

pub returns-in_default-clause-key : goal.returns-in_default-clause-key
returns-in_default-clause-key c =
    let p = c.args.self.now in
    let e : (get_or c.args.self.now.logs c.args.at c.index-log.result.now).closed ≡ false = search rules in
    let closed = closed_here p c.args.at c.index-log.result.now c.known.ensures c.requires ∙ e in
    let number : c.number.result ≡ (course_of_part c.args.self.now).number = search rules in
    let opened = subst (λ n. opened_at p n ≡ 0) number c.in_default.ensures in
    λ k. ((opened, closed), refl)

pub returns-clause-current : goal.returns-clause-current
returns-clause-current c =
    let p = c.args.self.now in
    let e : (get_or c.args.self.now.logs c.args.at c.index-log.result.now).closed ≡ false = search rules in
    let closed = closed_here p c.args.at c.index-log.result.now c.known.ensures c.requires ∙ e in
    let number : c.number.result ≡ (course_of_part c.args.self.now).number = search rules in
    (subst (λ n. opened_at p n ≡ c.in-Some.sub + 1) number c.in-Some.ensures.0, closed)
