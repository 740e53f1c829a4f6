use Rattle.std.proofs.Common.{ap, ◌∙◌, ◌++◌, ◌∷◌, [], drop}
use Rattle.squall_cluster_desk.specs.Seats.{Showing}
use Rattle.squall_cluster_desk.proofs.Hands.{idle, alone, alone_follows, alone_one}
use Rattle.squall_cluster_desk.proofs.publisher.Publisher.lay.Goals as goal

pub invariant_of-self : goal.invariant_of-self
invariant_of-self g c =
    let i = c.self.invariant in
    let l = c.lengthened-prefix.ensures in
    let log = c.self.inside.writer.desk.shown.value.prefix.log in
    let p = c.published.ensures in
    let pend = drop c.self.inside.writer.behind c.self.inside.writer.log.items in
    let none = idle pend c.self.inside.held (ap (λ (o : Showing). o.hand) c.self.view_is ∙ c.requires.free) in (
      alone_follows _ _ log pend _ none.0 c.requires.letter (l.0 ∙ ap (λ x. x.prefix.book) p ∙ i.2) (l.1 ∙ ap (λ x. x.prefix.log ++ c.args.letter ∷ []) p),
      alone_one pend _ none.0,
      i.2,
      i.3,
      i.4,
    )

pub returns-clause-hand : goal.returns-clause-hand
returns-clause-hand g c =
    let pend = drop c.self.inside.writer.behind c.self.inside.writer.log.items in
    let none = idle pend c.self.inside.held (ap (λ (o : Showing). o.hand) c.self.view_is ∙ c.requires.free) in
    alone pend _ none.0
