use Rattle.std.proofs.Common.{◌++◌, ap, ◌∙◌, ⊎_elim, sym}
use Rattle.squall_cluster.specs.Owners.{Owning}
use Rattle.squall_cluster.proofs.Ends.{turned}
use Rattle.squall_cluster.proofs.owner.Owner.turn.Goals as goal

pub returns-clause-took : goal.returns-clause-took
returns-clause-took g c =
    let hand = c.take-took.new.self.hand in
    turned c.take-took.result hand c.args.self.now.published c.publish-shown.new.self.published c.args.self.now.taken c.self.inside.taker.taken c.take-took.ensures.hand
    (c.in_ok-shown.ensures.published ∙ ap (λ (o : Owning). o.published ++ o.hand) c.self.view_is ∙ ap (λ l. l ++ hand) c.take-took.ensures.same.0)
    (λ none. ap (λ (o : Owning). o.taken) c.self.view_is ∙ ⊎_elim (λ e. ap (λ (o : Owning). o.taken) e) (λ t. absurd (let a = sym none ∙ t.1.2 in cc)) c.take-took.ensures.taken)
