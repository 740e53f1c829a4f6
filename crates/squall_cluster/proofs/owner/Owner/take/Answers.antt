use Rattle.std.proofs.Common.{ap, ◌∙◌, ◌++◌, sym}
use Rattle.squall_cluster_inbox.specs.Ends.{Taking}
use Rattle.squall_cluster.proofs.Ends.{took_keeps}
use Rattle.squall_cluster.proofs.owner.Owner.take.Goals as goal

pub invariant_of-self-2 : goal.invariant_of-self-2
invariant_of-self-2 g c =
    let hand = c.lay.new.self.hand in
    took_keeps c.self.inside.taker.taken c.take.new.self.taken c.self.inside.publisher.published c.self.inside.publisher.hand hand c.in-Some.parcel c.self.invariant c.if-has_letter.ensures (ap (λ (t : Taking). t.taken) c.in-Some.ensures.taken) c.lay.ensures.hand
    ∙ ap (λ l. l ++ hand) (sym c.lay.ensures.published)
