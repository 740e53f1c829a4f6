use Rattle.std.proofs.Common.{◌≡◌, [], sym, ◌∙◌, MatchBool, length, subst, drop}
use Rattle.squall_cluster_desk.specs.Seats.{Showing}
use Rattle.squall_cluster_desk.proofs.Hands.{waits_said}
use Rattle.squall_cluster_desk.proofs.publisher.Publisher.has_letter.Goals as goal

pub returns-else-is_some : goal.returns-else-is_some
returns-else-is_some g c =
    let e = c.has_pending_operations.ensures in
    subst (λ (o : Showing). MatchBool c.has_pending_operations.result (length o.hand ≡ 1) (o.hand ≡ [])) c.self.view_is
    (waits_said c.has_pending_operations.result (drop c.self.inside.writer.behind c.self.inside.writer.log.items) c.self.inside.held e.0 e.1 (sym c.is_some.ensures ∙ c.if-is_some.false) c.self.invariant.1)
