use Rattle.std.proofs.Common.{◌≤◌, ◌++◌, length, subst, drop, arith}
use Rattle.squall_cluster_desk.specs.Seats.{Showing}
use Rattle.squall_cluster_desk.specs.Hand.{letters, listed}
use Rattle.squall_cluster_desk.proofs.Hands.{length-letters}
use Rattle.squall_cluster_desk.proofs.publisher.Publisher.known.Goals as goal

pub returns-clause-hand : goal.returns-clause-hand
returns-clause-hand g c =
    let waiting = drop c.self.inside.writer.behind c.self.inside.writer.log.items ++ listed c.self.inside.held in
    let n = length-letters waiting in
    let m = c.self.invariant.1 in
    let le : length (letters waiting) ≤ 1 = omega arith in
    subst (λ (o : Showing). length o.hand ≤ 1) c.self.view_is le
