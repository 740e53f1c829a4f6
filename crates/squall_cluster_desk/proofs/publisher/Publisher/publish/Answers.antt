use Rattle.std.proofs.Common.{◌≡◌, ◌<◌, ap, ◌∙◌, ◌++◌, drop, length, subst, List}
use Rattle.squall_cluster_desk.specs.declared.shown.Entry.{Entry}
use Rattle.squall_cluster_desk.specs.Hand.{listed}
use Rattle.squall_cluster_desk.specs.Seats.{Showing}
use Rattle.squall_cluster_desk.proofs.Hands.{nothing_pending, one_waits, on_err}
use Rattle.squall_cluster_desk.proofs.publisher.Publisher.publish.Goals as goal

pub returns-then-not-has_pending_operations-clause-published :
    goal.returns-then-not-has_pending_operations-clause-published
returns-then-not-has_pending_operations-clause-published g c =
    let e = c.in_ok-settle.ensures in
    let old = c.self.inside.writer in
    let now = c.settle.new.writer in
    ap (λ d. d.shown.value.prefix.log) e.desk
    ∙ nothing_pending c.has_pending_operations.result old.desk.shown.value.prefix.log (drop old.behind old.log.items) (drop now.behind now.log.items) c.self.inside.held e.ok.1 c.has_pending_operations.ensures.1 c.if-not-has_pending_operations.true
    ∙ ap (λ (o : Showing). o.published ++ o.hand) c.self.view_is

pub returns-clause-failed : goal.returns-clause-failed
returns-clause-failed g c =
    let e = c.in_ok-settle.ensures in
    let old = c.self.inside.writer in
    let all : List Entry = drop old.behind old.log.items ++ listed c.self.inside.held in
    let some : 0 < length all = subst (λ (l : List Entry). 0 < length l) e.ok.1 (c.has_pending_operations.ensures.0 c.if-not-has_pending_operations.false) in
    on_err c.replace_with.result _ (subst (λ (o : Showing). length o.hand ≡ 1) c.self.view_is (one_waits all c.self.invariant.1 some))
