use Rattle.std.proofs.Common.{◌≡◌, ◌∙◌, subst, length, ℕ, IfOk, arith}
use Rattle.squall_cluster.specs.Race.{AllRead}
use Rattle.squall_cluster.proofs.racing.fn.turn_and_read.scope.Goals as goal

pub returns : goal.returns
returns g c =
    let e = c.in-Ok.ensures.ok in
    let count : c.of-reads.result.count ≡ length c.captures.seats.items = c.of-reads.ensures.count ∙ c.len.ensures ∙ omega (arith, c.captures.seats.ok) in
    record {
      owner = c.turn_all.ensures;
      read = subst (λ (n : ℕ). IfOk c.join-routes.result (λ v. AllRead g.K.Constants.allowed g.K.Constants.first g.K.Constants.opening c.captures.keys.now n v.items)) count (subst (λ k. IfOk c.join-routes.result (λ v. AllRead g.K.Constants.allowed g.K.Constants.first g.K.Constants.opening k.now c.of-reads.result.count v.items)) c.of-reads.ensures.keys (subst (λ p. IfOk c.join-routes.result (λ v. AllRead g.K.Constants.allowed g.K.Constants.first g.K.Constants.opening p.keys.now p.count v.items)) e c.join-routes.ensures));
    }
