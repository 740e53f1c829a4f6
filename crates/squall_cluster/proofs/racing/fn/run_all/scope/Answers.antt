use Rattle.std.proofs.Common.{◌≡◌, subst, List, length, Vec, Global, ℕ, IfOk}
use Rattle.squall_cluster_inbox.specs.declared.sender.Sender.{Sender}
use Rattle.squall_cluster_inbox.specs.declared.sender.Spent.{Spent}
use Rattle.squall_cluster.specs.Race.{Reports, SentAll, AllRead, lists_of}
use Rattle.squall_cluster.proofs.Races.{both_first}
use Rattle.squall_cluster.proofs.racing.fn.run_all.scope.Goals as goal

pub returns : goal.returns
returns g c =
    let lists : List Reports = lists_of c.captures.lists.now in
    let e = c.in-Ok.ensures.ok in
    let P : Vec Spent Global → Type 0 = λ v. SentAll c.captures.senders.items lists v.items in
    let Q : Vec (Vec ℕ Global) Global → Type 0 = λ v. AllRead g.K.Constants.allowed g.K.Constants.first g.K.Constants.opening c.captures.keys.now (length c.captures.seats.items) v.items in
    record {
      owner = c.turn_and_read-owner.ensures.owner;
      sent = both_first P (λ r. r.spent) c.join-spent.result c.both.result c.both.ensures.spent (subst (λ (s : Vec (Sender g.row.K.Denot) Global). IfOk c.join-spent.result (λ v. SentAll s.items lists v.items)) c.of-sends.ensures.senders (subst (λ l. IfOk c.join-spent.result (λ v. SentAll c.of-sends.result.senders.value.items (lists_of l.now) v.items)) c.of-sends.ensures.lists (subst (λ p. IfOk c.join-spent.result (λ v. SentAll p.senders.value.items (lists_of p.lists.now) v.items)) e c.join-spent.ensures)));
      read = both_first Q (λ r. r.routes) c.turn_and_read-owner.result.1 c.both.result c.both.ensures.routes c.turn_and_read-owner.ensures.read;
    }
