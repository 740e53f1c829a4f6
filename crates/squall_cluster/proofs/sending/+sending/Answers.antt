use Rattle.std.proofs.Common.{◌++◌, sym, subst, List, map, Vec, Global}
use Rattle.squall_report.specs.declared.report.Report.{Report}
use Rattle.squall_cluster_inbox.specs.Ends.{Posting}
use Rattle.squall_cluster_inbox.specs.declared.sender.Sender.{Sender}
use Rattle.squall_cluster.specs.Race.{Reports, SentAll}
use Rattle.squall_cluster.proofs.Races.{sent_append}
use Rattle.squall_cluster.proofs.sending.+sending.Goals as goal

pub send_halves-scope-returns-in-Ok-append : goal.send_halves-scope-returns-in-Ok-append
send_halves-scope-returns-in-Ok-append g t c =
    let front : List Posting = c.captures.front.items in
    let back : List Posting = c.captures.back.items in
    let some : List Reports = map (λ (l : Vec Report Global). l.items) c.captures.some.now in
    let others : List Reports = map (λ (l : Vec Report Global). l.items) c.captures.others.now in
    let one : List Posting = c.in_ok-all.all.items in
    let other : List Posting = c.in_ok-rest.rest.items in
    let promised = subst (λ p. SentAll p.senders.value.items (map (λ (l : Vec Report Global). l.items) p.lists.now) other) c.in-Ok.ensures.ok c.in_ok-rest.ensures in
    let lent = subst (λ l. SentAll c.of-promise.result.senders.value.items (map (λ (l : Vec Report Global). l.items) l.now) other) c.of-promise.ensures.lists promised in
    let theirs : SentAll back others other = subst (λ (s : Vec (Sender g.row.K.Denot) Global). SentAll s.items others other) c.of-promise.ensures.senders lent in
    subst (SentAll (front ++ back) (some ++ others)) (sym c.in-Ok-append.ensures.items) (sent_append front back some others one other c.in_ok-all.ensures theirs)
