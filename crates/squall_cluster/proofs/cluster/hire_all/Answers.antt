use Rattle.std.proofs.Common.{◌≡◌, sym, subst, List, length, ◌+◌, arith, length-append, ◌∷◌, [], ◌++◌, ap, ◌∙◌}
use Rattle.squall_cluster_inbox.specs.Ends.{Posting}
use Rattle.squall_cluster.specs.Owners.{Owning, Fresh}
use Rattle.squall_cluster.proofs.Ends.{fresh_more}
use Rattle.squall_cluster.proofs.cluster.hire_all.Goals as goal

pub loop-preserved : goal.loop-preserved
loop-preserved g c =
    let i = c.loop.invariant in
    let h = c.in_ok-hire.ensures in
    let o : Owning = c.loop.owner in
    let o' : Owning = c.hire.new.self in
    let one : Posting = c.in_ok-hire.field-0 in
    let old : List Posting = c.loop.senders.items in
    let items : c.push.new.self.items ≡ old ++ one ∷ [] = c.in_ok-push.ensures.items in
    let grown : length (old ++ one ∷ []) ≡ c.loop.counter + 1 = let a = i.1 in omega (arith, length-append old (one ∷ [])) in
    (subst (λ (l : List Posting). Fresh o' l) (sym items) (fresh_more o o' old one i.0 h.sender h.made), ap length items ∙ grown, ap (λ (o : Owning). o.inbox) h.made ∙ i.2)
