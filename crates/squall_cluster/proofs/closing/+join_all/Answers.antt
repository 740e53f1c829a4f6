use Rattle.std.proofs.Common.{◌≡◌, ap, sym, ◌∙◌, List, ℕ, ◌∷◌}
use Rattle.squall_board.specs.Boards.{BoardValue}
use Rattle.squall_cluster_inbox.specs.Ends.{Posting, vouching}
use Rattle.squall_cluster.specs.Owners.{Owning}
use Rattle.squall_cluster.proofs.Ends.{vouching-snoc}
use Rattle.squall_cluster.proofs.closing.+join_all.Goals as goal

pub returns-in-Some-clause-owner : goal.returns-in-Some-clause-owner
returns-in-Some-clause-owner g t c =
    let before : Owning = c.args.owner.now in
    let one : Posting = c.in-Some.one in
    let all : vouching c.args.spent.now.items before.vouched ≡ (one.from, one.posted) ∷ vouching c.pop.new.self.items before.vouched =
    ap (λ (l : List Posting). vouching l before.vouched) c.in-Some.ensures.items ∙ vouching-snoc c.pop.new.self.items one before.vouched in
    c.join.ensures ∙ ap (λ (o : Owning). record o { vouched = (one.from, one.posted) ∷ o.vouched }) c.join_all.ensures.owner ∙ ap (λ (l : List (ℕ × List BoardValue)). record before { vouched = l }) (sym all)
