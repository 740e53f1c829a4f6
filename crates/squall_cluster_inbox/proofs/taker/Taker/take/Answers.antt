use Rattle.std.proofs.Common.{ap, sym, ◌∙◌, subst, List}
use Rattle.squall_board.specs.Boards.{BoardValue}
use Rattle.squall_cluster_inbox.specs.declared.knows.Knows.{Knows}
use Rattle.squall_cluster_inbox.specs.Inbox.{taker}
use Rattle.squall_cluster_inbox.specs.Ends.{knows_of}
use Rattle.squall_cluster_inbox.specs.Letters.{AreLetters, letters_of}
use Rattle.squall_cluster_inbox.proofs.Inboxes.{takes_ruled, settles_ruled}
use Rattle.squall_cluster_inbox.proofs.Lists.{letters_of-snoc, letters_snoc}
use Rattle.squall_cluster_inbox.proofs.taker.Taker.take.Goals as goal

pub pop_as-requires-clause-rule : goal.pop_as-requires-clause-rule
pop_as-requires-clause-rule g c = let own = ap (λ (v : Knows). v.owns) c.self.invariant.2 in (takes_ruled g.K.Constants.allowed _ _ own, settles_ruled g.K.Constants.allowed _ _ own)

pub invariant_of-self-2 : goal.invariant_of-self-2
invariant_of-self-2 g c =
    let i = c.self.invariant in
    let s = c.in-Some.ensures in
    let rule = s.rule.0 in
    let taken = (knows_of c.self.inside.hand).taken in (
      s.queue.0 ∙ i.0,
      s.queue.2 ∙ i.1,
      rule ∙ sym (ap (λ (v : Knows). taker v.taken v.made v.vouched) rule),
      i.3 ∙ sym (ap (λ (v : Knows). v.made) rule),
      subst (λ (l : List BoardValue). AreLetters g.K.Constants.allowed l) (sym (ap (λ (v : Knows). letters_of v.taken) rule ∙ letters_of-snoc taken c.in-Some.parcel)) (letters_snoc _ _ _ i.4 s.rule.1),
    )
