use Rattle.std.proofs.Common.{◌≡◌, ap, sym, ◌∙◌, subst, List, ℕ, Vec, Global, IfOk, Some, length}
use Rattle.squall_report.specs.declared.report.Report.{Report}
use Rattle.squall_board.specs.Boards.{BoardValue}
use Rattle.squall_cluster_inbox.specs.Ends.{Posting, vouching}
use Rattle.squall_cluster_inbox.specs.Inbox.{posted}
use Rattle.squall_cluster_inbox.specs.Letters.{letters_of, list_at, board_after}
use Rattle.squall_cluster.specs.declared.cluster.Sizes.{Sizes}
use Rattle.squall_cluster.specs.Owners.{Owning}
use Rattle.squall_cluster.specs.RaceFaults.{RaceFaultOf}
use Rattle.squall_cluster.specs.Race.{Reports, Bring, SentAll, AllRead, lists_of}
use Rattle.squall_cluster.proofs.Races.{fresh_new, settled, within_all}
use Rattle.squall_cluster.proofs.racing.race_in.Goals as goal

pub returns-in-Err-clause-fault : goal.returns-in-Err-clause-fault
returns-in-Err-clause-fault g c = subst (λ (z : Sizes). RaceFaultOf z c.from.result) c.sizes.ensures (c.from.ensures.of_sizes _ c.in-Err.ensures.fault)

pub run_all-owner-requires-after_bounds : goal.run_all-owner-requires-after_bounds
run_all-owner-requires-after_bounds g c κs within =
    let made = c.in-Ok.ensures in
    (fresh_new c.in-Ok.setup.owner c.in-Ok.setup.senders.items made.fresh, sym (made.senders ∙ ap (λ (z : Sizes). z.senders) c.sizes.ensures), within_all (λ (l : Vec Report Global). l.items) g.K.Constants.allowed c.args.tasks.lists.now c.requires.allowed)

pub close-requires-clause-inbox : goal.close-requires-clause-inbox
close-requires-clause-inbox g c =
    let lists : List Reports = lists_of c.args.tasks.lists.now in
    let senders : List Posting = c.in-Ok.setup.senders.items in
    let spent : List Posting = c.in-Ok-ran.given.spent.items in
    let before : Owning = c.in-Ok.setup.owner in
    let after : Owning = c.run_all-owner.result.0 in
    let o = c.run_all-owner.ensures.owner in
    let sent : SentAll senders lists spent = subst (λ r. IfOk r (λ x. SentAll senders lists x.spent.items)) c.in-Ok-ran.is c.run_all-owner.ensures.sent in
    (settled before after senders spent lists c.in-Ok.ensures.fresh o.0 o.1 o.2 sent).0

pub close-requires-clause-all_senders : goal.close-requires-clause-all_senders
close-requires-clause-all_senders g c =
    let lists : List Reports = lists_of c.args.tasks.lists.now in
    let senders : List Posting = c.in-Ok.setup.senders.items in
    let spent : List Posting = c.in-Ok-ran.given.spent.items in
    let before : Owning = c.in-Ok.setup.owner in
    let after : Owning = c.run_all-owner.result.0 in
    let o = c.run_all-owner.ensures.owner in
    let sent : SentAll senders lists spent = subst (λ r. IfOk r (λ x. SentAll senders lists x.spent.items)) c.in-Ok-ran.is c.run_all-owner.ensures.sent in
    (settled before after senders spent lists c.in-Ok.ensures.fresh o.0 o.1 o.2 sent).1

pub returns-in-Ok-close-clause-board : goal.returns-in-Ok-close-clause-board
returns-in-Ok-close-clause-board g c =
    let lists : List Reports = lists_of c.args.tasks.lists.now in
    let senders : List Posting = c.in-Ok.setup.senders.items in
    let spent : List Posting = c.in-Ok-ran.given.spent.items in
    let before : Owning = c.in-Ok.setup.owner in
    let after : Owning = c.run_all-owner.result.0 in
    let o = c.run_all-owner.ensures.owner in
    let sent : SentAll senders lists spent = subst (λ r. IfOk r (λ x. SentAll senders lists x.spent.items)) c.in-Ok-ran.is c.run_all-owner.ensures.sent in
    let end : (p : ℕ) → Bring (posted p (vouching spent after.vouched)) (list_at p lists) = (settled before after senders spent lists c.in-Ok.ensures.fresh o.0 o.1 o.2 sent).2 in
    let closed = c.in-Ok-close.ensures.board_of_posted in
    let opening : c.args.start.board ≡ g.K.Constants.opening = c.requires.start.2 in (
      closed.taken,
      closed.board_of_taken ∙ ap (λ (b : BoardValue). board_after b (letters_of closed.taken)) (sym opening),
      λ p. subst (λ l. Bring l (list_at p lists)) (sym (closed.each_once_in_order p)) (end p),
    )

pub returns-in-Ok-close-clause-routes : goal.returns-in-Ok-close-clause-routes
returns-in-Ok-close-clause-routes g c =
    let lists : List Reports = lists_of c.args.tasks.lists.now in
    let keys = c.args.tasks.keys.now in
    let readers : ℕ = c.args.tasks.readers in
    let all : List (Vec ℕ Global) = c.in-Ok-ran.given.routes.items in
    let read = subst (λ r. IfOk r (λ x. AllRead g.K.Constants.allowed g.K.Constants.first g.K.Constants.opening keys (length c.in-Ok-seats_of.seats.items) x.routes.items)) c.in-Ok-ran.is c.run_all-owner.ensures.read in
    let by_readers = subst (λ (n : ℕ). AllRead g.K.Constants.allowed g.K.Constants.first g.K.Constants.opening keys n all) c.in-Ok-seats_of.ensures read in
    let by_lists = subst (λ a. AllRead a g.K.Constants.first g.K.Constants.opening keys readers all) c.requires.allowed by_readers in
    let by_first = subst (λ f. AllRead (Some lists) f g.K.Constants.opening keys readers all) (sym c.requires.start.1) by_lists in
    subst (λ b. AllRead (Some lists) c.args.start.first b keys readers all) (sym c.requires.start.2) by_first
