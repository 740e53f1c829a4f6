use Rattle.std.proofs.Common.{◌≡◌, Some, refl, ap, subst, ◌∙◌, rules}
use Rattle.std.specs.List.{slice_get}
use Rattle.std.proofs.lemmas.Option.{slice_get_read}
use Rattle.squall_board.specs.Boards.{empty_board, board_join}
use Rattle.squall_world.specs.Nets.{NetValue, PeerValue, MessageValue, news_to}
use Rattle.squall_world.proofs.Demands.{put_in}
use Rattle.squall_world.proofs.Hearing.{delivered, known_already}
use Rattle.squall_world.proofs.net.Net.deliver.Goals as goal

pub returns-then-not-is_new : goal.returns-then-not-is_new
returns-then-not-is_new c =
    let here : slice_get c.args.self.now.messages c.args.index ≡ Some c.in-Some-get.message.now = subst (λ xs. slice_get xs c.args.index ≡ Some c.in-Some-get.message.now) (c.deref.ensures.value ∙ ap (λ (n : NetValue). n.messages) c.self.view_is) (slice_get_read c.deref.result.now _ c.args.index c.in-Some-get.message.now refl c.in-Some-get.ensures.lookup.3.0 c.in-Some-get.ensures.lookup.1) in
    known_already c.args.self.now c.args.index c.in-Some.at c.args.node c.in-Some-get.message.now c.index-peer.result.now (search rules) here (search rules) (search rules) (c.is_new.ensures (search rules))

pub returns : goal.returns
returns c =
    let put = ap (λ (n : NetValue). put_in n c.in-Some.at c.hear.new.self n.chunks) c.self.view_is in
    let here : slice_get c.args.self.now.messages c.args.index ≡ Some c.in-Some-get.message.now = subst (λ xs. slice_get xs c.args.index ≡ Some c.in-Some-get.message.now) (c.deref.ensures.value ∙ ap (λ (n : NetValue). n.messages) c.self.view_is) (slice_get_read c.deref.result.now _ c.args.index c.in-Some-get.message.now refl c.in-Some-get.ensures.lookup.3.0 c.in-Some-get.ensures.lookup.1) in
    let peers-is = c.deref-2.ensures.value ∙ ap (λ (n : NetValue). n.peers) c.self.view_is in
    let known-is = c.deref-3.ensures.value ∙ ap (λ (p : PeerValue). p.known) c.peer.view_is in
    let counts-is = c.deref-4.ensures.value ∙ ap (λ (x : MessageValue). x.known) c.message.view_is in
    let extra-is = ap (λ (x : MessageValue). x.extra) c.message.view_is in
    let new = c.in_ok-merge.ensures.takes.joined ∙ (λ i. board_join (c.in_ok-news.ensures i) (extra-is i)) ∙ (λ i. board_join (news_to empty_board (peers-is i) (known-is i) (counts-is i)) c.in-Some-get.message.now.extra) in
    delivered c.args.self.now _ c.args.index c.in-Some.at c.args.node c.in-Some-get.message.now c.index-peer.result.now c.index_mut.result.now c.hear.new.self _ put (search rules) here (search rules) (search rules) (search rules) new c.in_ok-hear.ensures.ok
