use Rattle.std.proofs.Common.{◌++◌, ◌∷◌, [], ap, ◌∙◌, rules}
use Rattle.squall_world.specs.Nets.{NetValue, PeerValue, message_with}
use Rattle.squall_world.proofs.Hearing.{there}
use Rattle.squall_world.proofs.net.Net.send.Goals as goal

pub returns : goal.returns
returns c =
    let messages-is = ap (λ (n : NetValue). n.messages) c.self.view_is in
    let known-is = c.in_ok-extend_from_slice.ensures.items ∙ ap (λ ks. c.new-known.result.items ++ ks) (c.deref.ensures.value ∙ ap (λ (p : PeerValue). p.known) c.peer.view_is) ∙ ap (λ ks. ks ++ c.index-peer.result.now.known) c.new-known.ensures.items in
    let extra-is = c.in_ok-extra.ensures ∙ ap (λ (p : PeerValue). p.extra) c.peer.view_is in
    let pushed = c.in_ok-push.ensures.items ∙ (λ i. messages-is i ++ message_with (known-is i) (extra-is i) ∷ []) in
    (c.in-Some.from, c.index-peer.result.now, search rules, there c.args.self.now.peers c.in-Some.from c.index-peer.result.now (search rules) (search rules), search rules, λ i. record (c.self.view_is i) { messages = pushed i })
