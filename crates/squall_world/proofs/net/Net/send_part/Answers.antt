use Rattle.std.proofs.Common.{◌≡◌, Some, ◌++◌, ◌∷◌, [], true, false, refl, sym, ap, subst, ◌∙◌, inr, rules}
use Rattle.std.proofs.lemmas.Bool.{both_ways}
use Rattle.squall_world.specs.Nets.{NetValue, message_with, place_of}
use Rattle.squall_world.specs.Events.{IsSendPartIn}
use Rattle.squall_world.proofs.Hearing.{there}
use Rattle.squall_world.proofs.net.Net.send_part.Goals as goal

pub returns-then-not-knows : goal.returns-then-not-knows
returns-then-not-knows c =
    let place : place_of c.args.self.now c.args.node ≡ Some c.in-Some.from = search rules in
    let unknown : c.knows.result ≡ false = search rules in
    subst (λ r. IsSendPartIn c.args.self.now c.args.node c.args.said.now r c.args.self.now) (sym c.refused-then-not-knows.ensures)
    (inr (c.in-Some.from, c.index-peer.result.now, place, there c.args.self.now.peers c.in-Some.from c.index-peer.result.now (search rules) (search rules), (λ knows. both_ways c.knows.result unknown (c.knows.ensures.1 knows)), refl, refl))

pub returns : goal.returns
returns c =
    let place : place_of c.args.self.now c.args.node ≡ Some c.in-Some.from = search rules in
    let known : c.knows.result ≡ true = search rules in
    let messages-is = ap (λ (n : NetValue). n.messages) c.self.view_is in
    let pushed = c.in_ok-push.ensures.items ∙ (λ i. messages-is i ++ message_with (c.new.ensures.items i) (c.in_ok-extra.ensures i) ∷ []) in (
      c.in-Some.from,
      c.index-peer.result.now,
      place,
      there c.args.self.now.peers c.in-Some.from c.index-peer.result.now (search rules) (search rules),
      c.knows.ensures.0 known,
      c.known.ensures.board,
      search rules,
      λ i. record (c.self.view_is i) { messages = pushed i },
    )
