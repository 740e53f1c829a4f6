use Rattle.std.proofs.Common.{refl, subst}
use Rattle.squall_c_parts.specs.Nodes.{NodeValue}
use Rattle.squall_c_parts.specs.PartCalls.{GivesAt}
use Rattle.squall_c_parts.proofs.Keys.{at_key}
use Rattle.squall_c_parts.proofs.node.Node.give_at.Goals as goal

pub returns-in-Some : goal.returns-in-Some
returns-in-Some c =
    let inside = c.self.inside in
    subst (λ (n : NodeValue). GivesAt c.args.rank n c.args.out.now (record { part = c.give_at.new.self; feed = inside.feed; heard = inside.heard; frames = inside.frames }) c.write_gift.new.out c.write_gift.result) c.self.view_is
    (at_key c.args.rank c.in-Some.key _ _ _ _ _ c.in-Some.ensures.0 c.in-Some.ensures.1
    (record { answer = c.give_at.result; part = c.give_at.new.self; is = c.give_at.ensures.answer; node = refl; chunk = c.write_gift.ensures.chunk; told = c.write_gift.ensures.told }))
