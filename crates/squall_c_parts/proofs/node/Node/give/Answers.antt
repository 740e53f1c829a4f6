use Rattle.std.proofs.Common.{refl, subst}
use Rattle.squall_c_parts.specs.Nodes.{NodeValue}
use Rattle.squall_c_parts.specs.PartCalls.{Gives}
use Rattle.squall_c_parts.proofs.node.Node.give.Goals as goal

pub returns : goal.returns
returns c =
    let inside = c.self.inside in
    subst (λ (n : NodeValue). Gives c.args.max n c.args.out.now (record { part = c.give.new.self; feed = inside.feed; heard = inside.heard; frames = inside.frames }) c.write_gift.new.out c.write_gift.result) c.self.view_is
    (record { answer = c.give.result; part = c.give.new.self; is = c.give.ensures.answer; node = refl; chunk = c.write_gift.ensures.chunk; told = c.write_gift.ensures.told })
