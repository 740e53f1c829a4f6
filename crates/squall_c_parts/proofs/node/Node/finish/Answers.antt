use Rattle.std.proofs.Common.{refl, subst}
use Rattle.squall_c_parts.specs.Nodes.{NodeValue}
use Rattle.squall_c_parts.specs.PartCalls.{Finishes}
use Rattle.squall_c_parts.proofs.node.Node.finish.Goals as goal

pub returns : goal.returns
returns c =
    let inside = c.self.inside in
    subst (λ (n : NodeValue). Finishes c.args.sub n (record { part = c.finish.new.self; feed = inside.feed; heard = inside.heard; frames = inside.frames }) c.finish_status.result) c.self.view_is
    (record { answer = c.finish.result; part = c.finish.new.self; is = c.finish.ensures.answer; node = refl; told = c.finish_status.ensures })
