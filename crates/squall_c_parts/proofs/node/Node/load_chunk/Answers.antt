use Rattle.std.proofs.Common.{refl, subst}
use Rattle.squall_c_parts.specs.Nodes.{NodeValue}
use Rattle.squall_c_parts.specs.PartCalls.{LoadsChunk}
use Rattle.squall_c_parts.proofs.node.Node.load_chunk.Goals as goal

pub returns : goal.returns
returns c =
    let inside = c.self.inside in
    subst (λ (n : NodeValue). LoadsChunk c.args.chunk.now n (record { part = c.load.new.self; feed = inside.feed; heard = inside.heard; frames = inside.frames }) c.load_status.result) c.self.view_is
    (record { answer = c.load.result; part = c.load.new.self; is = c.load.ensures.answer; node = refl; told = c.load_status.ensures })
