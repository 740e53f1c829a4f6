use Rattle.std.specs.Prelude.{List}
use Rattle.std.proofs.Common.{subst}
use Rattle.squall_wire.specs.declared.message.Message.{Message}
use Rattle.squall_delta.specs.Pieces.{joined_boards}
use Rattle.squall_part.specs.Parts.{PartValue}
use Rattle.squall_replay.specs.Calls.{Absorbs}
use Rattle.squall_c_frames.specs.Joined.{deltas_of}
use Rattle.squall_c_parts.specs.Nodes.{NodeValue}
use Rattle.squall_c_parts.specs.PartFeeding.{AbsorbsAll}
use Rattle.squall_c_parts.proofs.Takes.{absorbs_all}
use Rattle.squall_c_parts.proofs.node.Node.take_all.Goals as goal

pub returns-clause-takes : goal.returns-clause-takes
returns-clause-takes c =
    let inside = c.self.inside in
    let messages : List Message = c.args.messages.items in
    let q : PartValue = c.absorb_all.new.part in
    subst (λ (n : NodeValue). AbsorbsAll n messages c.args.feed (record { part = q; feed = c.of.result; heard = c.keep_digest.new.heard; frames = inside.frames })) c.self.view_is
    (absorbs_all (record { part = inside.part; feed = inside.feed; heard = inside.heard; frames = inside.frames }) messages q c.of.result c.args.feed c.keep_digest.new.heard
    (subst (λ (ms : List Message). Absorbs inside.part (joined_boards (deltas_of ms)) q) c.deref.ensures.value c.in_ok-absorb_all.ensures.ok) c.of.ensures c.keep_digest.ensures)
