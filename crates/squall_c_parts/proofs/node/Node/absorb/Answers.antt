use Rattle.std.proofs.Common.{refl, subst}
use Rattle.std.specs.Prelude.{OnOk}
use Rattle.std.proofs.lemmas.Result.{on_ok_weaker}
use Rattle.squall_part.specs.Parts.{PartValue}
use Rattle.squall_replay.specs.Calls.{Absorbs}
use Rattle.squall_c_parts.specs.Nodes.{NodeValue}
use Rattle.squall_c_parts.specs.PartHearing.{AbsorbsDelta}
use Rattle.squall_c_parts.proofs.node.Node.absorb.Goals as goal

pub returns-clause-ok : goal.returns-clause-ok
returns-clause-ok c =
    let inside = c.self.inside in
    let q : PartValue = c.absorb.new.part in
    subst (λ (n : NodeValue). OnOk c.absorb.result (AbsorbsDelta n c.args.delta.now (record { part = q; feed = inside.feed; heard = inside.heard; frames = inside.frames }))) c.self.view_is
    (on_ok_weaker c.absorb.result (λ (absorbs : Absorbs inside.part c.args.delta.now q). record { part = q; absorbs = absorbs; node = refl }) c.absorb.ensures.ok)
