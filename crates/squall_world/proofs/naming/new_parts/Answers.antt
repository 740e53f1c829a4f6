use Rattle.std.proofs.Common.{sym, ◌∙◌, rules}
use Rattle.std.specs.Arc.{arc_value}
use Rattle.squall_world.proofs.Named.{part_comes, no_part_comes, one_more_role}
use Rattle.squall_world.proofs.naming.new_parts.Goals as goal
use Rattle.squall_world.proofs.naming.new_parts.Goals.{then-is_missing+in_ok-part_node+in_ok-push, else-is_missing}

pub loop-part-preserved : goal.loop-part-preserved
loop-part-preserved c =
    elim c.if-is_missing.branch [
      | then-is_missing+in_ok-part_node+in_ok-push w ↦
          let p = w.in_ok-part_node.field-0 in
          let ps = c.loop-part.peers.items in
          rw w.peers-is (
            part_comes (arc_value c.args.first.now) c.args.named.now c.args.places.now c.loop-part.part ps _ p w.unwrap-id.result c.loop-part.invariant.0 (sym c.is_missing.ensures ∙ w.if-is_missing.true) w.in_ok-part_node.ensures.node (search rules) w.in_ok-push.ensures.items,
            one_more_role ps _ p c.loop-part.invariant.1 w.in_ok-part_node.ensures.valid w.in_ok-push.ensures.items,
          )
      | else-is_missing w ↦
          rw w.peers-is (no_part_comes (arc_value c.args.first.now) c.args.named.now c.args.places.now c.loop-part.part c.loop-part.peers.items c.loop-part.invariant.0 (sym c.is_missing.ensures ∙ w.if-is_missing.false), c.loop-part.invariant.1)
    ]
