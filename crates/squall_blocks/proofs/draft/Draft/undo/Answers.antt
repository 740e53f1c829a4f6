use Rattle.std.proofs.Common.{rules, ◌≡◌, ◌∙◌, ap, arith, length, vec_len}
use Rattle.squall_blocks.specs.Blocks.{flat}
use Rattle.squall_blocks.proofs.Undoing.{last_within, last_kept, undone_once}
use Rattle.squall_blocks.proofs.draft.Draft.undo.Goals as goal

pub undo-requires-clause-within : goal.undo-requires-clause-within
undo-requires-clause-within g c = last_within c.loop-step.steps.items c.pop.new.self.items c.in-Some.step c.loop-step.lasts.items c.loop-step.blocks.items c.in-Some.ensures.items c.loop-step.invariant.2

pub undo-requires-clause-lasts_room : goal.undo-requires-clause-lasts_room
undo-requires-clause-lasts_room g c = omega (arith, c.loop-step.invariant.3, last_kept c.loop-step.steps.items c.pop.new.self.items c.in-Some.step c.in-Some.ensures.items)

pub undo-requires-clause-blocks_room : goal.undo-requires-clause-blocks_room
undo-requires-clause-blocks_room g c = omega (arith, c.loop-step.invariant.4, last_kept c.loop-step.steps.items c.pop.new.self.items c.in-Some.step c.in-Some.ensures.items)

pub loop-step-preserved : goal.loop-step-preserved
loop-step-preserved g c =
    let u = undone_once c.loop-step.steps.items c.pop.new.self.items c.in-Some.step c.loop-step.lasts.items c.undo.new.lasts.items c.loop-step.blocks.items c.undo.new.blocks.items c.in-Some.ensures.items
    c.loop-step.invariant.0 c.loop-step.invariant.2 c.undo.ensures.lasts c.undo.ensures.blocks in
    let k = last_kept c.loop-step.steps.items c.pop.new.self.items c.in-Some.step c.in-Some.ensures.items in
    let a : vec_len c.loop-step.lasts ≡ length c.loop-step.lasts.items = search rules in
    let b : vec_len c.undo.new.lasts ≡ length c.undo.new.lasts.items = search rules in
    let d : vec_len c.loop-step.blocks ≡ length c.loop-step.blocks.items = search rules in
    let e : vec_len c.undo.new.blocks ≡ length c.undo.new.blocks.items = search rules in (
      u.blocks,
      ap flat u.same ∙ c.loop-step.invariant.1,
      u.within,
      omega (arith, c.loop-step.invariant.3, k, a, b, u.lasts_len, c.undo.ensures.lasts_capacity),
      omega (arith, c.loop-step.invariant.4, k, d, e, u.blocks_len, c.undo.ensures.blocks_capacity),
    )
