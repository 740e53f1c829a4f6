use Rattle.std.proofs.Common.{◌≡◌, ◌+◌, ◌++◌, ◌∷◌, [], ◌∙◌, ap, refl, sym, arith, length}
use Rattle.squall_blocks.specs.Entries.{replaced}
use Rattle.squall_blocks.specs.Blocks.{flat}
use Rattle.squall_blocks.specs.EntriesLaws.{last_above, replaced_rises}
use Rattle.squall_blocks.proofs.Blocked.{length-lasts_of}
use Rattle.squall_blocks.proofs.Replacing.{count_of, edit_made, edit_blocks}
use Rattle.squall_blocks.proofs.Undoing.{kept_in-append, drafted, drafted_before}
use Rattle.squall_blocks.proofs.draft.Draft.trade.Goals as goal

pub places_of-at-requires-clause-order : goal.places_of-at-requires-clause-order
places_of-at-requires-clause-order g c = let up = last_above c.args.from c.args.fresh.now c.requires.rise in omega (arith, up, c.requires.last)

pub pieces-requires-clause-rise : goal.pieces-requires-clause-rise
pieces-requires-clause-rise g c = replaced_rises c.args.from c.args.to c.args.fresh.now (flat c.self.inside.blocks.items) c.self.invariant.0.now_blocks.rise c.requires.rise c.requires.last

pub exchange-requires-clause-blocks : goal.exchange-requires-clause-blocks
exchange-requires-clause-blocks g c =
    let n = count_of c.self.inside.lasts.items c.self.inside.blocks.items c.self.invariant.0.now_blocks in
    omega (arith, n, c.places_of-at.ensures.edit.last.within)

pub exchange-requires-clause-same : goal.exchange-requires-clause-same
exchange-requires-clause-same g c = ap length c.made.invariant.lasts ∙ length-lasts_of c.made.inside.blocks.items

pub invariant_of-self-2 : goal.invariant_of-self-2
invariant_of-self-2 g c =
    let rise = replaced_rises c.args.from c.args.to c.args.fresh.now (flat c.self.inside.blocks.items) c.self.invariant.0.now_blocks.rise c.requires.rise c.requires.last in
    let ends = c.made.invariant.lasts in
    let steps : c.push_reserved.new.self.items ≡ c.self.inside.steps.items ++ c.in_ok-step.step ∷ [] = c.push_reserved.ensures.items ∙ ap (λ l. l ++ c.in_ok-step.step ∷ []) c.in_ok-reserve.ensures.items in
    let blocks = edit_blocks c.self.inside.lasts.items c.made.inside.lasts.items c.exchange.new.lasts.items c.self.inside.blocks.items c.made.inside.blocks.items c.exchange.new.blocks.items c.args.fresh.now c.args.from c.args.to
    c.places_of-at.result.first c.places_of-at.result.end (c.places_of-at.result.end + 1) c.places_of-at.result.start c.places_of-at.result.stop c.places_of-at.ensures.edit ends c.made.invariant.full (c.made.view_is ∙ c.in_ok-made.ensures) refl
    c.in_ok-step.ensures.lasts c.in_ok-step.ensures.blocks rise in (
      drafted c.self.inside.lasts.items c.exchange.new.lasts.items c.self.inside.blocks.items c.exchange.new.blocks.items c.self.inside.steps.items c.push_reserved.new.self.items c.in_ok-step.step c.self.invariant.0 c.in_ok-step.ensures.step steps blocks,
      (λ j. c.self.invariant.1 j + sym c.in_ok-step.ensures.few j) ∙ sym (kept_in-append c.self.inside.steps.items c.in_ok-step.step) ∙ ap Rattle.squall_blocks.specs.Drafts.kept_in (sym steps),
      c.in_ok-step.ensures.lasts_room,
      c.in_ok-step.ensures.blocks_room,
    )

pub returns-clause-before : goal.returns-clause-before
returns-clause-before g c =
    let steps : c.push_reserved.new.self.items ≡ c.self.inside.steps.items ++ c.in_ok-step.step ∷ [] = c.push_reserved.ensures.items ∙ ap (λ l. l ++ c.in_ok-step.step ∷ []) c.in_ok-reserve.ensures.items in
    ap flat (drafted_before c.self.inside.lasts.items c.exchange.new.lasts.items c.self.inside.blocks.items c.exchange.new.blocks.items c.self.inside.steps.items c.push_reserved.new.self.items c.in_ok-step.step c.in_ok-step.ensures.step steps)
    ∙ ap (λ p. p.0) c.self.view_is

pub returns-clause-after : goal.returns-clause-after
returns-clause-after g c =
    edit_made c.self.inside.lasts.items c.self.inside.blocks.items c.made.inside.blocks.items c.exchange.new.blocks.items c.args.fresh.now c.args.from c.args.to
    c.places_of-at.result.first c.places_of-at.result.end (c.places_of-at.result.end + 1) c.places_of-at.result.start c.places_of-at.result.stop c.places_of-at.ensures.edit (c.made.view_is ∙ c.in_ok-made.ensures) refl c.in_ok-step.ensures.blocks
    ∙ ap (replaced c.args.from c.args.to c.args.fresh.now) (ap (λ p. p.1) c.self.view_is)
