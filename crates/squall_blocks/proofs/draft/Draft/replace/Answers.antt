use Rattle.std.proofs.Common.{rules, ◌≡◌, ◌<◌, ◌++◌, ◌∷◌, [], ◌∙◌, ap, arith, get_or, length, vec_len}
use Rattle.std.proofs.lemmas.List.{get_or_read}
use Rattle.squall_blocks.specs.Blocks.{flat}
use Rattle.squall_blocks.specs.Drafts.{kept_in}
use Rattle.squall_blocks.specs.EntriesLaws.{last_above, replaced_rises}
use Rattle.squall_blocks.proofs.Replacing.{count_of, long_after}
use Rattle.squall_blocks.proofs.Undoing.{kept_in-append, drafted, drafted_before}
use Rattle.squall_blocks.proofs.draft.Draft.replace.Goals as goal

pub places_of-at-requires-clause-order : goal.places_of-at-requires-clause-order
places_of-at-requires-clause-order g c = let up = last_above c.args.from c.args.fresh.now c.requires.rise in omega (arith, up, c.requires.last)

pub index-requires : goal.index-requires
index-requires g c = omega (arith, c.places_of-at.ensures.edit.first.within, count_of c.self.inside.lasts.items c.self.inside.blocks.items c.self.invariant.0.now_blocks)

pub edit_within-requires-clause-rise : goal.edit_within-requires-clause-rise
edit_within-requires-clause-rise g c = replaced_rises c.args.from c.args.to c.args.fresh.now (flat c.self.inside.blocks.items) c.self.invariant.0.now_blocks.rise c.requires.rise c.requires.last

pub edit_within-requires-clause-some : goal.edit_within-requires-clause-some
edit_within-requires-clause-some g c =
    let bs = c.self.inside.blocks.items in
    let at = c.places_of-at.result in
    let within : at.first < length bs = omega (arith, c.places_of-at.ensures.edit.first.within, count_of c.self.inside.lasts.items bs c.self.invariant.0.now_blocks) in
    let one = c.fits_again.ensures.one c.if-not-fits_again.false in
    let read = ap length (get_or_read bs at.first c.index.result.now within c.index.ensures []) in
    let same = ap (λ n. length (get_or bs n [])) one in
    let long = long_after bs c.index.result.now c.args.fresh.now at.first at.start at.stop c.len-len.result c.len.result within c.index.ensures (c.places_of-at.ensures.order one) (omega (arith, c.places_of-at.ensures.edit.from_place, read, same)) c.len-len.ensures c.len.ensures in
    let some = c.fits_again.ensures.some c.if-not-fits_again.false in
    omega (arith, long, some)

pub edit_within-requires-clause-few : goal.edit_within-requires-clause-few
edit_within-requires-clause-few g c =
    let bs = c.self.inside.blocks.items in
    let at = c.places_of-at.result in
    let within : at.first < length bs = omega (arith, c.places_of-at.ensures.edit.first.within, count_of c.self.inside.lasts.items bs c.self.invariant.0.now_blocks) in
    let one = c.fits_again.ensures.one c.if-not-fits_again.false in
    let read = ap length (get_or_read bs at.first c.index.result.now within c.index.ensures []) in
    let same = ap (λ n. length (get_or bs n [])) one in
    let long = long_after bs c.index.result.now c.args.fresh.now at.first at.start at.stop c.len-len.result c.len.result within c.index.ensures (c.places_of-at.ensures.order one) (omega (arith, c.places_of-at.ensures.edit.from_place, read, same)) c.len-len.ensures c.len.ensures in
    let few = c.fits_again.ensures.few c.if-not-fits_again.false in
    omega (arith, long, few)

pub invariant_of-self-2 : goal.invariant_of-self-2
invariant_of-self-2 g c =
    let old = c.self.inside in
    let steps : c.push_reserved.new.self.items ≡ old.steps.items ++ c.in_ok-step.step ∷ [] = c.push_reserved.ensures.items ∙ ap (λ l. l ++ c.in_ok-step.step ∷ []) c.in_ok-reserve.ensures.items in
    let kept = kept_in-append old.steps.items c.in_ok-step.step in
    let same = ap kept_in steps in
    let a : vec_len old.lasts ≡ length old.lasts.items = search rules in
    let b : vec_len c.edit_within.new.lasts ≡ length c.edit_within.new.lasts.items = search rules in
    let d : vec_len old.blocks ≡ length old.blocks.items = search rules in
    let e : vec_len c.edit_within.new.blocks ≡ length c.edit_within.new.blocks.items = search rules in (
      drafted old.lasts.items c.edit_within.new.lasts.items old.blocks.items c.edit_within.new.blocks.items old.steps.items c.push_reserved.new.self.items c.in_ok-step.step c.self.invariant.0 c.in_ok-step.ensures.step steps c.in_ok-step.ensures.blocks,
      omega (arith, c.self.invariant.1, kept, same, c.in_ok-step.ensures.few),
      omega (arith, c.self.invariant.2, a, b, c.edit_within.ensures.lasts_len, c.edit_within.ensures.lasts_capacity),
      omega (arith, c.self.invariant.3, d, e, c.edit_within.ensures.blocks_len, c.edit_within.ensures.blocks_capacity),
    )

pub returns-clause-before : goal.returns-clause-before
returns-clause-before g c =
    let old = c.self.inside in
    let steps : c.push_reserved.new.self.items ≡ old.steps.items ++ c.in_ok-step.step ∷ [] = c.push_reserved.ensures.items ∙ ap (λ l. l ++ c.in_ok-step.step ∷ []) c.in_ok-reserve.ensures.items in
    ap flat (drafted_before old.lasts.items c.edit_within.new.lasts.items old.blocks.items c.edit_within.new.blocks.items old.steps.items c.push_reserved.new.self.items c.in_ok-step.step c.in_ok-step.ensures.step steps) ∙ ap (λ p. p.0) c.self.view_is
