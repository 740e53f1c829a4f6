use Rattle.std.proofs.Common.{◌≡◌, ◌<◌, ◌∙◌, ap, sym, subst, refl, get_or, set, length, arith}
use Rattle.squall_blocks.specs.Entries.{replaced}
use Rattle.squall_blocks.specs.Blocks.{flat, AreBlocks}
use Rattle.squall_blocks.specs.EntriesLaws.{last_above, replaced_rises}
use Rattle.squall_blocks.proofs.Replacing.{count_of, some_blocks}
use Rattle.squall_blocks.proofs.Preparing.{prepared_by, back_again, read_same}
use Rattle.squall_blocks.proofs.prepared.Prepared.of.Goals as goal

pub places_of-at-requires-clause-some : goal.places_of-at-requires-clause-some
places_of-at-requires-clause-some g c = some_blocks c.whole.inside.blocks.items (omega (arith, c.requires.some, ap length c.whole.view_is))

pub places_of-at-requires-clause-order : goal.places_of-at-requires-clause-order
places_of-at-requires-clause-order g c = let up = last_above c.args.from c.args.fresh c.requires.rise in omega (arith, up, c.requires.last)

pub index-requires : goal.index-requires
index-requires g c = omega (arith, c.places_of-at.ensures.edit.first.within, count_of c.whole.inside.lasts.items c.whole.inside.blocks.items c.whole.invariant)

pub index_mut-requires : goal.index_mut-requires
index_mut-requires g c = omega (arith, c.places_of-at.ensures.edit.first.within, count_of c.whole.inside.lasts.items c.whole.inside.blocks.items c.whole.invariant)

pub invariant_of-result : goal.invariant_of-result
invariant_of-result g c =
    let bs = c.whole.inside.blocks.items in
    let m = c.places_of-at.result.first in
    let is : c.replace-block.result ≡ get_or bs m c.replace-block.result = c.replace-block.ensures.value ∙ c.index_mut.ensures.value ∙ ap (λ d. get_or bs m d) (sym c.replace-block.ensures.value) in
    let yes = c.fits.ensures in
    let one = yes.one c.if-not-fits.false in
    let made =
    prepared_by c.whole.inside.lasts.items bs (set bs m c.replace-block.new.dest) c.replace-block.result c.in-Ok.block.entries c.replace-block.new.dest c.args.fresh c.args.from c.args.to m c.places_of-at.result.end c.places_of-at.result.start c.places_of-at.result.stop c.len.result c.len-2.result
    c.places_of-at.ensures.edit one is c.in-Ok.ensures.entries refl (c.places_of-at.ensures.order one) (c.len.ensures ∙ ap length (read_same bs m c.index.result.now c.replace-block.result c.index.ensures is (omega (arith, c.places_of-at.ensures.edit.first.within, count_of c.whole.inside.lasts.items c.whole.inside.blocks.items c.whole.invariant)))) c.len-2.ensures
    (yes.some c.if-not-fits.false) (yes.few c.if-not-fits.false) (replaced_rises c.args.from c.args.to c.args.fresh (flat bs) c.whole.invariant.rise c.requires.rise c.requires.last) in
    (made.0.prepared, c.places_of-at.ensures.order one, made.1, omega (arith, c.in-Ok.ensures.room, c.len-3.ensures))

pub returns-in-Ok-clause-before : goal.returns-in-Ok-clause-before
returns-in-Ok-clause-before g c =
    let bs = c.whole.inside.blocks.items in
    let m = c.places_of-at.result.first in
    let is : c.replace-block.result ≡ get_or bs m c.replace-block.result = c.replace-block.ensures.value ∙ c.index_mut.ensures.value ∙ ap (λ d. get_or bs m d) (sym c.replace-block.ensures.value) in
    let yes = c.fits.ensures in
    let one = yes.one c.if-not-fits.false in
    let made =
    prepared_by c.whole.inside.lasts.items bs (set bs m c.replace-block.new.dest) c.replace-block.result c.in-Ok.block.entries c.replace-block.new.dest c.args.fresh c.args.from c.args.to m c.places_of-at.result.end c.places_of-at.result.start c.places_of-at.result.stop c.len.result c.len-2.result
    c.places_of-at.ensures.edit one is c.in-Ok.ensures.entries refl (c.places_of-at.ensures.order one) (c.len.ensures ∙ ap length (read_same bs m c.index.result.now c.replace-block.result c.index.ensures is (omega (arith, c.places_of-at.ensures.edit.first.within, count_of c.whole.inside.lasts.items c.whole.inside.blocks.items c.whole.invariant)))) c.len-2.ensures
    (yes.some c.if-not-fits.false) (yes.few c.if-not-fits.false) (replaced_rises c.args.from c.args.to c.args.fresh (flat bs) c.whole.invariant.rise c.requires.rise c.requires.last) in
    made.0.same ∙ c.whole.view_is

pub returns-in-Ok-clause-after : goal.returns-in-Ok-clause-after
returns-in-Ok-clause-after g c =
    let bs = c.whole.inside.blocks.items in
    let m = c.places_of-at.result.first in
    let is : c.replace-block.result ≡ get_or bs m c.replace-block.result = c.replace-block.ensures.value ∙ c.index_mut.ensures.value ∙ ap (λ d. get_or bs m d) (sym c.replace-block.ensures.value) in
    let yes = c.fits.ensures in
    let one = yes.one c.if-not-fits.false in
    let made =
    prepared_by c.whole.inside.lasts.items bs (set bs m c.replace-block.new.dest) c.replace-block.result c.in-Ok.block.entries c.replace-block.new.dest c.args.fresh c.args.from c.args.to m c.places_of-at.result.end c.places_of-at.result.start c.places_of-at.result.stop c.len.result c.len-2.result
    c.places_of-at.ensures.edit one is c.in-Ok.ensures.entries refl (c.places_of-at.ensures.order one) (c.len.ensures ∙ ap length (read_same bs m c.index.result.now c.replace-block.result c.index.ensures is (omega (arith, c.places_of-at.ensures.edit.first.within, count_of c.whole.inside.lasts.items c.whole.inside.blocks.items c.whole.invariant)))) c.len-2.ensures
    (yes.some c.if-not-fits.false) (yes.few c.if-not-fits.false) (replaced_rises c.args.from c.args.to c.args.fresh (flat bs) c.whole.invariant.rise c.requires.rise c.requires.last) in
    made.0.made ∙ ap (replaced c.args.from c.args.to c.args.fresh) c.whole.view_is

pub index_mut-requires-in-Err : goal.index_mut-requires-in-Err
index_mut-requires-in-Err g c = omega (arith, c.places_of-at.ensures.edit.first.within, count_of c.whole.inside.lasts.items c.whole.inside.blocks.items c.whole.invariant)

pub invariant_of-blocks-in-Err : goal.invariant_of-blocks-in-Err
invariant_of-blocks-in-Err g c =
    let bs = c.whole.inside.blocks.items in
    let m = c.places_of-at.result.first in
    let is : c.replace-block.result ≡ get_or bs m c.replace-block.result = c.replace-block.ensures.value ∙ c.index_mut.ensures.value ∙ ap (λ d. get_or bs m d) (sym c.replace-block.ensures.value) in
    let lt : m < length bs = omega (arith, c.places_of-at.ensures.edit.first.within, count_of c.whole.inside.lasts.items c.whole.inside.blocks.items c.whole.invariant) in
    let again =
    back_again bs (set bs m c.replace-block.new.dest) (set (set bs m c.replace-block.new.dest) m c.in-Err.block) m c.replace-block.result c.in-Err.block c.replace-block.new.dest lt is c.in-Err.ensures.err refl refl in
    subst (AreBlocks c.whole.inside.lasts.items) (sym again) c.whole.invariant

pub returns-in-Err-clause-err : goal.returns-in-Err-clause-err
returns-in-Err-clause-err g c =
    let bs = c.whole.inside.blocks.items in
    let m = c.places_of-at.result.first in
    let is : c.replace-block.result ≡ get_or bs m c.replace-block.result = c.replace-block.ensures.value ∙ c.index_mut.ensures.value ∙ ap (λ d. get_or bs m d) (sym c.replace-block.ensures.value) in
    let lt : m < length bs = omega (arith, c.places_of-at.ensures.edit.first.within, count_of c.whole.inside.lasts.items c.whole.inside.blocks.items c.whole.invariant) in
    let again =
    back_again bs (set bs m c.replace-block.new.dest) (set (set bs m c.replace-block.new.dest) m c.in-Err.block) m c.replace-block.result c.in-Err.block c.replace-block.new.dest lt is c.in-Err.ensures.err refl refl in
    ap flat again ∙ c.whole.view_is
