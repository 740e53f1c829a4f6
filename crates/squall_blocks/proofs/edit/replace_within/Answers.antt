use Rattle.std.proofs.Common.{◌<◌, ◌∙◌, ap, refl, [], set, length, arith}
use Rattle.std.specs.List.{splice}
use Rattle.std.proofs.lemmas.List.{get_or_read}
use Rattle.squall_blocks.proofs.Replacing.{count_of, edit_within}
use Rattle.squall_blocks.proofs.edit.replace_within.Goals as goal

pub index_mut-block-requires : goal.index_mut-block-requires
index_mut-block-requires g c = omega (arith, c.requires.edit.first.within, count_of c.args.lasts.now.items c.args.blocks.now.items c.requires.edit.blocks)

pub returns-clause-blocks : goal.returns-clause-blocks
returns-clause-blocks g c =
    let fits : c.args.at.first < length c.args.blocks.now.items = omega (arith, c.requires.edit.first.within, count_of c.args.lasts.now.items c.args.blocks.now.items c.requires.edit.blocks) in
    let is = c.in_ok-replace.ensures.ok ∙ ap (λ t. splice t c.args.at.start c.args.at.stop c.args.fresh.now) (get_or_read c.args.blocks.now.items c.args.at.first c.index_mut-block.result.now fits c.index_mut-block.ensures.value []) in
    let len = ap length is in
    let both = edit_within c.args.lasts.now.items (set c.args.lasts.now.items c.args.at.first c.last_end-last.result) c.args.blocks.now.items (set c.args.blocks.now.items c.args.at.first c.replace.new.self) c.replace.new.self c.args.fresh.now c.last_end-last.result c.args.from c.args.to c.args.at.first c.args.at.start c.args.at.stop
    c.requires.edit is (omega (arith, len, c.requires.some)) (omega (arith, len, c.requires.few)) c.last_end-last.ensures refl refl c.requires.rise in
    both.0

pub returns-clause-ok : goal.returns-clause-ok
returns-clause-ok g c =
    let fits : c.args.at.first < length c.args.blocks.now.items = omega (arith, c.requires.edit.first.within, count_of c.args.lasts.now.items c.args.blocks.now.items c.requires.edit.blocks) in
    let is = c.in_ok-replace.ensures.ok ∙ ap (λ t. splice t c.args.at.start c.args.at.stop c.args.fresh.now) (get_or_read c.args.blocks.now.items c.args.at.first c.index_mut-block.result.now fits c.index_mut-block.ensures.value []) in
    let len = ap length is in
    let both = edit_within c.args.lasts.now.items (set c.args.lasts.now.items c.args.at.first c.last_end-last.result) c.args.blocks.now.items (set c.args.blocks.now.items c.args.at.first c.replace.new.self) c.replace.new.self c.args.fresh.now c.last_end-last.result c.args.from c.args.to c.args.at.first c.args.at.start c.args.at.stop
    c.requires.edit is (omega (arith, len, c.requires.some)) (omega (arith, len, c.requires.few)) c.last_end-last.ensures refl refl c.requires.rise in
    both.1
