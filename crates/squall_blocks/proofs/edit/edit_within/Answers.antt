use Rattle.std.proofs.Common.{◌≡◌, ◌+◌, ◌<◌, ◌∙◌, ap, sym, refl, [], get_or, set, length, arith}
use Rattle.std.specs.List.{splice}
use Rattle.std.proofs.lemmas.List.{get_or_read}
use Rattle.squall_blocks.proofs.Replacing.{count_of, edit_within}
use Rattle.squall_blocks.proofs.Edited.{edited_back}
use Rattle.squall_blocks.proofs.edit.edit_within.Goals as goal

pub index_mut-block-requires : goal.index_mut-block-requires
index_mut-block-requires g c = omega (arith, c.requires.edit.first.within, count_of c.args.lasts.now.items c.args.blocks.now.items c.requires.edit.blocks)

pub replace-requires-clause-within : goal.replace-requires-clause-within
replace-requires-clause-within g c =
    let within : c.args.at.first < length c.args.blocks.now.items = omega (arith, c.requires.edit.first.within, count_of c.args.lasts.now.items c.args.blocks.now.items c.requires.edit.blocks) in
    let read = ap length (get_or_read c.args.blocks.now.items c.args.at.first c.index_mut-block.result.now within c.index_mut-block.ensures.value []) in
    omega (arith, c.requires.edit.from_place, read)

pub returns-clause-blocks : goal.returns-clause-blocks
returns-clause-blocks g c =
    let within : c.args.at.first < length c.args.blocks.now.items = omega (arith, c.requires.edit.first.within, count_of c.args.lasts.now.items c.args.blocks.now.items c.requires.edit.blocks) in
    let is = c.in_ok-replace.ensures.ok ∙ ap (λ t. splice t c.args.at.start c.args.at.stop c.args.fresh.now) (get_or_read c.args.blocks.now.items c.args.at.first c.index_mut-block.result.now within c.index_mut-block.ensures.value []) in
    let len = ap length is in
    let both = edit_within c.args.lasts.now.items (set c.args.lasts.now.items c.args.at.first c.replace-last.new.dest) c.args.blocks.now.items (set c.args.blocks.now.items c.args.at.first c.replace.new.self) c.replace.new.self c.args.fresh.now c.replace-last.new.dest c.args.from c.args.to c.args.at.first c.args.at.start c.args.at.stop
    c.requires.edit is (omega (arith, len, c.requires.some)) (omega (arith, len, c.requires.few)) (c.replace-last.ensures.after ∙ c.last_end-last.ensures) refl refl c.requires.rise in
    both.0

pub returns-clause-ok : goal.returns-clause-ok
returns-clause-ok g c =
    let within : c.args.at.first < length c.args.blocks.now.items = omega (arith, c.requires.edit.first.within, count_of c.args.lasts.now.items c.args.blocks.now.items c.requires.edit.blocks) in
    let is = c.in_ok-replace.ensures.ok ∙ ap (λ t. splice t c.args.at.start c.args.at.stop c.args.fresh.now) (get_or_read c.args.blocks.now.items c.args.at.first c.index_mut-block.result.now within c.index_mut-block.ensures.value []) in
    let len = ap length is in
    let both = edit_within c.args.lasts.now.items (set c.args.lasts.now.items c.args.at.first c.replace-last.new.dest) c.args.blocks.now.items (set c.args.blocks.now.items c.args.at.first c.replace.new.self) c.replace.new.self c.args.fresh.now c.replace-last.new.dest c.args.from c.args.to c.args.at.first c.args.at.start c.args.at.stop
    c.requires.edit is (omega (arith, len, c.requires.some)) (omega (arith, len, c.requires.few)) (c.replace-last.ensures.after ∙ c.last_end-last.ensures) refl refl c.requires.rise in
    both.1

pub returns-clause-step : goal.returns-clause-step
returns-clause-step g c =
    let count = count_of c.args.lasts.now.items c.args.blocks.now.items c.requires.edit.blocks in
    let within : c.args.at.first < length c.args.blocks.now.items = omega (arith, c.requires.edit.first.within, count) in
    let read = ap length (get_or_read c.args.blocks.now.items c.args.at.first c.index_mut-block.result.now within c.index_mut-block.ensures.value []) in
    let last : c.replace-last.result ≡ get_or c.args.lasts.now.items c.args.at.first c.replace-last.result =
    c.replace-last.ensures.value ∙ c.index_mut.ensures.value ∙ ap (λ d. get_or c.args.lasts.now.items c.args.at.first d) (sym c.replace-last.ensures.value) in
    edited_back c.args.lasts.now.items c.args.blocks.now.items c.index_mut-block.result.now c.replace.new.self c.in_ok-gone.gone c.args.fresh.now c.replace-last.new.dest c.replace-last.result c.args.at.first c.args.at.start c.args.at.stop (c.args.at.start + c.len.result)
    c.requires.edit.first.within within c.index_mut-block.ensures.value c.requires.order (omega (arith, c.requires.edit.from_place, read)) c.requires.no_fewer (omega (arith, c.len.ensures)) c.in_ok-replace.ensures.ok c.in_ok-gone.ensures last
