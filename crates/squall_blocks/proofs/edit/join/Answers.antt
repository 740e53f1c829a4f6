use Rattle.std.proofs.Common.{◌≡◌, ◌<◌, ◌+◌, ◌++◌, ◌∷◌, ◌∙◌, ap, refl, [], length, length-append, arith}
use Rattle.std.specs.List.{splice}
use Rattle.std.proofs.lemmas.List.{get_or_read, take_all}
use Rattle.squall_blocks.proofs.Replacing.{count_of, block_some, merged}
use Rattle.squall_blocks.proofs.edit.join.Goals as goal

pub splice_both-requires-clause-keys : goal.splice_both-requires-clause-keys
splice_both-requires-clause-keys g c = omega (arith, c.requires.within, count_of c.args.lasts.now.items c.args.blocks.now.items c.requires.blocks)

pub last_end-last-requires : goal.last_end-last-requires
last_end-last-requires g c =
    let one : c.args.at < length c.args.blocks.now.items = omega (arith, c.requires.within) in
    let x = get_or_read c.args.blocks.now.items c.args.at c.index-head.result.now one c.index-head.ensures [] in
    let whole : c.in_ok-whole.whole ≡ c.index-head.result.now ++ c.index-tail.result.now =
    c.in_ok-whole.ensures ∙ (λ j. take_all c.len.result c.index-head.result.now (omega (arith, c.len.ensures)) j ++ (c.new-none.ensures j ++ c.index-tail.result.now)) in
    let long = ap length whole ∙ length-append c.index-head.result.now c.index-tail.result.now in
    omega (arith, long, (block_some c.args.blocks.now.items c.args.at c.requires.blocks.full one), ap length x)

pub returns-clause-one : goal.returns-clause-one
returns-clause-one g c =
    let one : c.args.at < length c.args.blocks.now.items = omega (arith, c.requires.within) in
    let x = get_or_read c.args.blocks.now.items c.args.at c.index-head.result.now one c.index-head.ensures [] in
    let y = get_or_read c.args.blocks.now.items (c.args.at + 1) c.index-tail.result.now c.requires.within c.index-tail.ensures [] in
    let whole : c.in_ok-whole.whole ≡ c.index-head.result.now ++ c.index-tail.result.now =
    c.in_ok-whole.ensures ∙ (λ j. take_all c.len.result c.index-head.result.now (omega (arith, c.len.ensures)) j ++ (c.new-none.ensures j ++ c.index-tail.result.now)) in
    c.in_ok-splice_both.ensures.items
    ∙ ap (splice c.args.blocks.now.items c.args.at (c.args.at + 2)) (c.in_ok-push.ensures.items ∙ ap (λ l. l ++ c.in_ok-whole.whole ∷ []) c.in_ok-fresh.ensures.items ∙ ap (λ z. z ∷ []) (whole ∙ (λ j. x j ++ y j)))

pub returns-clause-blocks : goal.returns-clause-blocks
returns-clause-blocks g c =
    let one : c.args.at < length c.args.blocks.now.items = omega (arith, c.requires.within) in
    let x = get_or_read c.args.blocks.now.items c.args.at c.index-head.result.now one c.index-head.ensures [] in
    let y = get_or_read c.args.blocks.now.items (c.args.at + 1) c.index-tail.result.now c.requires.within c.index-tail.ensures [] in
    let whole : c.in_ok-whole.whole ≡ c.index-head.result.now ++ c.index-tail.result.now =
    c.in_ok-whole.ensures ∙ (λ j. take_all c.len.result c.index-head.result.now (omega (arith, c.len.ensures)) j ++ (c.new-none.ensures j ++ c.index-tail.result.now)) in
    let long = ap length whole ∙ length-append c.index-head.result.now c.index-tail.result.now in
    let both = merged c.args.lasts.now.items c.splice_both.new.keys.items c.args.blocks.now.items c.splice_both.new.items.items c.index-head.result.now c.index-tail.result.now c.in_ok-whole.whole c.args.at (c.args.at + 2) c.last_end-last.result
    c.requires.blocks c.requires.within c.index-head.ensures c.index-tail.ensures whole (omega (arith, long, (block_some c.args.blocks.now.items c.args.at c.requires.blocks.full one), ap length x)) (omega (arith, long, c.requires.few, ap length x, ap length y)) c.last_end-last.ensures refl
    c.in_ok-splice_both.ensures.keys
    (c.in_ok-splice_both.ensures.items ∙ ap (splice c.args.blocks.now.items c.args.at (c.args.at + 2)) (c.in_ok-push.ensures.items ∙ ap (λ l. l ++ c.in_ok-whole.whole ∷ []) c.in_ok-fresh.ensures.items)) in
    both.0

pub returns-clause-same : goal.returns-clause-same
returns-clause-same g c =
    let one : c.args.at < length c.args.blocks.now.items = omega (arith, c.requires.within) in
    let x = get_or_read c.args.blocks.now.items c.args.at c.index-head.result.now one c.index-head.ensures [] in
    let y = get_or_read c.args.blocks.now.items (c.args.at + 1) c.index-tail.result.now c.requires.within c.index-tail.ensures [] in
    let whole : c.in_ok-whole.whole ≡ c.index-head.result.now ++ c.index-tail.result.now =
    c.in_ok-whole.ensures ∙ (λ j. take_all c.len.result c.index-head.result.now (omega (arith, c.len.ensures)) j ++ (c.new-none.ensures j ++ c.index-tail.result.now)) in
    let long = ap length whole ∙ length-append c.index-head.result.now c.index-tail.result.now in
    let both = merged c.args.lasts.now.items c.splice_both.new.keys.items c.args.blocks.now.items c.splice_both.new.items.items c.index-head.result.now c.index-tail.result.now c.in_ok-whole.whole c.args.at (c.args.at + 2) c.last_end-last.result
    c.requires.blocks c.requires.within c.index-head.ensures c.index-tail.ensures whole (omega (arith, long, (block_some c.args.blocks.now.items c.args.at c.requires.blocks.full one), ap length x)) (omega (arith, long, c.requires.few, ap length x, ap length y)) c.last_end-last.ensures refl
    c.in_ok-splice_both.ensures.keys
    (c.in_ok-splice_both.ensures.items ∙ ap (splice c.args.blocks.now.items c.args.at (c.args.at + 2)) (c.in_ok-push.ensures.items ∙ ap (λ l. l ++ c.in_ok-whole.whole ∷ []) c.in_ok-fresh.ensures.items)) in
    both.1
