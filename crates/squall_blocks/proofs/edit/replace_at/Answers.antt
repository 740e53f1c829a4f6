use Rattle.std.proofs.Common.{◌<◌, [], length, get_or, ap, arith}
use Rattle.std.proofs.lemmas.List.{get_or_read}
use Rattle.squall_blocks.proofs.Replacing.{count_of, long_after}
use Rattle.squall_blocks.proofs.edit.replace_at.Goals as goal

pub index-head-requires : goal.index-head-requires
index-head-requires g c = omega (arith, c.requires.edit.first.within, count_of c.args.lasts.now.items c.args.blocks.now.items c.requires.edit.blocks)

pub replace_within-requires-clause-some : goal.replace_within-requires-clause-some
replace_within-requires-clause-some g c =
    let lt : c.args.at.first < length c.args.blocks.now.items = omega (arith, c.requires.edit.first.within, count_of c.args.lasts.now.items c.args.blocks.now.items c.requires.edit.blocks) in
    let one = c.fits.ensures.one c.if-fits.true in
    let x = ap length (get_or_read c.args.blocks.now.items c.args.at.first c.index-head.result.now lt c.index-head.ensures []) in
    let z = ap (λ n. length (get_or c.args.blocks.now.items n [])) one in
    let long = long_after c.args.blocks.now.items c.index-head.result.now c.args.fresh.now c.args.at.first c.args.at.start c.args.at.stop c.len.result c.len-2.result lt c.index-head.ensures (c.requires.order one) (omega (arith, c.requires.edit.from_place, x, z)) c.len.ensures c.len-2.ensures in
    let some = c.fits.ensures.some c.if-fits.true in
    omega (arith, long, some)
