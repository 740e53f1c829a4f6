use Rattle.std.proofs.Common.{◌≡◌, ◌<◌, ◌++◌, ◌∙◌, ap, sym, subst, [], take, drop, length, arith}
use Rattle.std.proofs.lemmas.List.{get_or_read}
use Rattle.std.specs.Prelude.{IfOk}
use Rattle.squall_blocks.specs.Entries.{RiseFrom}
use Rattle.squall_blocks.proofs.Replacing.{count_of, edit_rises}
use Rattle.squall_blocks.proofs.edit.pieces.Goals as goal

pub index-head-requires : goal.index-head-requires
index-head-requires g c = omega (arith, c.requires.edit.first.within, count_of c.args.lasts.now.items c.args.blocks.now.items c.requires.edit.blocks)

pub index-tail-requires : goal.index-tail-requires
index-tail-requires g c = omega (arith, c.requires.edit.last.within, count_of c.args.lasts.now.items c.args.blocks.now.items c.requires.edit.blocks)

pub joined-requires-clause-to : goal.joined-requires-clause-to
joined-requires-clause-to g c =
    let count = count_of c.args.lasts.now.items c.args.blocks.now.items c.requires.edit.blocks in
    let first : c.args.at.first < length c.args.blocks.now.items = omega (arith, c.requires.edit.first.within, count) in
    let last : c.args.at.end < length c.args.blocks.now.items = omega (arith, c.requires.edit.last.within, count) in
    let head = get_or_read c.args.blocks.now.items c.args.at.first c.index-head.result.now first c.index-head.ensures [] in
    let tail = get_or_read c.args.blocks.now.items c.args.at.end c.index-tail.result.now last c.index-tail.ensures [] in
    omega (arith, c.requires.edit.to, ap length head)

pub joined-requires-clause-from : goal.joined-requires-clause-from
joined-requires-clause-from g c =
    let count = count_of c.args.lasts.now.items c.args.blocks.now.items c.requires.edit.blocks in
    let last : c.args.at.end < length c.args.blocks.now.items = omega (arith, c.requires.edit.last.within, count) in
    let tail = get_or_read c.args.blocks.now.items c.args.at.end c.index-tail.result.now last c.index-tail.ensures [] in
    omega (arith, c.requires.edit.from_place, ap length tail)

pub of-requires : goal.of-requires
of-requires g c =
    let count = count_of c.args.lasts.now.items c.args.blocks.now.items c.requires.edit.blocks in
    let first : c.args.at.first < length c.args.blocks.now.items = omega (arith, c.requires.edit.first.within, count) in
    let last : c.args.at.end < length c.args.blocks.now.items = omega (arith, c.requires.edit.last.within, count) in
    let head = get_or_read c.args.blocks.now.items c.args.at.first c.index-head.result.now first c.index-head.ensures [] in
    let tail = get_or_read c.args.blocks.now.items c.args.at.end c.index-tail.result.now last c.index-tail.ensures [] in
    let whole = c.in_ok-whole.ensures ∙ (λ j. take c.args.at.start (head j) ++ (c.args.fresh.now ++ drop c.args.at.stop (tail j))) in
    subst (RiseFrom 0) (sym whole) (edit_rises c.args.lasts.now.items c.args.blocks.now.items c.args.fresh.now c.args.from c.args.to c.args.at.first c.args.at.end c.args.at.start c.args.at.stop c.requires.edit c.requires.rise)

pub returns : goal.returns
returns g c =
    let count = count_of c.args.lasts.now.items c.args.blocks.now.items c.requires.edit.blocks in
    let first : c.args.at.first < length c.args.blocks.now.items = omega (arith, c.requires.edit.first.within, count) in
    let last : c.args.at.end < length c.args.blocks.now.items = omega (arith, c.requires.edit.last.within, count) in
    let head = get_or_read c.args.blocks.now.items c.args.at.first c.index-head.result.now first c.index-head.ensures [] in
    let tail = get_or_read c.args.blocks.now.items c.args.at.end c.index-tail.result.now last c.index-tail.ensures [] in
    let whole = c.in_ok-whole.ensures ∙ (λ j. take c.args.at.start (head j) ++ (c.args.fresh.now ++ drop c.args.at.stop (tail j))) in
    subst (λ w. IfOk c.of.result (λ m. m ≡ w)) whole c.of.ensures
