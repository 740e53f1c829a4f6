use Rattle.std.proofs.Common.{◌≡◌, ◌+◌, ◌<◌, [], length, get_or, sym, ap, subst, arith}
use Rattle.std.specs.Prelude.{OnOk}
use Rattle.std.proofs.lemmas.List.{get_or_read}
use Rattle.squall_blocks.proofs.Joining.{joined_last, joined_many, joined_few}
use Rattle.squall_blocks.proofs.edit.join_few.Goals as goal

pub returns-then-next-count-clause-joined : goal.returns-then-next-count-clause-joined
returns-then-next-count-clause-joined g c =
    sym (joined_last c.args.at c.args.blocks.now.items (omega (arith, c.if-next-count.true, c.len-count.ensures, c.saturating_add-next.ensures)))

pub returns-then-both-gt-FEW-clause-joined : goal.returns-then-both-gt-FEW-clause-joined
returns-then-both-gt-FEW-clause-joined g c =
    let next : c.saturating_add-next.result ≡ c.args.at + 1 = omega (arith, c.if-next-count.false, c.len-count.ensures, c.saturating_add-next.ensures) in
    let lt : c.args.at + 1 < length c.args.blocks.now.items = omega (arith, next, c.if-next-count.false, c.len-count.ensures) in
    let x = ap length (get_or_read c.args.blocks.now.items c.args.at c.index-head.result.now (omega (arith, lt)) c.index-head.ensures []) in
    let y = ap length (get_or_read c.args.blocks.now.items c.saturating_add-next.result c.index-tail.result.now (omega (arith, lt, next)) c.index-tail.ensures []) in
    let z = ap (λ n. length (get_or c.args.blocks.now.items n [])) next in
    sym (joined_many c.args.at c.args.blocks.now.items lt (omega (arith, x, y, z, c.len-len.ensures, c.len-more.ensures, c.saturating_add-both.ensures, c.if-both-gt-FEW.true)))

pub returns-clause-joined : goal.returns-clause-joined
returns-clause-joined g c =
    let next : c.saturating_add-next.result ≡ c.args.at + 1 = omega (arith, c.if-next-count.false, c.len-count.ensures, c.saturating_add-next.ensures) in
    let lt : c.args.at + 1 < length c.args.blocks.now.items = omega (arith, next, c.if-next-count.false, c.len-count.ensures) in
    let x = ap length (get_or_read c.args.blocks.now.items c.args.at c.index-head.result.now (omega (arith, lt)) c.index-head.ensures []) in
    let y = ap length (get_or_read c.args.blocks.now.items c.saturating_add-next.result c.index-tail.result.now (omega (arith, lt, next)) c.index-tail.ensures []) in
    let z = ap (λ n. length (get_or c.args.blocks.now.items n [])) next in
    subst (λ w. OnOk c.join.result (c.join.new.blocks.items ≡ w)) (joined_few c.args.at c.args.blocks.now.items lt (omega (arith, x, y, z, c.len-len.ensures, c.len-more.ensures, c.saturating_add-both.ensures, c.if-both-gt-FEW.false))) c.join.ensures.one
