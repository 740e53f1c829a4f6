use Rattle.std.proofs.Common.{◌≡◌, ◌+◌, ◌∙◌, [], suc, sym, ap, arith, length, take}
use Rattle.squall_blocks.specs.Blocks.{flat}
use Rattle.std.proofs.lemmas.List.{get_or_read}
use Rattle.std.specs.Option.{option_copied}
use Rattle.squall_blocks.proofs.Counted.{no_entries, few_by_last, counted_more, counted_part}
use Rattle.squall_blocks.proofs.blocks.Blocks.len.Goals as goal

pub returns-in_default : goal.returns-in_default
returns-in_default g c =
    no_entries c.self.inside.lasts.items c.deref.result.now c.self.inside.blocks.items c.self.invariant c.deref.ensures.value (sym c.last.ensures.value ∙ ap option_copied c.in_default.is)
    ∙ ap length c.self.view_is

pub overflow_add-len : goal.overflow_add-len
overflow_add-len g c =
    let few = few_by_last c.self.inside.lasts.items c.deref.result.now c.self.inside.blocks.items c.in-Some.last.now c.self.invariant c.deref.ensures.value (sym c.last.ensures.value ∙ ap option_copied c.in-Some.is) in
    let more = counted_more c.deref-block-items.result.now c.loop-block.block-index c.loop-block-test.true in
    let part = counted_part c.deref-block-items.result.now (suc c.loop-block.block-index) in
    let all = ap (λ bs. length (flat bs)) c.deref-block-items.ensures.value in
    let at = ap length (get_or_read c.deref-block-items.result.now c.loop-block.block-index c.block-item.result c.loop-block-test.true c.block-item.is []) in
    omega (arith, few, more, part, all, at, c.len-len.ensures, c.loop-block.invariant, c.end.ensures, c.rank-top.ensures.value, c.rank-top.ensures.high)

pub loop-block-preserved : goal.loop-block-preserved
loop-block-preserved g c =
    let more = counted_more c.deref-block-items.result.now c.loop-block.block-index c.loop-block-test.true in
    let at = ap length (get_or_read c.deref-block-items.result.now c.loop-block.block-index c.block-item.result c.loop-block-test.true c.block-item.is []) in
    let one : c.loop-block.block-index + 1 ≡ suc c.loop-block.block-index = omega arith in
    let next = ap (λ n. length (flat (take n c.deref-block-items.result.now))) one in
    omega (arith, more, at, next, c.len-len.ensures, c.loop-block.invariant)
