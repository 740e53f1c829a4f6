use Rattle.std.proofs.Common.{sym, ap, ◌∙◌, ◌++◌, subst, ◌-◌, add-one, arith}
use Rattle.squall_blocks.specs.Entries.{RiseFrom, last_from}
use Rattle.squall_blocks.proofs.Blocked.{copy_at}
use Rattle.squall_blocks.proofs.blocks.Blocks.copied.Goals as goal

pub append-requires-clause-some : goal.append-requires-clause-some
append-requires-clause-some g c = (copy_at c.self.inside.lasts.items c.self.inside.blocks.items c.deref-block-items.result.now c.loop-block.block-index (c.len.result - 0) c.block-item.result c.in_ok-copy.copy c.self.invariant c.deref-block-items.ensures.value c.loop-block-test.true c.block-item.is (omega (arith, c.len.ensures)) c.in_ok-copy.ensures).some

pub append-requires-clause-few : goal.append-requires-clause-few
append-requires-clause-few g c = (copy_at c.self.inside.lasts.items c.self.inside.blocks.items c.deref-block-items.result.now c.loop-block.block-index (c.len.result - 0) c.block-item.result c.in_ok-copy.copy c.self.invariant c.deref-block-items.ensures.value c.loop-block-test.true c.block-item.is (omega (arith, c.len.ensures)) c.in_ok-copy.ensures).few

pub append-requires-clause-rise : goal.append-requires-clause-rise
append-requires-clause-rise g c =
    subst (λ l. RiseFrom (last_from 0 l) c.in_ok-copy.copy) (sym c.loop-block.invariant)
    (copy_at c.self.inside.lasts.items c.self.inside.blocks.items c.deref-block-items.result.now c.loop-block.block-index (c.len.result - 0) c.block-item.result c.in_ok-copy.copy c.self.invariant c.deref-block-items.ensures.value c.loop-block-test.true c.block-item.is (omega (arith, c.len.ensures)) c.in_ok-copy.ensures).rise

pub loop-block-preserved : goal.loop-block-preserved
loop-block-preserved g c =
    let at = copy_at c.self.inside.lasts.items c.self.inside.blocks.items c.deref-block-items.result.now c.loop-block.block-index (c.len.result - 0) c.block-item.result c.in_ok-copy.copy c.self.invariant c.deref-block-items.ensures.value c.loop-block-test.true c.block-item.is (omega (arith, c.len.ensures)) c.in_ok-copy.ensures in
    rw add-one (c.in_ok-append.ensures.ok ∙ ap (λ l. l ++ c.in_ok-copy.copy) c.loop-block.invariant ∙ sym at.more)
