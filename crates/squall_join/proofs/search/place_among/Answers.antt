use Rattle.std.proofs.Common.{◌/◌, subst, arith}
use Rattle.squall_join.specs.Entries.{IsAmong}
use Rattle.squall_join.proofs.Searching.{among_half, place_by_one}
use Rattle.squall_join.proofs.search.place_among.Goals as goal

pub loop-size-preserved : goal.loop-size-preserved
loop-size-preserved g c =
    among_half g.met.K.Ord.total c.args.entries.now c.requires.sorted c.args.key c.loop-size.from c.loop-size.size (c.loop-size.size / 2) c.step_if_less-from.result c.index-entries-from.result (omega arith) (omega arith)
    (record { less = c.step_if_less-from.ensures.less; not_less = c.step_if_less-from.ensures.not_less }) c.loop-size.invariant

pub returns-then-size-eq1 : goal.returns-then-size-eq1
returns-then-size-eq1 g c =
    place_by_one g.met.K.Ord.total c.args.entries.now c.requires.sorted c.args.key c.loop-size.from c.step_if_less-from-then-size-eq1.result c.index-entries-from-then-size-eq1.result
    (record { less = c.step_if_less-from-then-size-eq1.ensures.less; not_less = c.step_if_less-from-then-size-eq1.ensures.not_less })
    (subst (IsAmong g.K.Ord.cmp c.args.entries.now c.args.key c.loop-size.from) c.if-size-eq1.true c.loop-size.invariant)
