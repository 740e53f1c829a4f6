use Rattle.std.proofs.Common.{add-one, refl, sym, subst, ◌∙◌, rules}
use Rattle.std.specs.List.{AllByRecursion}
use Rattle.std.proofs.lemmas.Bool.{false≢true}
use Rattle.std.proofs.lemmas.List.{take_all}
use Rattle.squall_world.specs.Events.{HasRange}
use Rattle.squall_world.proofs.Losing.{all_take, all_get}
use Rattle.squall_world.proofs.net.Net.is_left.Goals as goal

pub loop-range-preserved : goal.loop-range-preserved
loop-range-preserved c =
    rw add-one (all_take (HasRange c.args.self.now) c.ranges-range-items.result.now c.loop-range.range-index c.range-item.result c.range-item.result c.loop-range-test.true c.range-item.is c.loop-range.invariant
    (c.in_ok-has.ensures.0 (search rules)))

pub returns : goal.returns
returns c = (
  λ said. subst (AllByRecursion (HasRange c.args.self.now)) (take_all c.loop-range.range-index c.ranges-range-items.result.now c.loop-range-test.false ∙ c.ranges-range-items.ensures.value) c.loop-range.invariant,
  λ all. refl,
)
