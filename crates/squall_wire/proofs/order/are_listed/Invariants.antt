use Rattle.std.proofs.Common.{◌<◌, length, drop}
use Rattle.squall_wire.specs.Limits.{word_limit, AreInTurn}
use Rattle.squall_wire.proofs.order.are_listed.Given as goal

abbrev pub invariant-loop-item : goal.invariant-loop-item
invariant-loop-item g l = record {
  count : length l.items < word_limit;
  onward : AreInTurn g.T.Placed.fits (λ _ item. g.T.Placed.place item) l.last (drop l.item-index l.items) → AreInTurn g.T.Placed.fits (λ _ item. g.T.Placed.place item) l.fn.start l.items;
  back : AreInTurn g.T.Placed.fits (λ _ item. g.T.Placed.place item) l.fn.start l.items → AreInTurn g.T.Placed.fits (λ _ item. g.T.Placed.place item) l.last (drop l.item-index l.items);
}
