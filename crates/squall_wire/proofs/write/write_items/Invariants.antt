use Rattle.std.proofs.Common.{◌≡◌, ◌++◌, take}
use Rattle.std.specs.List.{flat_map, AllByRecursion}
use Rattle.squall_wire.proofs.write.write_items.Given as goal

abbrev pub invariant-loop-item : goal.invariant-loop-item
invariant-loop-item g l = record {
  written : l.out.items ≡ l.fn.out.items ++ flat_map g.T.Spelled.spelling (take l.item-index l.items);
  known : AllByRecursion g.T.Spelled.holds (take l.item-index l.items);
}
