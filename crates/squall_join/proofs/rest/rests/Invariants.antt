use Rattle.std.proofs.Common.{◌≡◌, take}
use Rattle.squall_join.specs.Rests.{map_beyond}
use Rattle.squall_join.proofs.Remains.{IsBelow}
use Rattle.squall_join.proofs.rest.rests.Given as goal

abbrev pub invariant-loop-entry : goal.invariant-loop-entry
invariant-loop-entry g l = record {
  below : IsBelow g.K.Ord.cmp l.a l.b l.entry-index l.at;
  so_far : l.out.items ≡ map_beyond g.K.Ord.cmp g.V.Beyond.covered g.V.Beyond.beyond (take l.entry-index l.a) l.b;
}
