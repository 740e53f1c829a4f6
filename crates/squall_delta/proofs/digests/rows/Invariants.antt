use Rattle.std.proofs.Common.{◌≡◌, ◌<◌, take, map}
use Rattle.std.specs.List.{flat_map, AllByRecursion}
use Rattle.squall_wire.specs.Limits.{word_limit}
use Rattle.squall_delta.specs.Hashes.{row_of}
use Rattle.squall_delta.proofs.digests.rows.Given as goal

abbrev pub invariant-loop-entry : goal.invariant-loop-entry
invariant-loop-entry l = record {
  rows : l.rows.items ≡ flat_map (λ e. map (row_of e.0) e.1) (take l.entry-index l.numbers);
  words : AllByRecursion (λ e. e.0 < word_limit) (take l.entry-index l.numbers);
}
