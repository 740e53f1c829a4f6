use Rattle.std.proofs.Common.{◌≡◌, ◌<◌, take, map}
use Rattle.std.specs.Arc.{arc_value}
use Rattle.std.specs.List.{AllByRecursion}
use Rattle.squall_join.specs.Flats.{flat_map}
use Rattle.squall_wire.specs.Limits.{word_limit}
use Rattle.squall_delta.specs.Hashes.{issue_row_of}
use Rattle.squall_delta.proofs.digests.issue_rows.Given as goal

abbrev pub invariant-loop-entry : goal.invariant-loop-entry
invariant-loop-entry l = record {
  rows : l.rows.items ≡ map (λ e. issue_row_of (e.0, flat_map arc_value e.1)) (take l.entry-index l.issues);
  words : AllByRecursion (λ row. row.number < word_limit) l.rows.items;
}
