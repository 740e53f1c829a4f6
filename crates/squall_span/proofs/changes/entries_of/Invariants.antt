use Rattle.std.proofs.Common.{◌≡◌, ◌≤◌, ◌-◌, length, take}
use Rattle.squall_span.specs.Many.{entries_of}
use Rattle.squall_span.proofs.changes.entries_of.Given as goal

abbrev pub invariant-loop-span : goal.invariant-loop-span
invariant-loop-span l = record {
  entries : l.entries.entries ≡ entries_of (take l.span-index l.spans);
  room : length l.spans - l.span-index ≤ l.entries.room;
}
