use Rattle.std.proofs.Common.{◌≡◌, ◌≤◌, ◌-◌, length, take}
use Rattle.squall_table.specs.LegEntries.{entries_of}
use Rattle.squall_table.proofs.entries.entries_of.Given as goal

abbrev pub invariant-loop-leg : goal.invariant-loop-leg
invariant-loop-leg l = record {
  entries : l.entries.entries ≡ entries_of (take l.leg-index l.legs);
  room : length l.legs - l.leg-index ≤ l.entries.room;
}
