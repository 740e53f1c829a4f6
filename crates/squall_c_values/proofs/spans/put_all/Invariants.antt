use Rattle.std.proofs.Common.{◌≡◌, ◌≤◌, take, drop, map, length}
use Rattle.squall_c_values.specs.Rooms.{over}
use Rattle.squall_c_values.specs.Values.{c_span}
use Rattle.squall_c_values.proofs.spans.put_all.Given as goal

abbrev pub invariant-loop-count : goal.invariant-loop-count
invariant-loop-count l = record {
  room : l.room ≡ over (take l.count (map c_span l.fn.spans)) l.fn.room;
  rest : l.spans ≡ drop l.count l.fn.spans;
  within : l.count ≤ length l.fn.spans;
  same : length l.room ≡ length l.fn.room;
  fits : l.count ≤ length l.fn.room;
}
