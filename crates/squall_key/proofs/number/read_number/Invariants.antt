use Rattle.std.proofs.Common.{◌≤◌, length}
use Rattle.squall_key.proofs.Digits.{ReadSoFar}
use Rattle.squall_key.proofs.number.read_number.Given as goal

abbrev pub invariant-loop-b : goal.invariant-loop-b
invariant-loop-b l = record {
  few : length l.text ≤ 10;
  some : 1 ≤ length l.text;
  read : ReadSoFar l.text l.b-index l.value;
}
