use Rattle.std.proofs.Common.{◌≤◌, length}
use Rattle.squall_key.proofs.Digits.{ReadSoFar}
use Rattle.squall_cli_events.proofs.most.read_most.Given as goal

abbrev pub invariant-loop-b : goal.invariant-loop-b
invariant-loop-b l = record {
  few : length l.text ≤ 20;
  some : 1 ≤ length l.text;
  read : ReadSoFar l.text l.b-index l.value;
}
