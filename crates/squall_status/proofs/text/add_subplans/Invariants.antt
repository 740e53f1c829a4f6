use Rattle.std.specs.Prelude.{string_bytes}
use Rattle.std.proofs.Common.{◌≡◌, ◌++◌, drop}
use Rattle.squall_status.specs.Texts.{subplan_lines}
use Rattle.squall_status.proofs.text.add_subplans.Given as goal

abbrev pub invariant-loop-status : goal.invariant-loop-status
invariant-loop-status l = string_bytes l.out ++ subplan_lines (drop l.status-index l.subplans) ≡ string_bytes l.fn.out ++ subplan_lines l.subplans
