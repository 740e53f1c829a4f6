use Rattle.std.proofs.Common.{◌≡◌, ◌+◌, ◌≤◌, map, drop}
use Rattle.json.specs.Tape.{node_token}
use Rattle.squall_plan.specs.Shown.{is_readable}
use Rattle.squall_plan.proofs.tape.are_readable.Given as goal

abbrev pub invariant-loop-node : goal.invariant-loop-node
invariant-loop-node l =
    (is_readable l.room (drop l.node-index (map node_token l.nodes)) ≡ is_readable 127 (map node_token l.nodes)) × (l.room ≤ 127 + l.node-index)
