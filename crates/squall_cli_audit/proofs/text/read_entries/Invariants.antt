use Rattle.std.proofs.Common.{◌≡◌, ◌<◌, ◌+◌, ◌^◌, ◌++◌, ℕ, List, length}
use Rattle.squall_cli_audit.specs.LogTexts.{filled_lines, Says}
use Rattle.squall_cli_audit.proofs.text.read_entries.Given as goal

abbrev pub invariant-loop-number : goal.invariant-loop-number
invariant-loop-number l =
    ((before : List (ℕ × List ℕ)) × (filled_lines l.first l.text ≡ before ++ filled_lines l.next l.rest) × Says l.node before l.entries.items l.lines.items)
    × (l.next + length l.rest < 2 ^ 64)

abbrev pub decreases-loop-number : goal.decreases-loop-number
decreases-loop-number l = length l.rest
