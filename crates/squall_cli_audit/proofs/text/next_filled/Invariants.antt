use Rattle.std.proofs.Common.{◌≡◌, ◌≤◌, ◌+◌, length}
use Rattle.squall_cli_audit.specs.LogTexts.{filled_lines}
use Rattle.squall_cli_audit.proofs.text.next_filled.Given as goal

abbrev pub invariant-loop-line : goal.invariant-loop-line
invariant-loop-line l =
    (filled_lines l.number l.rest ≡ filled_lines l.first l.text) × (l.number + length l.rest ≤ l.first + length l.text) × (length l.rest ≤ length l.text)

abbrev pub decreases-loop-line : goal.decreases-loop-line
decreases-loop-line l = length l.rest
