use Rattle.std.proofs.Common.{◌≡◌, length}
use Rattle.squall_cli_lines.specs.Lines.{lines_of}
use Rattle.squall_cli_race.specs.RaceFiles.{at_start, after_lines}
use Rattle.squall_cli_race.proofs.lines.read_file.Given as goal

abbrev pub invariant-loop-line : goal.invariant-loop-line
invariant-loop-line l = after_lines l.file (lines_of l.rest) ≡ after_lines at_start (lines_of l.text)

abbrev pub decreases-loop-line : goal.decreases-loop-line
decreases-loop-line l = length l.rest
