-- What a run answers to an input.
use Rattle.std.specs.Prelude.{ℕ, List}
use Rattle.squall_cli_lines.specs.Script.{Script}
use Rattle.squall_cli_scenario.specs.State.{at_start}
use Rattle.squall_cli_scenario.specs.Replies.{MayAnswer}

-- a scenario answers the lines of its input by the script, from the start: an answer to each line up to a bad one. There is one script for
-- any lines, since to each event of a world, and to each command on a row, there is one answer.
abbrev pub IsScript : List (List ℕ) → Script → Type 0
IsScript lines script = MayAnswer at_start lines script
