use Rattle.std.specs.Prelude.{string_bytes}
use Rattle.squall_cli_lines.specs.Lines.{lines_of}
use Rattle.squall_cli_race.specs.RaceFiles.{at_start, after_lines}
use Rattle.squall_cli_race.proofs.Follows.{shows_if_ok}
use Rattle.squall_cli_race.proofs.show.answer_race.Goals as goal

pub returns-in-Ok : goal.returns-in-Ok
returns-in-Ok g c =
    shows_if_ok c.run_file.result (string_bytes c.args.out.now) (string_bytes c.run_file.new.out) c.in-Ok.file (after_lines at_start (lines_of c.args.text.now))
    (rw c.in-Ok.is at c.in_ok-file.ensures) c.run_file.ensures
