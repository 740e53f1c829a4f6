use Rattle.std.proofs.Common.{◌∙◌, ap, refl, subst, Ok, Some}
use Rattle.squall_cli_lines.specs.Words.{without_cr}
use Rattle.squall_cli_race.specs.RaceLines.{race_line}
use Rattle.squall_cli_race.specs.RaceFiles.{RaceState, at_next_line, take_line}
use Rattle.squall_cli_race.specs.Taken.{Took}
use Rattle.squall_cli_race.proofs.Follows.{bad_next}
use Rattle.squall_cli_race.proofs.lines.take_next.Goals as goal

pub returns-in-Some : goal.returns-in-Some
returns-in-Some c =
    bad_next record { number = c.file.inside.line; reason = c.in-Some.reason } c.in-Some.reason c.take_line.new.file (at_next_line c.args.file.now).line
    (take_line (at_next_line c.args.file.now) (race_line (without_cr c.args.line.now)))
    (ap (λ (s : RaceState). s.line) (c.file.view_is ∙ c.count_line.ensures)) refl (subst (λ s. Took (Ok (Some c.in-Some.reason)) c.take_line.new.file (take_line s (race_line (without_cr c.args.line.now)))) c.count_line.ensures (rw c.in-Some.is at c.in_ok-reason.ensures))
