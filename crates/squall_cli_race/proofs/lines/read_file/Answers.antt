use Rattle.std.proofs.Common.{◌∙◌, ap, sym, subst, Err}
use Rattle.squall_cli_lines.specs.Lines.{lines_of}
use Rattle.squall_cli_lines.specs.Words.{without_cr}
use Rattle.squall_cli_race.specs.RaceLines.{race_line}
use Rattle.squall_cli_race.specs.RaceFiles.{at_next_line, take_line, after_lines}
use Rattle.squall_cli_race.specs.Taken.{IsRead}
use Rattle.squall_cli_race.proofs.Follows.{bad_follows, others_follow}
use Rattle.squall_cli_race.proofs.lines.read_file.Goals as goal

pub returns-in-Err : goal.returns-in-Err
returns-in-Err c =
    let before = c.loop-line.file in
    let after = take_line (at_next_line before) (race_line (without_cr c.in-Some.line.now)) in
    subst (IsRead (Err c.in-Err.bad)) (ap (after_lines before) (sym c.in-Some.ensures.lines) ∙ c.loop-line.invariant)
    (bad_follows c.in-Err.bad c.take_next.new.file (at_next_line before).line (λ t. after_lines t (lines_of c.in-Some.others.now)) after (rw c.in-Err.is at c.in_ok-take_next.ensures))

pub loop-line-preserved : goal.loop-line-preserved
loop-line-preserved c =
    let before = c.loop-line.file in
    let after = take_line (at_next_line before) (race_line (without_cr c.in-Some.line.now)) in
    sym (others_follow _ c.take_next.new.file (at_next_line before).line (λ t. after_lines t (lines_of c.in-Some.others.now)) after (rw c.in-Ok.is at c.in_ok-take_next.ensures))
    ∙ (ap (after_lines before) (sym c.in-Some.ensures.lines) ∙ c.loop-line.invariant)
