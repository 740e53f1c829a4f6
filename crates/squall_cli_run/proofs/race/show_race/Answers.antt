use Rattle.std.proofs.Common.{take}
use Rattle.std.specs.Prelude.{string_bytes}
use Rattle.squall_cli_run.proofs.Sent.{front_shown}
use Rattle.squall_cli_run.proofs.race.show_race.Goals as goal

pub returns-clause-text : goal.returns-clause-text
returns-clause-text g c =
    let race = c.in_ok-ended.ensures in
    let sent = c.in-Err.ensures.err in
    let front = front_shown c.as_str.result.now (string_bytes c.new-out.result) (string_bytes c.answer_race.new.out) race.0 sent.0 c.as_str.ensures.value race.1 c.new-out.ensures.bytes in
    (take sent.0 c.as_str.result.now, sent.1, (c.in_ok-ended.ended, race.0, race.2, front))
