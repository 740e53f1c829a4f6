use Rattle.squall_delta.proofs.Searched.{no_issue_shown}
use Rattle.squall_delta.proofs.shown.shows_issue.Goals as goal

pub returns-in-None : goal.returns-in-None
returns-in-None c = no_issue_shown c.args.digest.now c.issue_rows.result.now c.args.number _ c.issue_rows.ensures.value (c.in-None.ensures.none _)
