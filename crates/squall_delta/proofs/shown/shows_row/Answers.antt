use Rattle.squall_delta.proofs.Searched.{no_row_shown}
use Rattle.squall_delta.proofs.shown.shows_row.Goals as goal

pub returns-in-None : goal.returns-in-None
returns-in-None c = no_row_shown c.args.digest.now c.rows.result.now c.args.number c.args.sub _ c.rows.ensures.value (c.in-None.ensures.none _)
