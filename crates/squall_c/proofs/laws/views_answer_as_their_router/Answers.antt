use Rattle.squall_c.proofs.CutLegs.{same_part, same_shown}
use Rattle.squall_c.proofs.laws.views_answer_as_their_router.Goals as goal

pub returns-clause-routes : goal.returns-clause-routes
returns-clause-routes c r v rank shows = same_part r v.table rank shows.0

pub returns-clause-legs : goal.returns-clause-legs
returns-clause-legs c r v lo hi shows = same_shown r v.table lo hi shows.0
