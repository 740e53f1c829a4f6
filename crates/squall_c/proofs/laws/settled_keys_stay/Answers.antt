use Rattle.std.specs.Prelude.{◌≡◌, ℕ}
use Rattle.std.proofs.Common.{ap, ◌∙◌}
use Rattle.squall_course.specs.Change.{Change}
use Rattle.squall_board.specs.Boards.{says}
use Rattle.squall_board.specs.Route.{route}
use Rattle.squall_router.specs.Routers.{course_of_router}
use Rattle.squall_c.proofs.Settled.{stays, same_place}
use Rattle.squall_c.proofs.laws.settled_keys_stay.Goals as goal

pub returns-clause-places : goal.returns-clause-places
returns-clause-places c r v rank shows = same_place r v.table v.course rank shows.0 shows.1

pub returns-clause-stays : goal.returns-clause-stays
returns-clause-stays c r later k all same settled =
    ap (λ (d : Change). route d (says later.board) k) same ∙ stays (course_of_router r) (says r.board) (says later.board) k all.facts settled
