-- Updates of values that a board takes in place.
use Rattle.std.specs.Arc.{arc_value}
use Rattle.squall_join.specs.declared.flat.Flat.{Flat}
use Rattle.squall_join.specs.declared.flat.Flat.TheVariants.{One as One_pair, Clash as No_pair}
use Rattle.squall_report.specs.Issues.{PlanPair}
use Rattle.squall_board.specs.declared.update.Issuing.{Issuing}
use Rattle.squall_board.specs.declared.update.Issuing.TheVariants.{One, Clash}

-- what is issued, as a board holds it
abbrev pub issuing_value : Issuing → Flat PlanPair
issuing_value (One issue) = One_pair (arc_value issue.now)
issuing_value Clash = No_pair
