use Rattle.std.specs.Prelude.{Some}
use Rattle.squall_cluster.specs.Race.{lists_of}
use Rattle.squall_cluster.proofs.racing.race.Given as goal

abbrev pub ghosts-race_in : goal.ghosts-race_in
ghosts-race_in g a = record { book = a.start.book; first = a.start.first; opening = a.start.board; allowed = Some (lists_of a.tasks.lists.now) }
