use Rattle.std.specs.Prelude.{None}
use Rattle.squall_test_threads.proofs.cluster.clusters.two_at_once.Given as goal

abbrev pub ghosts-asked-J-Constants : goal.ghosts-asked-J-Constants
ghosts-asked-J-Constants g a = record { book = a.here.book; first = a.here.first; opening = a.here.board; allowed = None }

abbrev pub ghosts-asked-K-Constants : goal.ghosts-asked-K-Constants
ghosts-asked-K-Constants g a = record { book = a.there.book; first = a.there.first; opening = a.there.board; allowed = None }
