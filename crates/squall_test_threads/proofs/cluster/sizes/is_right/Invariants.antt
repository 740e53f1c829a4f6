use Rattle.std.specs.Prelude.{None}
use Rattle.squall_test_threads.proofs.cluster.sizes.is_right.Given as goal

abbrev pub ghosts-sized : goal.ghosts-sized
ghosts-sized g a = record { book = a.start.book; first = a.start.first; opening = a.start.board; allowed = None }
