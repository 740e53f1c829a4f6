use Rattle.std.specs.Prelude.{None}
use Rattle.squall_test_threads.proofs.cluster.tolerant.tolerant_cluster.Given as goal

abbrev pub ghosts-loses_nothing : goal.ghosts-loses_nothing
ghosts-loses_nothing g a = record { book = a.start.book; first = a.start.first; opening = a.start.board; allowed = None }
