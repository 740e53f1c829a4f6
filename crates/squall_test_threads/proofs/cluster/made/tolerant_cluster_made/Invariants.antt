use Rattle.std.specs.Prelude.{None}
use Rattle.squall_test_threads.proofs.cluster.made.tolerant_cluster_made.Given as goal

abbrev pub ghosts-made_or_refused : goal.ghosts-made_or_refused
ghosts-made_or_refused g a = record { book = a.start.book; first = a.start.first; opening = a.start.board; allowed = None }
