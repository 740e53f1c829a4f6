use Rattle.std.specs.Prelude.{None}
use Rattle.squall_test_threads.proofs.cluster.example.letter_routes.Given as goal

abbrev pub ghosts-runs : goal.ghosts-runs
ghosts-runs g a = record { book = a.start.book; first = a.start.first; opening = a.start.board; allowed = None }
