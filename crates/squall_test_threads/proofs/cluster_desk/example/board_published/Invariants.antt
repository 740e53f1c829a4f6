use Rattle.std.specs.Prelude.{None}
use Rattle.squall_test_threads.proofs.cluster_desk.example.board_published.Given as goal

abbrev pub ghosts-shows_the_load : goal.ghosts-shows_the_load
ghosts-shows_the_load g a = record { book = a.start.book; first = a.start.first; opening = a.start.board; allowed = None }
