use Rattle.std.specs.Prelude.{None}
use Rattle.squall_test_threads.proofs.cluster.steps.step_by_step.Given as goal

abbrev pub ghosts-are_right : goal.ghosts-are_right
ghosts-are_right g a = record { book = a.start.book; first = a.start.first; opening = a.start.board; allowed = None }
