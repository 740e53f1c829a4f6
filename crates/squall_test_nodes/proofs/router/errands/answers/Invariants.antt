use Rattle.std.proofs.Common.{◌≡◌, ◌++◌, drop}
use Rattle.squall_errand.specs.Errands.{answers_of}
use Rattle.squall_test_nodes.proofs.router.errands.answers.Given as goal

-- the answers so far and those to come are all
abbrev pub invariant-loop-reply : goal.invariant-loop-reply
invariant-loop-reply l = l.answers.items ++ answers_of l.errand (drop l.reply-index l.replies) ≡ answers_of l.fn.errand l.replies
