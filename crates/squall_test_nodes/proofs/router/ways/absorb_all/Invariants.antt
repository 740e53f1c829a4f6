use Rattle.std.proofs.Common.{◌≡◌, drop}
use Rattle.squall_board.specs.Boards.{BoardValue}
use Rattle.squall_headline.specs.Ways.{TakesIn}
use Rattle.squall_test_nodes.proofs.router.ways.absorb_all.Given as goal

abbrev pub invariant-loop-message : goal.invariant-loop-message
invariant-loop-message l = (l.router.first ≡ l.fn.router.first) × ((after : BoardValue) → TakesIn (drop l.message-index l.messages) l.router.board after → TakesIn l.messages l.fn.router.board after)
