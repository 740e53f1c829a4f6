use Rattle.std.proofs.Common.{◌≡◌, ◌≤◌, length, drop}
use Rattle.squall_board.specs.Boards.{empty_board}
use Rattle.squall_world.specs.Nets.{news_to}
use Rattle.squall_world.proofs.reports.news.Given as goal

-- the news so far and those of the nodes to come make all
abbrev pub invariant-loop-at : goal.invariant-loop-at
invariant-loop-at l = (length l.counts ≤ length l.peers) × (news_to l.board (drop l.at l.peers) (drop l.at l.known) (drop l.at l.counts) ≡ news_to empty_board l.peers l.known l.counts)
