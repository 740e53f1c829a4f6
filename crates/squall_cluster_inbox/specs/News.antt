-- What a letter brings (this project).
use Rattle.squall_board.specs.Boards.{BoardValue, report_board}
use Rattle.squall_cluster_inbox.specs.declared.letter.Content.{Content}
use Rattle.squall_cluster_inbox.specs.declared.letter.Content.TheVariants as held
use Rattle.squall_cluster_inbox.specs.declared.letter.News.{News}
use Rattle.squall_cluster_inbox.specs.declared.letter.News.TheVariants as lent

-- the board of what a letter holds: the delta itself, or the board of the one report
abbrev pub board_in : Content → BoardValue
board_in (held.Delta d) = d
board_in (held.Report r) = report_board r

-- the same of what it lends
abbrev pub news_board : News → BoardValue
news_board (lent.Delta d) = d.now
news_board (lent.Report r) = report_board r.now
