-- What a board and its table take (this project).
use Rattle.squall_board.specs.Boards.{BoardValue, report_board}
use Rattle.squall_table.specs.declared.news.News.{News}
use Rattle.squall_table.specs.declared.news.News.TheVariants.{Delta, Report}

-- the board of the news: the delta itself, or the board of the one report
abbrev pub news_board : News → BoardValue
news_board (Delta d) = d.now
news_board (Report r) = report_board r.now
