use Rattle.std.proofs.Common.{◌≡◌, OnOk, subst, sym}
use Rattle.std.proofs.lemmas.Result.{on_ok_weaker}
use Rattle.squall_board.specs.Boards.{board_join}
use Rattle.squall_board.specs.Takes.{TakesBoard, TakesReport}
use Rattle.squall_table.specs.News.{news_board}
use Rattle.squall_router.proofs.hear.take_news.Goals as goal

pub returns-in-Delta-clause-joined : goal.returns-in-Delta-clause-joined
returns-in-Delta-clause-joined c = subst (λ n. OnOk c.merge.result (c.merge.new.self ≡ board_join c.args.board.now (news_board n))) (sym c.in-Delta.is) (on_ok_weaker c.merge.result (λ (k : TakesBoard c.args.board.now c.in-Delta.delta.now c.merge.new.self). k.joined) c.merge.ensures.takes)

pub returns-in-Report-clause-joined : goal.returns-in-Report-clause-joined
returns-in-Report-clause-joined c = subst (λ n. OnOk c.take.result (c.take.new.self ≡ board_join c.args.board.now (news_board n))) (sym c.in-Report.is) (on_ok_weaker c.take.result (λ (k : TakesReport c.args.board.now c.in-Report.report.now c.take.new.self). k.joined) c.take.ensures.takes)
