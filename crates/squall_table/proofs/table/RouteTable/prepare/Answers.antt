use Rattle.std.proofs.Common.{[], ◌∷◌, ap, ◌∙◌}
use Rattle.squall_span.specs.Spans.{has}
use Rattle.squall_table.specs.declared.routes.Heard.TheVariants.{All}
use Rattle.squall_table.specs.Legs.{said}
use Rattle.squall_table.specs.News.{news_board}
use Rattle.squall_table.specs.Patching.{IsRenewed}
use Rattle.squall_table.specs.Readiness.{Absorbs}
use Rattle.squall_table.proofs.OneLoad.{ok_weaker}
use Rattle.squall_table.proofs.Readied.{absorbs}
use Rattle.squall_table.proofs.table.RouteTable.prepare.Goals as goal

pub returns-in-Some-clause-after : goal.returns-in-Some-clause-after
returns-in-Some-clause-after c =
    let set = c.in-Some.load.span ∷ [] in
    let d = news_board c.args.news in
    ok_weaker c.in_block.result (λ r. IsRenewed c.args.course.now (said All) set c.args.self r.after) (λ r. Absorbs c.args.course.now d c.args.self r.after)
    (λ r l. absorbs c.args.course.now d set c.args.self r.after c.know_moves.ensures.meaning c.know_news.ensures c.in-Some.ensures.keys l) c.in_block.ensures.after

pub returns-in-Ok-clause-after : goal.returns-in-Ok-clause-after
returns-in-Ok-clause-after c =
    let set = c.deref.result.now in
    let d = news_board c.args.news in
    ok_weaker c.drafted.result (λ r. IsRenewed c.args.course.now (said All) set c.args.self r.after) (λ r. Absorbs c.args.course.now d c.args.self r.after)
    (λ r l. absorbs c.args.course.now d set c.args.self r.after c.know_moves.ensures.meaning c.know_news.ensures (λ k. ap (λ s. has s k) c.deref.ensures.value ∙ c.in-Ok.ensures.keys k) l) c.drafted.ensures.after
