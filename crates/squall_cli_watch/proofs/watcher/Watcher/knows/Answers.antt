use Rattle.squall_cli_watch.proofs.News.{covers_join}
use Rattle.squall_cli_watch.proofs.watcher.Watcher.knows.Goals as goal

pub returns-then-not-is_empty-clause-same : goal.returns-then-not-is_empty-clause-same
returns-then-not-is_empty-clause-same c = λ e.
    covers_join c.args.self.now.board c.args.delta.now c.known.ensures.board c.known-2.ensures.board (c.covers.ensures.0 e)
