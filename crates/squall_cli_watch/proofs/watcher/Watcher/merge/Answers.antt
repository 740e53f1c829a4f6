use Rattle.std.proofs.Common.{sym, subst}
use Rattle.std.specs.Prelude.{string_bytes}
use Rattle.squall_cli_watch.specs.Watched.{IsNewestStatus}
use Rattle.squall_cli_watch.proofs.News.{nothing_added}
use Rattle.squall_cli_watch.proofs.Framed.{going_on}
use Rattle.squall_cli_watch.proofs.watcher.Watcher.merge.Goals as goal

pub returns-then-knows-clause-status : goal.returns-then-knows-clause-status
returns-then-knows-clause-status c =
    let going = c.requires.current (c.knows.ensures.answered c.if-knows.true) in (
      going.status,
      subst (λ b. IsNewestStatus c.args.self.now.first b going.status) (sym (c.knows.ensures.same c.if-knows.true)) going.is,
      going.shown,
      going_on c.args.self.now.how going.status going.goes,
    )

pub returns-clause-status : goal.returns-clause-status
returns-clause-status c = (
  c.in_ok-status.status,
  subst (λ b. IsNewestStatus c.args.self.now.first b c.in_ok-status.status) c.in_ok-merge.ensures.takes.joined c.in_ok-status.ensures,
  c.in_ok-text.ensures,
  c.next_with.ensures,
)

pub returns-then-knows-clause-out : goal.returns-then-knows-clause-out
returns-then-knows-clause-out c = nothing_added c.args.self.now.how.form (string_bytes c.args.self.now.shown) c.args.out.now.items
