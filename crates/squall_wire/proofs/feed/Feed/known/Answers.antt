use Rattle.std.proofs.Common.{◌≤◌, length, subst}
use Rattle.squall_wire.specs.Hearing.{FeedValue, feed_with, waiting_limit}
use Rattle.squall_wire.proofs.Front.{few_wait}
use Rattle.squall_wire.proofs.feed.Feed.known.Goals as goal

pub returns-clause-few : goal.returns-clause-few
returns-clause-few c = subst (λ (f : FeedValue). length f.waiting ≤ waiting_limit) c.self.view_is (few_wait (feed_with c.self.inside.waiting.items c.self.inside.failed) c.self.invariant)
