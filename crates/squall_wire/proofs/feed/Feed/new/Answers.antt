use Rattle.std.proofs.Common.{List, ℕ, false, sym, subst}
use Rattle.squall_wire.specs.Hearing.{IsFeed, feed_with}
use Rattle.squall_wire.specs.HearingLaws.{new_is_feed}
use Rattle.squall_wire.proofs.feed.Feed.new.Goals as goal

pub invariant_of-result : goal.invariant_of-result
invariant_of-result c = subst (λ (xs : List ℕ). IsFeed (feed_with xs false)) (sym c.new.ensures.items) new_is_feed
