use Rattle.std.specs.Prelude.{◌≡◌, ℕ, List, Option}
use Rattle.std.proofs.Common.{sym, subst}
use Rattle.squall_wire.specs.declared.fault.WireFault.{WireFault}
use Rattle.squall_wire.specs.declared.message.Message.{Message}
use Rattle.squall_wire.specs.Hearing.{FeedValue, HearsOn}
use Rattle.squall_wire.specs.HearingLaws.{one_push}
use Rattle.squall_c_frames.proofs.twin_feed.TwinFeed.follow.Goals as goal

-- two feeds that wait for the same wait for the same after a piece
wait_alike : (value feed ahead end : FeedValue) (s : List ℕ) (ms ns : List Message) (f g : Option WireFault) → feed ≡ value → HearsOn value s ms f ahead → HearsOn feed s ns g end → ahead ≡ end
wait_alike value feed ahead end s ms ns f g same a b = (one_push value ahead end s ms ns f g a (subst (λ (o : FeedValue). HearsOn o s ns g end) same b)).2

pub invariant_of-self-2 : goal.invariant_of-self-2
invariant_of-self-2 c = wait_alike _ _ _ _ _ _ _ _ _ c.self.view_is c.requires c.in_ok-_again.ensures.heard

pub returns-clause-taken : goal.returns-clause-taken
returns-clause-taken c = sym (wait_alike _ _ _ _ _ _ _ _ _ c.self.view_is c.requires c.in_ok-_again.ensures.heard)
