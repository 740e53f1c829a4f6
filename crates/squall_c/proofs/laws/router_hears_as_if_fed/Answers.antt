use Rattle.std.specs.Prelude.{ℕ, List, [], ◌∷◌, ◌++◌, None, refl}
use Rattle.std.proofs.Common.{sym, ap, subst, ◌∙◌, append-nil}
use Rattle.squall_wire.specs.Messages.{spell}
use Rattle.squall_wire.specs.Hearing.{FeedValue, IsHeard}
use Rattle.squall_wire.specs.HearingLaws.{spelled_are_heard}
use Rattle.squall_c.proofs.laws.router_hears_as_if_fed.Goals as goal

pub returns : goal.returns
returns c s m is admitted e = record {
  messages = m ∷ [];
  feed = s.feed;
  heard = record {
    unended = ap (λ (f : FeedValue). f.failed) e;
    rest = [];
    heard = subst (λ (t : List ℕ). IsHeard t (m ∷ []) None []) (append-nil (spell m) ∙ ap (λ (f : FeedValue). f.waiting ++ spell m) (sym e)) (spelled_are_heard (m ∷ []) (is, tt));
    after = e;
  };
  admitted = admitted;
  after = refl;
}
