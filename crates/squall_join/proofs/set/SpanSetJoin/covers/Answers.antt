use Rattle.squall_join.specs.SetLaws.{covers_by_keys}
use Rattle.squall_join.proofs.set.SpanSetJoin.covers.Goals as goal

pub returns : goal.returns
returns c =
    let keys = covers_by_keys c.args.self.now c.args.other.now c.known.ensures c.known-2.ensures in
    (λ h. keys.1 (c.covers.ensures.0 h), λ e. c.covers.ensures.1 (keys.0 e))
