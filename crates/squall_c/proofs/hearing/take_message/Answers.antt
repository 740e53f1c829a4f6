use Rattle.std.proofs.lemmas.Result.{on_ok_weaker}
use Rattle.squall_c.proofs.Wholes.{delta_heard, delta_admitted, delta_refused, digest_heard, digest_admitted}
use Rattle.squall_c.proofs.hearing.take_message.Goals as goal

pub returns-in-Delta-clause-heard : goal.returns-in-Delta-clause-heard
returns-in-Delta-clause-heard c = on_ok_weaker c.take_delta.result (delta_heard c.args.station.now c.take_delta.new.station c.args.message c.in-Delta.delta c.requires c.in-Delta.is) c.take_delta.ensures.heard

pub returns-in-Delta-clause-admitted : goal.returns-in-Delta-clause-admitted
returns-in-Delta-clause-admitted c = on_ok_weaker c.take_delta.result (delta_admitted c.args.station.now c.args.message c.in-Delta.delta c.requires c.in-Delta.is) c.take_delta.ensures.within

pub returns-in-Delta-clause-full : goal.returns-in-Delta-clause-full
returns-in-Delta-clause-full c = λ e. delta_refused c.args.station.now c.args.message c.in-Delta.delta c.requires c.in-Delta.is (c.take_delta.ensures.full e)

pub returns-in-Digest-clause-heard : goal.returns-in-Digest-clause-heard
returns-in-Digest-clause-heard c = digest_heard c.args.station.now c.take_digest.new.station c.args.message c.in-Digest.digest c.in-Digest.is c.known.ensures.board c.take_digest.ensures

pub returns-in-Digest-clause-admitted : goal.returns-in-Digest-clause-admitted
returns-in-Digest-clause-admitted c = digest_admitted c.args.station.now c.args.message c.in-Digest.digest c.in-Digest.is
