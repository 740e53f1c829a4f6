use Rattle.std.proofs.lemmas.List.Filters.{dedup_is}
use Rattle.squall_course.proofs.Filed.{are_receivers}
use Rattle.squall_course.proofs.gather.receivers.Goals as goal

pub returns : goal.returns
returns c = are_receivers c.args.sub c.args.arriving.now c.arrivals.result.now c.in_ok-parts.parts.items _ c.arrivals.ensures.value c.arrivals.ensures.rise c.in_ok-parts.ensures (dedup_is _ _ _ c.dedup.ensures.filtered)
