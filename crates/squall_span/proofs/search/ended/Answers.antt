use Rattle.squall_span.proofs.Places.{ends_rise}
use Rattle.squall_span.proofs.search.ended.Goals as goal

pub ended-requires : goal.ended-requires
ended-requires c = ends_rise c.args.spans.now c.requires
