use Rattle.std.proofs.Common.{subst}
use Rattle.squall_part.specs.Parts.{IsPart}
use Rattle.squall_store_log.proofs.Gifts.{gave}
use Rattle.squall_store_log.proofs.make.give.Goals as goal

pub returns-in-Ok-clause-ok : goal.returns-in-Ok-clause-ok
returns-in-Ok-clause-ok c = gave c.args.store.now c.give-given.new.self c.args.most c.in-Ok.chunk c.in-Ok.ensures.answer (subst IsPart c.part.ensures c.known.ensures) c.give-given.ensures.rows
