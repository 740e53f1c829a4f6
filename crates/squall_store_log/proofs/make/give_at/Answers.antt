use Rattle.std.proofs.Common.{subst}
use Rattle.squall_part.specs.Parts.{IsPart}
use Rattle.squall_store_log.proofs.Gifts.{gave_at}
use Rattle.squall_store_log.proofs.make.give_at.Goals as goal

pub returns-in-Ok-clause-ok : goal.returns-in-Ok-clause-ok
returns-in-Ok-clause-ok c = gave_at c.args.store.now c.give_at-given.new.self c.args.key c.in-Ok.chunk c.in-Ok.ensures.answer (subst IsPart c.part.ensures c.known.ensures) c.give_at-given.ensures.rows
