use Rattle.std.proofs.Common.{subst, arith}
use Rattle.squall_log.proofs.Heads.{two_parts, damaged_head}
use Rattle.squall_log.specs.Entries.{IsDamaged}
use Rattle.squall_log.proofs.entry.first_entry.Goals as goal

pub returns-in-None-clause-end : goal.returns-in-None-clause-end
returns-in-None-clause-end c =
    subst IsDamaged (two_parts 8 c.args.bytes.now c.split_at.result.0.now c.split_at.result.1.now c.split_at.ensures.front c.split_at.ensures.back)
    (damaged_head c.split_at.result.0.now c.split_at.result.1.now (omega (arith, c.split_at.ensures.front_len)) c.in-None.ensures.none)
