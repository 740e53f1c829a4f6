use Rattle.std.proofs.Common.{⊎_elim}
use Rattle.squall_audit.specs.Logs.{AreFirst, ComesNext}
use Rattle.squall_audit.proofs.laws.what_is_left_is_in_no_run.Goals as goal

pub returns : goal.returns
returns c = λ s u logs taken reached has first none other v may in_logs. ⊎_elim
    (λ (all : AreFirst other taken). all)
    (λ (next : ComesNext u logs taken). absurd (none next))
    (c.logs_are_judged.ensures.judged s u v logs taken other reached has first may in_logs)
