use Rattle.std.proofs.Common.{subst}
use Rattle.squall_cli_audit.specs.LogTexts.{IsLogOf}
use Rattle.squall_cli_audit.proofs.Lists.{logs_more}
use Rattle.squall_cli_audit.proofs.files.read_files.Goals as goal

pub loop-index-preserved : goal.loop-index-preserved
loop-index-preserved c =
    let read = c.in-Ok.field-0 in
    logs_more (λ ns. ns.items) c.args.files.now c.loop-index.index c.index-files-index.result c.loop-index.logs.items c.push.new.self.items c.loop-index.lines.items c.push-in-Ok.new.self.items read.log
    read.lines c.loop-index-test.true c.index-files-index.is c.loop-index.invariant
    (subst (λ text. IsLogOf text read.log read.lines.items) c.text.ensures (rw c.in-Ok.is at c.in_ok-log.ensures))
    c.in_ok-push-in-Ok.ensures.items c.in_ok-push-in-Ok-2.ensures.items
