use Rattle.std.specs.Prelude.{string_bytes}
use Rattle.std.proofs.Common.{length, map}
use Rattle.squall_cli_audit.proofs.Judgments.{lines_fit, logs_fit, taken_fit, judgment_shows, fault_shows}
use Rattle.squall_cli_audit.proofs.answer.show_logs.Goals as goal

pub show_judgment-requires-clause-lines : goal.show_judgment-requires-clause-lines
show_judgment-requires-clause-lines c = lines_fit (λ ns. ns.items) c.args.files.now c.args.read.now.logs.items c.args.read.now.lines.items c.requires

pub show_judgment-requires-clause-taken : goal.show_judgment-requires-clause-taken
show_judgment-requires-clause-taken c =
    taken_fit c.args.old.now c.args.new.now c.deref.result.now c.in-Ok.judgment (length c.args.files.now)
    (logs_fit c.args.files.now c.args.read.now.logs.items c.deref.result.now (map (λ ns. ns.items) c.args.read.now.lines.items) c.deref.ensures.value c.requires) c.in-Ok.ensures.ok

pub refuse_logs-requires : goal.refuse_logs-requires
refuse_logs-requires c =
    logs_fit c.args.files.now c.args.read.now.logs.items c.deref-in-Err.result.now (map (λ ns. ns.items) c.args.read.now.lines.items) c.deref-in-Err.ensures.value c.requires

pub returns-in-Ok : goal.returns-in-Ok
returns-in-Ok c =
    judgment_shows c.args.old.now c.args.new.now c.args.files.now c.args.read.now.logs.items c.deref.result.now (map (λ ns. ns.items) c.args.read.now.lines.items) c.in-Ok.judgment c.show_judgment.result
    (string_bytes c.args.out.now) (string_bytes c.show_judgment.new.out) c.deref.ensures.value c.in-Ok.ensures.ok c.show_judgment.ensures

pub returns-in-Err : goal.returns-in-Err
returns-in-Err c =
    fault_shows c.args.old.now c.args.new.now c.args.files.now c.args.read.now.logs.items c.deref-in-Err.result.now (map (λ ns. ns.items) c.args.read.now.lines.items) c.refuse_logs.result
    (string_bytes c.args.out.now) (string_bytes c.refuse_logs.new.out) c.deref-in-Err.ensures.value c.refuse_logs.ensures
