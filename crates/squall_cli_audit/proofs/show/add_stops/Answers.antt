use Rattle.std.specs.Prelude.{None, string_bytes}
use Rattle.std.proofs.Common.{◌++◌, ◌∙◌, ap}
use Rattle.std.proofs.Math.ListN.{get_or}
use Rattle.squall_cli_audit.specs.AuditText.{refused_text}
use Rattle.squall_cli_audit.proofs.Lists.{refused_from, grows_by}
use Rattle.squall_cli_audit.proofs.show.add_stops.Goals as goal

pub loop-i-preserved : goal.loop-i-preserved
loop-i-preserved c =
    let t = get_or c.args.taken.now c.loop-i.i 0 in
    let out = string_bytes c.loop-i.out in
    let f = c.index-files-i.result in
    let k = get_or c.args.causes.now c.loop-i.i None in
    grows_by out (string_bytes c.add_stop.new.out) (refused_text f.name c.index-lines-i.result.items t k) _ _ _
    (c.in_ok-add_stop.ensures ∙ (ap (λ n. out ++ refused_text n c.deref.result.now t k) c.name.ensures ∙ ap (λ ls. out ++ refused_text f.name ls t k) c.deref.ensures.value))
    (refused_from (λ ns. ns.items) c.args.files.now c.args.lines.now c.args.taken.now c.args.causes.now c.loop-i.i f c.index-lines-i.result c.loop-i-test.true c.requires.lines c.requires.taken c.requires.causes c.index-files-i.is c.index-lines-i.is)
    c.loop-i.invariant
