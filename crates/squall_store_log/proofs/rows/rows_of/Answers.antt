use Rattle.std.proofs.Common.{◌≡◌, ap, Err, length, arith}
use Rattle.std.proofs.lemmas.Bool.Decides.{nat_tests}
use Rattle.squall_store_log.proofs.Payloads.{rows_stop, rows_go_on}
use Rattle.squall_store_log.proofs.rows.rows_of.Goals as goal

pub loop-rest-preserved : goal.loop-rest-preserved
loop-rest-preserved c = rows_go_on c.args.bytes.now c.loop-rest.rest.now c.in-Ok.after.now c.loop-rest.rows c.push_row.new.rows c.in-Ok.ensures.ok c.loop-rest.invariant.0 c.loop-rest.invariant.1

pub returns-in-Err : goal.returns-in-Err
returns-in-Err c = rows_stop c.args.bytes.now c.loop-rest.rest.now c.loop-rest.rows c.in-Err.fault c.loop-rest.invariant.0 c.loop-rest.invariant.1
    (λ e. let n : length c.loop-rest.rest.now ≡ 0 = ap length e in let t = c.loop-rest-test.true in let i = c.is_empty.ensures in absurd (grind (arith, nat_tests, n, t, i))) (λ e. c.in-Err.ensures.strange (ap Err e))
