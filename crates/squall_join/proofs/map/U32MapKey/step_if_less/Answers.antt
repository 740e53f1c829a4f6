use Rattle.std.proofs.Common.{◌≡◌, ◌<◌, ◌+◌, ◌-◌, ◌/◌, ◌%◌, ap, ◌∙◌, arith, bit_and, is_lt}
use Rattle.std.proofs.lemmas.Nat.{and_mask}
use Rattle.squall_key.specs.Lemmas.{lt_from_cmp}
use Rattle.squall_join.proofs.map.U32MapKey.step_if_less.Goals as goal

pub returns-clause-less : goal.returns-clause-less
returns-clause-less c less =
    let lt : c.args.self < c.args.other = lt_from_cmp _ _ (ap is_lt less) in
    let ones : (c.from.result + (340282366920938463463374607431768211456 - c.from-2.result)) % 340282366920938463463374607431768211456 / 18446744073709551616 ≡ 18446744073709551615 = omega (arith, lt) in
    let same : c.args.step % 18446744073709551616 ≡ c.args.step = omega arith in
    ap (bit_and c.args.step) ones ∙ and_mask c.args.step 64 ∙ same
