use Rattle.std.proofs.Common.{arith}
use Rattle.std.proofs.lemmas.Bool.Decides.{not_from_Decides}
use Rattle.squall_log.proofs.Heads.{is_that_head, two_parts, not_too_great, not_that_sum}
use Rattle.squall_log.proofs.entry.size_in.Goals as goal

pub returns-then-size-gt-PAYLOAD_LIMIT-clause-none : goal.returns-then-size-gt-PAYLOAD_LIMIT-clause-none
returns-then-size-gt-PAYLOAD_LIMIT-clause-none c = λ n le e.
    not_too_great c.args.front.now c.split_at.result.0.now c.split_at.result.1.now c.number_in-size.result n (omega (arith, c.split_at.ensures.front_len))
    (two_parts 4 c.args.front.now c.split_at.result.0.now c.split_at.result.1.now c.split_at.ensures.front c.split_at.ensures.back) c.number_in-size.ensures (omega arith) le e

pub returns-then-not-is_sum-clause-none : goal.returns-then-not-is_sum-clause-none
returns-then-not-is_sum-clause-none c = λ n le e.
    not_that_sum c.args.front.now c.split_at.result.0.now c.split_at.result.1.now n (omega (arith, c.split_at.ensures.front_len))
    (two_parts 4 c.args.front.now c.split_at.result.0.now c.split_at.result.1.now c.split_at.ensures.front c.split_at.ensures.back)
    (not_from_Decides c.is_sum.result c.is_sum.ensures c.if-not-is_sum.true) le e

pub returns-clause-some : goal.returns-clause-some
returns-clause-some c = (
  omega arith,
  is_that_head c.args.front.now c.split_at.result.0.now c.split_at.result.1.now c.number_in-size.result
      (λ i. omega (arith, c.type_inv.front i)) c.split_at.ensures.front c.split_at.ensures.back (omega (arith, c.split_at.ensures.front_len)) c.number_in-size.ensures
      (c.is_sum.ensures.0 c.if-not-is_sum.false),
)
