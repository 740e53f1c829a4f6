use Rattle.std.proofs.Common.{arith}
use Rattle.squall_wire.proofs.Decoded.{is_spelled, is_the_message}
use Rattle.squall_wire.proofs.decoding.decode.Goals as goal

pub returns-clause-spelled : goal.returns-clause-spelled
returns-clause-spelled c = is_spelled c.args.bytes.now c.read.result (λ i. omega (arith, c.type_inv.bytes i)) c.read.ensures.answer c.read.ensures.content

pub returns-clause-only : goal.returns-clause-only
returns-clause-only c = λ m rest is e. is_the_message c.args.bytes.now c.read.result m rest c.read.ensures.answer c.read.ensures.content is e
