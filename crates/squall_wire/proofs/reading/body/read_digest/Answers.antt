use Rattle.std.proofs.Common.{arith}
use Rattle.squall_wire.specs.BodyLaws.{is_digest}
use Rattle.squall_wire.specs.Views.{rows_seen}
use Rattle.squall_wire.proofs.reading.body.read_digest.Goals as goal

pub of_lists-requires : goal.of_lists-requires
of_lists-requires c = is_digest c.args.version c.args.bytes.now (rows_seen c.in_ok-rows.rows) c.requires (λ i. omega (arith, c.type_inv.bytes i)) c.in_ok-rows.ensures
