use Rattle.std.proofs.Common.{arith}
use Rattle.squall_wire.specs.BodyLaws.{are_lists}
use Rattle.squall_wire.specs.Views.{lists_seen}
use Rattle.squall_wire.proofs.reading.body.read_delta.Goals as goal

pub board_of-requires : goal.board_of-requires
board_of-requires c =
    rw (c.deref.ensures.value, c.deref-2.ensures.value) (are_lists c.args.version c.args.bytes.now (lists_seen c.in_ok-lists.lists) c.requires (λ i. omega (arith, c.type_inv.bytes i)) c.in_ok-lists.ensures)
