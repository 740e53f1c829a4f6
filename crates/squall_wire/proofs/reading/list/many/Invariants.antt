use Rattle.std.proofs.Common.{◌≡◌, ◌-◌}
use Rattle.squall_wire.specs.Reading.{many_at}
use Rattle.squall_wire.proofs.Loop.{with_front}
use Rattle.squall_wire.proofs.reading.list.many.Given as goal

abbrev pub invariant-loop : goal.invariant-loop
invariant-loop g l = with_front l.items.items (many_at g.T.Item.read_at g.T.Item.next (l.count - l.counter) l.point l.rest) ≡ many_at g.T.Item.read_at g.T.Item.next l.count l.fn.start l.bytes
