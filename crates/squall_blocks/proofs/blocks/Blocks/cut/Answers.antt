use Rattle.std.proofs.Common.{◌+◌, ◌-◌, arith}
use Rattle.squall_blocks.specs.EntriesLaws.{rise_part, part_added}
use Rattle.squall_blocks.proofs.blocks.Blocks.cut.Goals as goal

pub append-requires-clause-rise : goal.append-requires-clause-rise
append-requires-clause-rise g c =
    rw (c.in_ok-block.ensures, c.loop-at.invariant.0) (rise_part 0 c.args.entries.now c.loop-at.at _ c.requires)

pub loop-at-preserved : goal.loop-at-preserved
loop-at-preserved g c = (
  part_added c.args.entries.now c.loop-at.blocks c.in_ok-block.block c.append.new.self c.loop-at.at c.min.result (c.loop-at.at + c.min.result - c.loop-at.at) c.loop-at.invariant.0 (omega arith) c.in_ok-block.ensures c.in_ok-append.ensures.ok,
  omega (arith, c.min.ensures, c.len-len.ensures, c.loop-at.invariant.1),
)
