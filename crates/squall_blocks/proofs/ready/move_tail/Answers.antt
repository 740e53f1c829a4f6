use Rattle.std.proofs.Common.{◌≡◌, ◌-◌, ◌++◌, length, take, rules, arith}
use Rattle.squall_blocks.proofs.Shifted.{tail_raised}
use Rattle.squall_blocks.proofs.ready.move_tail.Goals as goal

pub returns-then-end-at-clause-items : goal.returns-then-end-at-clause-items
returns-then-end-at-clause-items g c =
    let longer : c.extend_from_slice-done.new.self.items ≡ c.args.items.now.items ++ take (c.args.at - c.args.end) c.args.fresh.now = search rules in
    let len : c.extend_from_slice-done.new.self.len ≡ length c.extend_from_slice-done.new.self.items = search rules in
    tail_raised c.args.items.now.items c.args.fresh.now c.extend_from_slice-done.new.self.items c.move_up_from.new.items c.args.end c.args.at c.extend_from_slice-done.new.self.len
    (omega (arith, c.if-at-end.false)) c.requires.within c.requires.fits longer (search rules) len
