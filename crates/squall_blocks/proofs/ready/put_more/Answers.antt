use Rattle.std.proofs.Common.{rules, ◌≡◌, ◌+◌, ◌-◌, ◌++◌, ◌∙◌, length, vec_len, arith}
use Rattle.squall_blocks.proofs.Turned.{grown}
use Rattle.squall_blocks.proofs.ready.put_more.Goals as goal

pub returns-clause-items : goal.returns-clause-items
returns-clause-items g c =
    let xs = c.args.items.now.items in
    let n : c.len-len.result ≡ length xs = search rules in
    let m : c.len.result ≡ length c.args.fresh.items = search rules in
    let k : vec_len c.args.fresh ≡ length c.args.fresh.items = search rules in
    let both : c.append-done.new.self.items ≡ c.swap_first.new.items.items ++ c.swap_first.new.fresh.items = search rules in
    c.truncate.ensures.items
    ∙ grown xs c.args.fresh.items c.swap_first.new.items.items c.swap_first.new.fresh.items c.append-done.new.self.items c.turn_from.new.items.items c.args.first c.args.end (c.len-len.result - c.args.first) (c.len-len.result + (c.len.result - (c.args.end - c.args.first)))
    c.requires.order c.requires.within (omega (arith, c.requires.more, k)) (omega (arith, n)) (omega (arith, n, m)) c.swap_first.ensures.items c.swap_first.ensures.fresh both c.turn_from.ensures.items
