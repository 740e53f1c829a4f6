use Rattle.std.proofs.Common.{◌+◌, ◌-◌, length, arith}
use Rattle.squall_key.specs.Search.{end_at}
use Rattle.squall_key.specs.SearchLaws.{quartered}
use Rattle.squall_key.proofs.Searching.{ends_rise, back_at}
use Rattle.squall_key.proofs.search.quarter.Goals as goal

pub returns : goal.returns
returns g c =
    let xs = c.args.items.now in
    let end = g.T.Ends.end in
    let fits = c.requires.sought.within in
    let first = back_at end xs c.args.bound c.args.step (c.args.base + c.args.step - 1) c.index-items-first.result c.end.result c.step_beyond.result (omega (arith, fits, c.requires.some, c.requires.parts)) c.index-items-first.is c.end.ensures c.step_beyond.ensures.beyond c.step_beyond.ensures.not_beyond in
    let second = back_at end xs c.args.bound c.args.step (c.args.base + c.args.step + c.args.step - 1) c.index-items-second.result c.end-2.result c.step_beyond-2.result (omega (arith, fits, c.requires.some, c.requires.parts)) c.index-items-second.is c.end-2.ensures c.step_beyond-2.ensures.beyond c.step_beyond-2.ensures.not_beyond in
    let third = back_at end xs c.args.bound c.args.step (c.args.base + c.args.step + c.args.step + c.args.step - 1) c.index-items-third.result c.end-3.result c.step_beyond-3.result (omega (arith, fits, c.requires.some, c.requires.parts)) c.index-items-third.is c.end-3.ensures c.step_beyond-3.ensures.beyond c.step_beyond-3.ensures.not_beyond in
    quartered (end_at end xs) (length xs) c.args.bound c.args.base c.args.size c.args.step c.step_beyond.result c.step_beyond-2.result c.step_beyond-3.result (ends_rise end xs c.requires.rises) c.requires.sought c.requires.some c.requires.parts first second third
