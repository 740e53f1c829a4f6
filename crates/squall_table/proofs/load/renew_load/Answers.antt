use Rattle.std.proofs.Common.{refl, arith}
use Rattle.squall_table.specs.Patching.{about}
use Rattle.squall_table.proofs.Entered.{legs_rise, legs_end}
use Rattle.squall_table.proofs.Loaded.{load_renewed}
use Rattle.squall_table.proofs.load.renew_load.Goals as goal

pub returns-clause-rise : goal.returns-clause-rise
returns-clause-rise c =
    let at = c.legs_beside-at.result in
    legs_rise (about at.before c.args.load.dest at.after c.args.load.span) at.lo at.hi c.in_ok-fresh.fresh c.in_ok-fresh.ensures

pub returns-clause-last : goal.returns-clause-last
returns-clause-last c =
    let at = c.legs_beside-at.result in
    omega (arith, legs_end (about at.before c.args.load.dest at.after c.args.load.span) at.lo at.hi c.in_ok-fresh.fresh c.in_ok-fresh.ensures)

pub returns-clause-legs : goal.returns-clause-legs
returns-clause-legs c =
    let at = c.legs_beside-at.result in
    load_renewed c.args.course.now c.args.table.now c.in_ok-fresh.fresh _ c.args.load.span at.before c.args.load.dest at.after at.lo at.hi c.requires.table c.requires.set c.requires.comes c.legs_beside-at.ensures c.in_ok-fresh.ensures refl
