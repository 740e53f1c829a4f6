use Rattle.std.proofs.Common.{◌≡◌, ◌<◌, Some, None, rules}
use Rattle.std.specs.List.{find}
use Rattle.squall_protocol.specs.Carried.{ends_beyond}
use Rattle.squall_part.proofs.Carrying.{moves_rise, carried_some, carried_none}
use Rattle.squall_part.proofs.loading.fits.Goals as goal

pub move_beyond-requires : goal.move_beyond-requires
move_beyond-requires c = moves_rise c.args.course.now c.moves.result.now c.moves.ensures.meaning

pub returns-in-Some : goal.returns-in-Some
returns-in-Some c =
    let e : find (ends_beyond c.args.chunk.now.span.lo) c.moves.result.now ≡ Some c.in-Some.m.now = search rules in
    let lt : c.args.chunk.now.span.lo < c.args.chunk.now.span.hi = search rules in
    carried_some c.args.course.now c.moves.result.now c.args.chunk.now c.in-Some.m.now c.carries.result c.moves.ensures.meaning lt e c.carries.ensures

pub returns-in-None : goal.returns-in-None
returns-in-None c =
    let e : find (ends_beyond c.args.chunk.now.span.lo) c.moves.result.now ≡ None = search rules in
    let lt : c.args.chunk.now.span.lo < c.args.chunk.now.span.hi = search rules in
    carried_none c.args.course.now c.moves.result.now c.args.chunk.now c.moves.ensures.meaning lt e
