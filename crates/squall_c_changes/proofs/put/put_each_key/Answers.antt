use Rattle.std.specs.Prelude.{◌≡◌, ◌<◌, min, length}
use Rattle.std.proofs.Common.{arith}
use Rattle.squall_key.specs.Keys.{top}
use Rattle.squall_c_changes.proofs.Spanning.{each_key_none, each_key_no_room, each_key_put}
use Rattle.squall_c_changes.proofs.put.put_each_key.Goals as goal

pub returns-then-end-lo : goal.returns-then-end-lo
returns-then-end-lo c =
    let end : c.min-end.result ≡ min c.args.hi top = grind (arith, c.min-end.ensures, c.rank.ensures.value) in
    λ f g each. each_key_none f g c.args.lo c.args.hi c.args.room.now each (omega (arith, end, c.if-end-lo.true))

pub returns-then-is_empty : goal.returns-then-is_empty
returns-then-is_empty c =
    let end : c.min-end.result ≡ min c.args.hi top = grind (arith, c.min-end.ensures, c.rank.ensures.value) in
    let none : length c.args.room.now ≡ 0 = grind (arith, c.is_empty.ensures, c.if-is_empty.true) in
    λ f g each. each_key_no_room f g c.args.lo c.args.hi c.args.room.now each (omega (arith, end, c.if-end-lo.false)) none

pub returns : goal.returns
returns c =
    let end : c.min-end.result ≡ min c.args.hi top = grind (arith, c.min-end.ensures, c.rank.ensures.value) in
    let some : 0 < length c.args.room.now = grind (arith, c.is_empty.ensures, c.if-is_empty.false) in
    λ f g each. each_key_put f g c.args.lo c.args.hi c.min-end.result c.args.room.now each end (omega (arith, c.if-end-lo.false)) some
