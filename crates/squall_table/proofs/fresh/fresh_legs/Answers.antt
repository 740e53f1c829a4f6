use Rattle.std.proofs.Common.{◌+◌, ℕ, subst}
use Rattle.squall_span.specs.Spans.{Interval}
use Rattle.squall_plan.specs.Ranges.{owner_of}
use Rattle.squall_board.specs.MovesRoute.{route_by_moves}
use Rattle.squall_table.specs.Legs.{Grows, FirstMove, EndMove, said}
use Rattle.squall_table.specs.LegEntries.{legs_from}
use Rattle.squall_table.specs.Patching.{renewed}
use Rattle.squall_table.proofs.Patching.{Counted, count_on, patching_more, patching_done, counted_done}
use Rattle.squall_table.proofs.fresh.fresh_legs.Goals as goal

pub loop-span-preserved : goal.loop-span-preserved
loop-span-preserved c =
    let set = c.args.set.now in
    let ms = c.args.routes.moves.now in
    let x : Interval = c.span-item.result in
    let own : ℕ → ℕ = owner_of (legs_from 0 c.args.table.now) in
    let r : ℕ → ℕ = route_by_moves c.args.routes.number c.args.routes.legs.now ms (said c.args.routes.heard) in
    let g : ℕ → ℕ = renewed set r own in
    let before : Grows own c.loop-span.reach x.lo c.loop-span.out.items c.copy_entries.new.out.items = subst (λ b. Grows own c.loop-span.reach b c.loop-span.out.items c.copy_entries.new.out.items) c.lo.ensures.value c.in_ok-copy_entries.ensures in
    let this : Grows r x.lo x.hi c.copy_entries.new.out.items c.push_routes.new.out.items =
    subst (λ b. Grows r x.lo b c.copy_entries.new.out.items c.push_routes.new.out.items) c.hi-to.ensures.value (subst (λ a. Grows r a c.hi-to.result c.copy_entries.new.out.items c.push_routes.new.out.items) c.lo-from.ensures.value c.in_ok-end.ensures.grows) in
    let first : FirstMove ms x.lo c.first_move-first.result = subst (λ b. FirstMove ms b c.first_move-first.result) c.lo-in-loop-span.ensures.value c.first_move-first.ensures in
    let end : EndMove ms x.hi c.first_move-first.result c.in_ok-end.end = subst (λ b. EndMove ms b c.first_move-first.result c.in_ok-end.end) c.hi-to.ensures.value c.in_ok-end.ensures.end in
    let counted : Counted set ms x.hi c.max-seen.result (c.loop-span.taken + c.saturating_sub-taken.result) =
    rw (c.max-seen.ensures, c.saturating_sub-taken.ensures, c.max.ensures) (count_on g set ms c.args.lo c.loop-span.reach c.args.hi c.loop-span.span-index c.loop-span.seen c.loop-span.taken c.first_move-first.result c.in_ok-end.end c.loop-span.out.items x
    c.requires.rise c.requires.set c.loop-span-test.true c.span-item.is c.loop-span.invariant first end) in
    rw c.hi-reach.ensures.value (patching_more r own set ms c.args.lo c.loop-span.reach c.args.hi c.loop-span.span-index c.loop-span.seen c.loop-span.taken c.max-seen.result (c.loop-span.taken + c.saturating_sub-taken.result) x c.loop-span.out.items c.copy_entries.new.out.items c.push_routes.new.out.items
    c.requires.set c.requires.ends c.loop-span-test.true c.span-item.is c.loop-span.invariant counted before this)

pub returns-clause-moves : goal.returns-clause-moves
returns-clause-moves c = counted_done (renewed c.args.set.now (route_by_moves c.args.routes.number c.args.routes.legs.now c.args.routes.moves.now (said c.args.routes.heard)) (owner_of (legs_from 0 c.args.table.now))) c.args.set.now c.args.routes.moves.now c.args.lo c.loop-span.reach c.args.hi c.loop-span.span-index c.loop-span.seen c.loop-span.taken c.loop-span.out.items c.loop-span-test.false c.loop-span.invariant

pub returns-clause-legs : goal.returns-clause-legs
returns-clause-legs c = patching_done (route_by_moves c.args.routes.number c.args.routes.legs.now c.args.routes.moves.now (said c.args.routes.heard)) (owner_of (legs_from 0 c.args.table.now)) c.args.set.now c.args.routes.moves.now c.args.lo c.loop-span.reach c.args.hi c.loop-span.span-index c.loop-span.seen c.loop-span.taken c.loop-span.out.items c.copy_entries-2.new.out.items
    c.requires.set c.loop-span-test.false c.loop-span.invariant c.in_ok-copy_entries-2.ensures
