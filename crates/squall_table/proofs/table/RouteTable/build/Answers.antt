use Rattle.std.proofs.Common.{◌≡◌, ℕ, List, sym, ap, ◌∙◌, subst}
use Rattle.squall_key.specs.Keys.{top}
use Rattle.squall_board.specs.Boards.{says}
use Rattle.squall_board.specs.Route.{route}
use Rattle.squall_table.specs.Legs.{Legs}
use Rattle.squall_table.specs.LegEntries.{legs_from, entries_of}
use Rattle.squall_table.proofs.Entered.{legs_of_entries, legs_rise}
use Rattle.squall_table.specs.LegLaws.{are_legs, canonical_of_legs}
use Rattle.squall_table.proofs.Built.{rising, made, made_ranges}
use Rattle.squall_table.proofs.table.RouteTable.build.Goals as goal

pub first_move-first-requires : goal.first_move-first-requires
first_move-first-requires c = rising c.args.course.now.old c.args.course.now.new c.moves-moves.result.now c.moves-moves.ensures.meaning

pub push_routes-requires-clause-rise : goal.push_routes-requires-clause-rise
push_routes-requires-clause-rise c = rising c.args.course.now.old c.args.course.now.new c.moves-moves.result.now c.moves-moves.ensures.meaning

pub of-requires : goal.of-requires
of-requires c =
    let l : Legs (route c.args.course.now (says c.args.board.now)) 0 top c.push_routes.new.out.items = made c.args.course.now (says c.args.board.now) c.ranges-old.result.now c.moves-moves.result.now c.number.result c.bottom-2.result top _ _ (c.ranges-old.ensures.value ∙ c.old_plan.ensures.value) c.number.ensures.value c.moves-moves.ensures.meaning c.bottom-2.ensures c.new-legs.ensures.items c.in_ok-push_routes.ensures.grows in
    let es : c.in_ok-entries.entries ≡ entries_of c.push_routes.new.out.items = c.in_ok-entries.ensures ∙ ap entries_of c.deref.ensures.value in
    let is : legs_from 0 c.in_ok-entries.entries ≡ c.push_routes.new.out.items = ap (legs_from 0) es ∙ legs_of_entries _ 0 top c.push_routes.new.out.items l in
    let entered : Legs (route c.args.course.now (says c.args.board.now)) 0 top (legs_from 0 c.in_ok-entries.entries) = subst (Legs (route c.args.course.now (says c.args.board.now)) 0 top) (sym is) l in
    legs_rise _ 0 top c.in_ok-entries.entries entered

pub invariant_of-result : goal.invariant_of-result
invariant_of-result c =
    let l : Legs (route c.args.course.now (says c.args.board.now)) 0 top c.push_routes.new.out.items = made c.args.course.now (says c.args.board.now) c.ranges-old.result.now c.moves-moves.result.now c.number.result c.bottom-2.result top _ _ (c.ranges-old.ensures.value ∙ c.old_plan.ensures.value) c.number.ensures.value c.moves-moves.ensures.meaning c.bottom-2.ensures c.new-legs.ensures.items c.in_ok-push_routes.ensures.grows in
    let es : c.in_ok-entries.entries ≡ entries_of c.push_routes.new.out.items = c.in_ok-entries.ensures ∙ ap entries_of c.deref.ensures.value in
    let is : legs_from 0 c.in_ok-entries.entries ≡ c.push_routes.new.out.items = ap (legs_from 0) es ∙ legs_of_entries _ 0 top c.push_routes.new.out.items l in
    let entered : Legs (route c.args.course.now (says c.args.board.now)) 0 top (legs_from 0 c.in_ok-entries.entries) = subst (Legs (route c.args.course.now (says c.args.board.now)) 0 top) (sym is) l in
    let held : Legs (route c.args.course.now (says c.args.board.now)) 0 top (legs_from 0 c.in_ok-legs.legs) = subst (λ (xs : List (ℕ × ℕ)). Legs (route c.args.course.now (says c.args.board.now)) 0 top (legs_from 0 xs)) (sym c.in_ok-legs.ensures) entered in
    (canonical_of_legs _ _ held, made_ranges c.args.course.now (says c.args.board.now) _ c.moves-moves.ensures.plans held)

pub returns : goal.returns
returns c =
    let l : Legs (route c.args.course.now (says c.args.board.now)) 0 top c.push_routes.new.out.items = made c.args.course.now (says c.args.board.now) c.ranges-old.result.now c.moves-moves.result.now c.number.result c.bottom-2.result top _ _ (c.ranges-old.ensures.value ∙ c.old_plan.ensures.value) c.number.ensures.value c.moves-moves.ensures.meaning c.bottom-2.ensures c.new-legs.ensures.items c.in_ok-push_routes.ensures.grows in
    let es : c.in_ok-entries.entries ≡ entries_of c.push_routes.new.out.items = c.in_ok-entries.ensures ∙ ap entries_of c.deref.ensures.value in
    let is : legs_from 0 c.in_ok-entries.entries ≡ c.push_routes.new.out.items = ap (legs_from 0) es ∙ legs_of_entries _ 0 top c.push_routes.new.out.items l in
    let entered : Legs (route c.args.course.now (says c.args.board.now)) 0 top (legs_from 0 c.in_ok-entries.entries) = subst (Legs (route c.args.course.now (says c.args.board.now)) 0 top) (sym is) l in
    let held : Legs (route c.args.course.now (says c.args.board.now)) 0 top (legs_from 0 c.in_ok-legs.legs) = subst (λ (xs : List (ℕ × ℕ)). Legs (route c.args.course.now (says c.args.board.now)) 0 top (legs_from 0 xs)) (sym c.in_ok-legs.ensures) entered in
    record { table = are_legs _ 0 top _ held }
