use Rattle.std.proofs.Common.{◌≡◌, None, Some, ◌∙◌, ap, arith}
use Rattle.std.specs.Ordering.{nat_cmp}
use Rattle.std.specs.FinMap.Entries.{find}
use Rattle.std.specs.Prelude.{◌||◌}
use Rattle.squall_span.specs.Spans.{has}
use Rattle.squall_board.specs.Boards.{Subs, cells_in}
use Rattle.squall_table.specs.Touching.{touched_by_subs}
use Rattle.squall_table.proofs.Moving.{moves_rise_of}
use Rattle.squall_table.proofs.Touching.{cells_touch, none_touched, changes_touched}
use Rattle.squall_table.proofs.touch.touched.Goals as goal

pub returns-in_default-clause-keys : goal.returns-in_default-clause-keys
returns-in_default-clause-keys c k =
    let is : None ≡ find nat_cmp c.args.course.now.number (cells_in c.args.delta.now) = c.in_default.ensures ∙ ap (λ n. find nat_cmp n c.cell_map.result.now) c.number.ensures.value ∙ ap (find nat_cmp c.args.course.now.number) c.cell_map.ensures.cells in
    ap (λ s. has s k) c.empty-set.ensures ∙ none_touched c.args.course.now c.args.delta.now k is

pub returns-in_default-clause-changed : goal.returns-in_default-clause-changed
returns-in_default-clause-changed c before after both =
    let is : None ≡ find nat_cmp c.args.course.now.number (cells_in c.args.delta.now) = c.in_default.ensures ∙ ap (λ n. find nat_cmp n c.cell_map.result.now) c.number.ensures.value ∙ ap (find nat_cmp c.args.course.now.number) c.cell_map.ensures.cells in
    changes_touched c.args.course.now c.empty-set.result before after c.args.delta.now (λ k. ap (λ s. has s k) c.empty-set.ensures ∙ none_touched c.args.course.now c.args.delta.now k is) both

pub add_subs-requires : goal.add_subs-requires
add_subs-requires c = moves_rise_of c.args.course.now.old c.args.course.now.new 0 c.moves.result.now (omega arith) c.moves.ensures.meaning.each c.moves.ensures.meaning.rise

pub returns-clause-keys : goal.returns-clause-keys
returns-clause-keys c k =
    let is : Some c.in-Some.subs.now ≡ find nat_cmp c.args.course.now.number (cells_in c.args.delta.now) = c.in-Some.ensures ∙ ap (λ n. find nat_cmp n c.cell_map.result.now) c.number.ensures.value ∙ ap (find nat_cmp c.args.course.now.number) c.cell_map.ensures.cells in
    c.in_ok-add_subs.ensures k ∙ ap (λ s. has s k || touched_by_subs c.moves.result.now c.entries.result.now k) c.empty-set.ensures
    ∙ ap (λ (s : Subs). touched_by_subs c.moves.result.now s k) c.entries.ensures.entries
    ∙ cells_touch c.args.course.now c.args.delta.now c.moves.result.now c.in-Some.subs.now k c.moves.ensures.meaning c.entries.ensures.map is

pub returns-clause-changed : goal.returns-clause-changed
returns-clause-changed c before after both =
    let is : Some c.in-Some.subs.now ≡ find nat_cmp c.args.course.now.number (cells_in c.args.delta.now) = c.in-Some.ensures ∙ ap (λ n. find nat_cmp n c.cell_map.result.now) c.number.ensures.value ∙ ap (find nat_cmp c.args.course.now.number) c.cell_map.ensures.cells in
    changes_touched c.args.course.now c.add_subs.new.out before after c.args.delta.now (λ k.
    c.in_ok-add_subs.ensures k ∙ ap (λ s. has s k || touched_by_subs c.moves.result.now c.entries.result.now k) c.empty-set.ensures
    ∙ ap (λ (s : Subs). touched_by_subs c.moves.result.now s k) c.entries.ensures.entries
    ∙ cells_touch c.args.course.now c.args.delta.now c.moves.result.now c.in-Some.subs.now k c.moves.ensures.meaning c.entries.ensures.map is) both
