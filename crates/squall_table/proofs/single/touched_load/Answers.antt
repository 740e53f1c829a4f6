use Rattle.std.proofs.Common.{◌≡◌, ℕ, true, [], ◌∷◌, Some, sym, ap, ◌∙◌, arith}
use Rattle.std.specs.Ordering.{nat_cmp}
use Rattle.std.specs.FinMap.Entries.{find}
use Rattle.squall_span.specs.Spans.{Interval, span_has, has}
use Rattle.squall_board.specs.Boards.{Subs, cells_in, says}
use Rattle.squall_table.specs.Touched.{is_touched}
use Rattle.squall_table.specs.Touching.{brought, touched_by_subs}
use Rattle.squall_table.proofs.Moving.{moves_rise_of}
use Rattle.squall_table.proofs.Touching.{cells_touch}
use Rattle.squall_table.proofs.OneLoad.{all_brought, some_both}
use Rattle.squall_table.proofs.single.touched_load.Goals as goal

pub brought_there-requires : goal.brought_there-requires
brought_there-requires c = moves_rise_of c.args.course.now.old c.args.course.now.new 0 c.moves.result.now (omega arith) c.moves.ensures.meaning.each c.moves.ensures.meaning.rise

pub returns-clause-keys : goal.returns-clause-keys
returns-clause-keys c =
    let is : Some c.in_ok-subs.subs.now ≡ find nat_cmp c.args.course.now.number (cells_in c.args.delta.now) = c.in_ok-subs.ensures ∙ ap (λ n. find nat_cmp n c.cell_map.result.now) c.number.ensures.value ∙ ap (find nat_cmp c.args.course.now.number) c.cell_map.ensures.cells in
    some_both c.brought_there.result (λ b. b.span ≡ c.in_ok-sub.span) (λ b. (k : ℕ) → span_has c.in_ok-sub.span k ≡ true → brought c.in_ok-sub.sub c.in_ok-sub.part c.moves.result.now k ≡ true)
    (λ b. (k : ℕ) → has (b.span ∷ []) k ≡ is_touched c.args.course.now (says c.args.delta.now) k)
    (λ b same there k.
    ap (λ (s : Interval). has (s ∷ []) k) same
    ∙ all_brought (span_has c.in_ok-sub.span k) (brought c.in_ok-sub.sub c.in_ok-sub.part c.moves.result.now k) (there k)
    ∙ sym (c.in_ok-sub.ensures c.moves.result.now k)
    ∙ ap (λ (s : Subs). touched_by_subs c.moves.result.now s k) c.entries.ensures.entries
    ∙ cells_touch c.args.course.now c.args.delta.now c.moves.result.now c.in_ok-subs.subs.now k c.moves.ensures.meaning c.entries.ensures.map is)
    c.brought_there.ensures.span c.brought_there.ensures.there
