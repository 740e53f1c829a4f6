use Rattle.std.proofs.Common.{◌≤◌, sym, ap, subst, ◌∙◌, map}
use Rattle.std.specs.Arc.{arc_value}
use Rattle.std.specs.List.{AllByRecursion}
use Rattle.squall_join.specs.Flats.{flat_map}
use Rattle.squall_delta.proofs.Digested.{all_unmap}
use Rattle.squall_delta.proofs.Repaired.{repaired}
use Rattle.squall_delta.proofs.repairing.repair.Goals as goal

pub put_issues-requires : goal.put_issues-requires
put_issues-requires c = subst (AllByRecursion (λ e. 1 ≤ e.0)) (sym c.deref-2.ensures.value) (all_unmap (λ e. (e.0, flat_map arc_value e.1)) (λ e. 1 ≤ e.0) c.in_ok-issues.issues.items c.in_ok-issues.ensures.listed.within)

pub returns : goal.returns
returns c = repaired c.args.board.now c.args.digest.now _ _ _ _ _ _ _ c.known.ensures.board c.new-delta.ensures.empty
    (c.deref.ensures.value ∙ c.in_ok-openings.ensures.openings)
    (ap (map (λ e. (e.0, flat_map arc_value e.1))) c.deref-2.ensures.value ∙ c.in_ok-issues.ensures.issues)
    (c.entries.ensures.entries ∙ c.cell_map.ensures.cells)
    c.in_ok-put_openings.ensures
    c.in_ok-put_issues.ensures
    c.in_ok-put_cells.ensures
