use Rattle.std.proofs.Common.{◌≤◌, subst, sym}
use Rattle.std.specs.List.{AllByRecursion}
use Rattle.std.specs.Arc.{arc_value}
use Rattle.squall_join.specs.Flats.{flat_map}
use Rattle.squall_router.proofs.Issued.{all_of_images}
use Rattle.squall_router.proofs.issues.put_issues.Goals as goal

pub put_entries-requires : goal.put_entries-requires
put_entries-requires c = subst (AllByRecursion (λ e. 1 ≤ e.0)) (sym c.deref.ensures.value) (all_of_images (λ e. (e.0, flat_map arc_value e.1)) (λ e. 1 ≤ e.0) c.in_ok-issues.issues.items c.in_ok-issues.ensures.listed.within)
