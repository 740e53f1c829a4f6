use Rattle.std.proofs.Common.{◌≤◌, subst, sym}
use Rattle.std.specs.List.{AllByRecursion}
use Rattle.std.specs.Arc.{arc_value}
use Rattle.squall_join.specs.Flats.{flat_map}
use Rattle.squall_part.proofs.Absorbed.{all_of_images}
use Rattle.squall_part.proofs.part.Part.fresh_logs.Goals as goal

pub push_all_fresh-requires : goal.push_all_fresh-requires
push_all_fresh-requires c = subst (AllByRecursion (λ e. 1 ≤ e.0)) (sym c.deref.ensures.value) (all_of_images (λ e. (e.0, flat_map arc_value e.1)) (λ e. 1 ≤ e.0) c.in_ok-issues.issues.items c.in_ok-issues.ensures.listed.within)
