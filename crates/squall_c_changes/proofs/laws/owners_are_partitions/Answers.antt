use Rattle.std.specs.Prelude.{◌≡◌, ℕ, ◌≤◌, ◌<◌, List}
use Rattle.std.proofs.Common.{subst}
use Rattle.squall_key.specs.Keys.{top, part_limit}
use Rattle.squall_plan.specs.declared.range.PlanRange.{PlanRange}
use Rattle.squall_plan.specs.Ranges.{owner_of}
use Rattle.squall_plan.specs.PlanLaws.{are_parts, owner_low}
use Rattle.squall_c_changes.proofs.Passing.{owner_past}
use Rattle.squall_c_changes.proofs.laws.owners_are_partitions.Goals as goal

pub returns-clause-past : goal.returns-clause-past
returns-clause-past c =
    subst (λ (ls : List PlanRange). (k : ℕ) → top ≤ k → owner_of ls k ≡ 0) c.entries-legs.ensures.value (owner_past 0 c.entries-legs.result c.entries-legs.ensures.canonical.tiles)

pub returns-clause-part : goal.returns-clause-part
returns-clause-part c =
    subst (λ (ls : List PlanRange). (k : ℕ) → owner_of ls k < part_limit) c.entries-legs.ensures.value
    (λ k. owner_low c.entries-legs.result k (are_parts c.entries-legs.result c.entries-legs.ensures.ranges))
