use Rattle.std.proofs.Common.{◌≡◌, ◌≤◌, take}
use Rattle.squall_join.specs.Drafts.{fresh_count}
use Rattle.squall_join.proofs.draft.count_fresh.Given as goal

abbrev pub invariant-loop-part : goal.invariant-loop-part
invariant-loop-part g l = (l.count ≡ fresh_count (take l.part-index l.parts)) × (l.count ≤ l.part-index)
