use Rattle.std.proofs.Common.{◌∙◌, sym}
use Rattle.std.proofs.lemmas.List.Filters.{dedup_is}
use Rattle.std.proofs.lemmas.List.Kept.{IsStrictlySortedBy-dedup}
use Rattle.std.proofs.lemmas.List.Sorted.{list_any-IsPermutation}
use Rattle.squall_course.proofs.Rows.{sorted_by, any_dedup, ahead_less, same_link, any_link}
use Rattle.squall_course.specs.Links.{is_link}
use Rattle.squall_course.specs.contracts.link.LinkOrd.TheImpl.Laws.{total-law, matches_eq-law}
use Rattle.squall_course.proofs.link.Table.of.Goals as goal

pub invariant_of-result : goal.invariant_of-result
invariant_of-result c = rw (dedup_is _ _ _ c.dedup.ensures.filtered) (sorted_by _ ahead_less _ (IsStrictlySortedBy-dedup total-law matches_eq-law _ c.sort_unstable.ensures.sorted))

pub returns-clause-same : goal.returns-clause-same
returns-clause-same c = λ source dest.
    rw (dedup_is _ _ _ c.dedup.ensures.filtered)
    (any_dedup (is_link source dest) _ (same_link source dest) _
    ∙ sym (list_any-IsPermutation (is_link source dest) _ _ c.sort_unstable.ensures.permutation)
    ∙ any_link source dest c.args.transfers.now c.in_ok-links.links.items c.in_ok-links.ensures)

pub returns-clause-sorted : goal.returns-clause-sorted
returns-clause-sorted c = rw (dedup_is _ _ _ c.dedup.ensures.filtered) (sorted_by _ ahead_less _ (IsStrictlySortedBy-dedup total-law matches_eq-law _ c.sort_unstable.ensures.sorted))
