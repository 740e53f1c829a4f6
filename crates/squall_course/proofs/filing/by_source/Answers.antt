use Rattle.std.proofs.Common.{IsPermutation, subst, rules}
use Rattle.std.proofs.lemmas.List.Sorted.{IsNonDecreasingBy-from_sort_by_key}
use Rattle.squall_course.specs.Steps.{leaving_place}
use Rattle.squall_course.proofs.filing.by_source.Goals as goal

pub returns : goal.returns
returns c = record {
  same = subst (λ ms. IsPermutation ms c.sort_by_key.new.self.items) c.in_ok-leaving.ensures.items c.sort_by_key.ensures.permutation;
  rises = IsNonDecreasingBy-from_sort_by_key leaving_place c.sort_by_key.new.self.items c.in_ok-sort_by_key.ensures.sorted (λ a r q k. search rules);
}
