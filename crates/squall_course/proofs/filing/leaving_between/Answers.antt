use Rattle.std.proofs.Common.{ltb, rules}
use Rattle.std.proofs.lemmas.List.Sorted.{IsPartitionPoint-from_clause, IsPartitionedBy-ltb}
use Rattle.squall_course.specs.Steps.{leaving_place}
use Rattle.squall_course.proofs.Filed.{rest_rises, slice_is}
use Rattle.squall_course.proofs.filing.leaving_between.Goals as goal

pub returns : goal.returns
returns c =
    let ms = c.args.leaving.now in
    let first = c.partition_point-first.result in
    let rises = IsPartitionedBy-ltb leaving_place ms c.args.from c.requires.rises in
    let later = IsPartitionedBy-ltb leaving_place _ c.args.to (rest_rises leaving_place ms first c.requires.rises) in
    slice_is leaving_place c.args.from c.args.to ms first c.partition_point-len.result c.partition_point-first.ensures.bound
    (IsPartitionPoint-from_clause (λ m. ltb (leaving_place m) c.args.from) _ _ c.partition_point-first.ensures.partitioned rises (λ a r q k. search rules))
    (IsPartitionPoint-from_clause (λ m. ltb (leaving_place m) c.args.to) _ _ c.partition_point-len.ensures.partitioned later (λ a r q k. search rules))
