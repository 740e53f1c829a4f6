use Rattle.std.proofs.Common.{ltb, arith, rules}
use Rattle.std.proofs.lemmas.List.Sorted.{IsPartitionPoint-from_clause, IsPartitionedBy-ltb}
use Rattle.std.proofs.lemmas.Bool.Decides.{nat_tests}
use Rattle.squall_picture.proofs.Ticks.{count_split, is_below, not_below}
use Rattle.squall_picture.proofs.scale.column.Goals as goal

pub returns-clause-value : goal.returns-clause-value
returns-clause-value c =
    let ts = c.args.ticks.now in
    let b = c.args.bound in
    let point = IsPartitionPoint-from_clause (λ t. ltb t b) _ _ c.partition_point.ensures.partitioned (IsPartitionedBy-ltb (λ t. t) ts b c.requires) (λ a r q k. search rules) in
    count_split (λ t. ltb t b) ts c.partition_point.result c.partition_point.ensures.bound (λ j d lt. point.0 j d (omega arith) lt) (λ j d ge lt. point.1 j d ge lt)

pub returns-clause-before : goal.returns-clause-before
returns-clause-before c =
    let ts = c.args.ticks.now in
    let b = c.args.bound in
    let point = IsPartitionPoint-from_clause (λ t. ltb t b) _ _ c.partition_point.ensures.partitioned (IsPartitionedBy-ltb (λ t. t) ts b c.requires) (λ a r q k. search rules) in
    λ j d lt. is_below _ b (point.0 j d (omega arith) lt)

pub returns-clause-from : goal.returns-clause-from
returns-clause-from c =
    let ts = c.args.ticks.now in
    let b = c.args.bound in
    let point = IsPartitionPoint-from_clause (λ t. ltb t b) _ _ c.partition_point.ensures.partitioned (IsPartitionedBy-ltb (λ t. t) ts b c.requires) (λ a r q k. search rules) in
    λ j d ge lt. not_below _ b (point.1 j d ge lt)
