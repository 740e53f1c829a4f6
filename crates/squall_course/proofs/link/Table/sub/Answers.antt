use Rattle.std.proofs.Common.{◌≡◌, ltb, arith, rules}
use Rattle.std.proofs.lemmas.List.Sorted.{IsPartitionPoint-from_clause, IsPartitionedBy-ltb}
use Rattle.squall_course.specs.Links.{lower_links}
use Rattle.squall_course.proofs.Rows.{rise_row, sub_by_row, lower_fits}
use Rattle.squall_course.proofs.link.Table.sub.Goals as goal

is_sub : goal.returns
is_sub c =
    let rises = IsPartitionedBy-ltb (λ f. f.dest) _ c.args.dest (rise_row c.args.source c.args.self.now c.row.result.now c.row.ensures.value c.row.ensures.sorted) in
    sub_by_row c.args.source c.args.dest c.args.self.now c.row.result.now c.partition_point.result c.row.ensures.value c.partition_point.ensures.bound
    (IsPartitionPoint-from_clause (λ f. ltb f.dest c.args.dest) _ _ c.partition_point.ensures.partitioned rises (λ a r q k. search rules))

pub overflow_cast-result : goal.overflow_cast-result
overflow_cast-result c =
    let is : c.partition_point.result ≡ lower_links c.args.source c.args.dest c.args.self.now = is_sub c in
    let few = lower_fits c.args.source c.args.dest c.args.self.now c.row.ensures.sorted in
    omega (arith, is, few, c.get-number.ensures.value, c.get-number.ensures.below)

pub returns : goal.returns
returns c = is_sub c
