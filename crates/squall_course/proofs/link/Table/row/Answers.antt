use Rattle.std.proofs.Common.{◌∙◌, ltb, leb, ap, rules}
use Rattle.std.proofs.lemmas.List.Sorted.{IsPartitionPoint-from_clause, IsPartitionedBy-ltb, IsPartitionedBy-leb}
use Rattle.squall_course.specs.Links.{links_of}
use Rattle.squall_course.proofs.Rows.{rise_now, rise_rest, row_slice}
use Rattle.squall_course.proofs.link.Table.row.Goals as goal

pub returns-clause-value : goal.returns-clause-value
returns-clause-value c =
    let source = c.args.source in
    let fs = c.self.inside.links.items in
    let rises = IsPartitionedBy-ltb (λ f. f.source) _ source (rise_now fs c.deref.result.now c.deref.ensures.value c.self.invariant) in
    let then = IsPartitionedBy-leb (λ f. f.source) _ source (rise_rest fs c.deref-2.result.now c.partition_point-first.result c.deref-2.ensures.value c.self.invariant) in
    row_slice source fs c.deref.result.now c.deref-2.result.now c.partition_point-first.result c.partition_point-len.result c.deref.ensures.value c.deref-2.ensures.value c.partition_point-first.ensures.bound
    (IsPartitionPoint-from_clause (λ f. ltb f.source source) _ _ c.partition_point-first.ensures.partitioned rises (λ a r q k. search rules))
    (IsPartitionPoint-from_clause (λ f. leb f.source source) _ _ c.partition_point-len.ensures.partitioned then (λ a r q k. search rules))
    ∙ ap (links_of source) c.self.view_is
