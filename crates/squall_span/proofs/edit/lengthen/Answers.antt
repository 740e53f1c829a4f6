use Rattle.std.proofs.Common.{◌≡◌, ◌<◌, ◌≤◌, ◌-◌, List, length, get_or, set, max, ap, subst, sym, ◌∙◌, arith}
use Rattle.squall_span.specs.Spans.{Interval}
use Rattle.squall_span.proofs.Compared.{from_by, max_is}
use Rattle.squall_span.proofs.Inserting.{lengthened}
use Rattle.squall_span.proofs.edit.lengthen.Goals as goal

pub returns-clause-yes : goal.returns-clause-yes
returns-clause-yes c =
    let s : Interval = c.args.span in
    let xs : List Interval = c.args.spans.now.items in
    let x : Interval = c.in-Some.last.now in
    let some : 0 < length xs = subst (λ (zs : List Interval). 0 < length zs) c.deref.ensures.value c.in-Some.ensures.item.3.0 in
    let is : x ≡ get_or xs (length xs - 1) x = c.in-Some.ensures.item.1 ∙ ap (λ zs. get_or zs (length zs - 1) x) c.deref.ensures.value in
    let high : c.max.result ≡ max s.hi x.hi = c.max.ensures ∙ max_is _ _ ∙ (λ k. max (c.hi-2.ensures.value k) (c.hi-3.ensures.value k)) in
    let starts : x.lo ≤ s.lo = omega (arith, from_by _ _ _ c.lo.ensures.value (sym c.if-lt.false ∙ c.lt.ensures), c.lo-2.ensures.value) in
    let touches : s.lo ≤ x.hi = omega (arith, from_by _ _ _ c.hi.ensures.value (sym c.if-lt-2.false ∙ c.lt-else-lt.ensures), c.lo-else-lt.ensures.value) in
    let len : c.len-at.result ≡ length xs = omega arith in
    λ yes. ap (λ n. set xs (n - 1) c.between-both.result) len
    ∙ lengthened s xs c.lo-3.result c.max.result c.between-both.result x (omega arith) c.requires some is starts touches c.between-both.ensures c.lo-3.ensures.value high
