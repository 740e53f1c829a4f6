use Rattle.std.proofs.Common.{◌≡◌, ◌<◌, ◌-◌, List, length, get_or, sym, subst, ◌∙◌, arith}
use Rattle.squall_span.specs.Spans.{Interval}
use Rattle.squall_span.proofs.Compared.{below_by, is_below_by}
use Rattle.squall_span.proofs.Places.{last_apart}
use Rattle.squall_span.proofs.search.all_apart.Goals as goal

pub returns-in-Some : goal.returns-in-Some
returns-in-Some c =
    let xs : List Interval = c.args.spans.now in
    let x : Interval = c.in-Some.last.now in
    let some : 0 < length xs = c.in-Some.ensures.item.3.0 in
    let is : x ≡ get_or xs (length xs - 1) x = c.in-Some.ensures.item.1 in (
      λ t. last_apart xs c.args.bound x c.requires some is (below_by _ _ _ c.hi.ensures.value (sym t ∙ c.lt.ensures)),
      λ a.
          let last : x.hi < c.args.bound = subst (λ (t : Interval). t.hi < c.args.bound) (sym is) (a.before (length xs - 1) x (omega (arith, some))) in
          c.lt.ensures ∙ is_below_by _ _ _ c.hi.ensures.value last,
    )
