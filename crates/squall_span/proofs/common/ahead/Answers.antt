use Rattle.std.proofs.Common.{List, ap, subst, ◌∙◌, sym}
use Rattle.std.specs.Prelude.{◌&&◌, drop}
use Rattle.squall_span.specs.Spans.{Interval, has, IsCanonical}
use Rattle.squall_span.specs.Places.{Ended}
use Rattle.squall_span.proofs.Compared.{first_is}
use Rattle.squall_span.proofs.Meeting.{ahead_same}
use Rattle.squall_span.proofs.common.ahead.Goals as goal

pub returns-in-Some-clause-same : goal.returns-in-Some-clause-same
returns-in-Some-clause-same c k =
    let xs : List Interval = c.args.first.now in
    let first = first_is c.args.second.now c.in-Some.start.now c.in-Some.ensures.value in
    ap (λ (l : List Interval). has (drop c.ended.result xs) k && has l k) first.1
    ∙ ahead_same xs c.in-Some.start.now first.0 c.ended.result k (subst IsCanonical first.1 c.requires.second) (subst (λ n. Ended xs n c.ended.result) c.lo.ensures.value c.ended.ensures)
    ∙ sym (ap (λ (l : List Interval). has xs k && has l k) first.1)
