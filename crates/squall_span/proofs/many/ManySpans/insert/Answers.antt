use Rattle.std.proofs.Common.{◌≡◌, ℕ, List, subst, arith}
use Rattle.squall_blocks.specs.Entries.{replaced}
use Rattle.squall_span.specs.Spans.{insert_span}
use Rattle.squall_span.specs.Many.{spans_of}
use Rattle.squall_span.proofs.Changing.{set_inserted}
use Rattle.squall_span.proofs.many.ManySpans.insert.Goals as goal

pub invariant_of-self : goal.invariant_of-self
invariant_of-self c =
    let made = replaced c.in_ok-change.change.from c.in_ok-change.change.to c.in_ok-change.change.fresh c.self.inside.ends in
    let is = subst (λ (es : List (ℕ × ℕ)). spans_of (replaced c.in_ok-change.change.from c.in_ok-change.change.to c.in_ok-change.change.fresh es) ≡ insert_span c.args.span (spans_of es)) c.lent.ensures c.in_ok-change.ensures.value in
    set_inserted c.args.span c.self.inside.ends c.replace.new.self made c.replace.result (omega arith) (omega arith) c.self.invariant is c.replace.ensures.ok c.replace.ensures.err
