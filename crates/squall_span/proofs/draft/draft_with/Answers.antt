use Rattle.std.proofs.Common.{◌≡◌, ℕ, List, subst, arith}
use Rattle.squall_blocks.specs.Entries.{replaced}
use Rattle.squall_span.specs.Spans.{insert_span}
use Rattle.squall_span.specs.Many.{spans_of}
use Rattle.squall_span.proofs.Drafted.{ok_inserted, ok_replaced}
use Rattle.squall_span.proofs.draft.draft_with.Goals as goal

pub returns-clause-set : goal.returns-clause-set
returns-clause-set c =
    let made = replaced c.in_ok-change.change.from c.in_ok-change.change.to c.in_ok-change.change.fresh c.args.draft.now.1 in
    let is = subst (λ (es : List (ℕ × ℕ)). spans_of (replaced c.in_ok-change.change.from c.in_ok-change.change.to c.in_ok-change.change.fresh es) ≡ insert_span c.args.span (spans_of es)) c.lent.ensures c.in_ok-change.ensures.value in
    ok_inserted c.args.span c.args.draft.now.1 c.replace.new.self.1 c.replace.result (omega arith) (omega arith) c.requires.set
    (ok_replaced c.replace.new.self.1 made (insert_span c.args.span (spans_of c.args.draft.now.1)) c.replace.result c.replace.ensures.after is)
