use Rattle.std.proofs.Common.{◌∙◌, sym, ap, arith}
use Rattle.std.specs.Prelude.{slice_get}
use Rattle.squall_blocks.specs.EntriesLaws.{before_is, before_none}
use Rattle.squall_blocks.proofs.Blocked.{first_at}
use Rattle.squall_blocks.proofs.entries.Entries.whole_above.Goals.{then-at-eq0, else-at-eq0}
use Rattle.squall_blocks.proofs.entries.Entries.whole_above.Goals as goal

pub returns-clause-begin : goal.returns-clause-begin
returns-clause-begin g c = elim c.if-at-eq0.branch [
  | then-at-eq0 w ↦ w.begin-is ∙ before_none c.args.least c.args.key c.ended-at.result c.args.self.now c.ended-at.ensures.up_to w.if-at-eq0.true
  | else-at-eq0 w ↦ w.begin-is ∙ before_is c.args.least c.args.key c.ended-at.result c.args.self.now w.at.result c.ended-at.ensures.up_to c.ended-at.ensures.within (omega (arith, w.if-at-eq0.false)) w.at.ensures
]

pub returns-clause-entry : goal.returns-clause-entry
returns-clause-entry g c = sym c.at-2.ensures ∙ sym (first_at c.args.self.now c.ended-at.result) ∙ sym (ap (λ l. slice_get l 0) c.ended-at.ensures.beyond)
