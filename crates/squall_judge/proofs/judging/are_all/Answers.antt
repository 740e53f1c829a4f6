use Rattle.std.proofs.Common.{◌≡◌, ℕ, ◌<◌, ◌≤◌, Some, length, get_or, refl, subst, ◌∙◌, arith}
use Rattle.std.specs.List.{slice_get}
use Rattle.std.proofs.lemmas.Option.{slice_get_read, slice_get-get_or, slice_get_within, get_or_from_slice_get}
use Rattle.squall_protocol.specs.ListLaws.{at_one}
use Rattle.squall_judge.specs.declared.log.Log.{Log}
use Rattle.squall_judge.proofs.Nodes.{below}
use Rattle.squall_judge.proofs.judging.are_all.Goals as goal

pub returns-then-taken-at-clause-some : goal.returns-then-taken-at-clause-some
returns-then-taken-at-clause-some c = λ not. (
  c.loop-at.at,
  get_or c.args.taken.now c.loop-at.at 0,
  c.index-logs-at.result,
  slice_get_read c.args.logs.now (length c.args.logs.now) c.loop-at.at c.index-logs-at.result refl c.loop-at-test.true c.index-logs-at.is,
  slice_get-get_or c.args.taken.now c.loop-at.at 0 (omega (arith, c.loop-at-test.true, c.requires)),
  subst (λ n. get_or c.args.taken.now c.loop-at.at 0 < n) (c.len.ensures ∙ c.index-logs-at.result.entries.ok.0) c.if-taken-at.true,
)

pub loop-at-preserved : goal.loop-at-preserved
loop-at-preserved c = λ i n log low here there.
    below c.loop-at.at (λ k. (m : ℕ) (l : Log) → slice_get c.args.logs.now k ≡ Some l → slice_get c.args.taken.now k ≡ Some m → length l.entries.items ≤ m)
    (λ k less m l p q. c.loop-at.invariant k m l less p q)
    (λ m l p q.
    subst (λ (x : Log). length x.entries.items ≤ m)
    (at_one c.args.logs.now c.loop-at.at c.index-logs-at.result l
    (slice_get_read c.args.logs.now (length c.args.logs.now) c.loop-at.at c.index-logs-at.result refl c.loop-at-test.true c.index-logs-at.is) p)
    (subst (λ k. length c.index-logs-at.result.entries.items ≤ k) (get_or_from_slice_get c.args.taken.now c.loop-at.at m 0 q)
    (subst (λ k. k ≤ get_or c.args.taken.now c.loop-at.at 0) (c.len.ensures ∙ c.index-logs-at.result.entries.ok.0) c.if-taken-at.false)))
    i low n log here there

pub returns-clause-all : goal.returns-clause-all
returns-clause-all c = λ yes i n log here there.
    c.loop-at.invariant i n log (let low = slice_get_within c.args.logs.now i log here in let end = c.loop-at-test.false in omega (arith, low, end)) here there
