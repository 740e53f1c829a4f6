use Rattle.std.proofs.Common.{◌≡◌, ◌+◌, ◌<◌, ℕ, length, get_or, refl, sym, subst, arith}
use Rattle.std.proofs.lemmas.Option.{slice_get_read, slice_get-get_or}
use Rattle.squall_judge.specs.Merges.{world_of}
use Rattle.squall_judge.proofs.Nodes.{read_at}
use Rattle.squall_judge.proofs.Left.{AreSeenTo, seen_more, all_seen}
use Rattle.squall_judge.proofs.causes.causes_of.Goals as goal

within : (n m at : ℕ) → n ≡ m → at < m → at < n
within n m at same low = omega (arith, same, low)

pub loop-at-preserved : goal.loop-at-preserved
loop-at-preserved c =
    subst (λ cs. AreSeenTo (world_of c.args.merge.now) c.args.logs.now c.args.merge.now.taken.items c.args.limits.now (c.loop-at.at + 1) cs) (sym c.in_ok-push.ensures.items)
    (seen_more (world_of c.args.merge.now) c.args.logs.now c.args.merge.now.taken.items c.args.limits.now c.loop-at.at c.loop-at.causes.items c.loop-at.invariant c.index-logs-at.result c.index-count.result.now
    (get_or c.args.limits.now c.loop-at.at 0) c.cause_of.result
    (slice_get_read c.args.logs.now (length c.args.logs.now) c.loop-at.at c.index-logs-at.result refl c.loop-at-test.true c.index-logs-at.is)
    (read_at c.args.merge.now.taken.items c.loop-at.at c.index-count.result.now (within (length c.args.merge.now.taken.items) (length c.args.logs.now) c.loop-at.at c.requires.taken c.loop-at-test.true) c.index-count.ensures)
    (slice_get-get_or c.args.limits.now c.loop-at.at 0 (within (length c.args.limits.now) (length c.args.logs.now) c.loop-at.at c.requires.limits c.loop-at-test.true)) c.cause_of.ensures.some c.cause_of.ensures.none)

pub returns : goal.returns
returns c = all_seen (world_of c.args.merge.now) c.args.logs.now c.args.merge.now.taken.items c.args.limits.now c.loop-at.at c.loop-at.causes.items c.loop-at.invariant (let end = c.loop-at-test.false in omega (arith, end))
