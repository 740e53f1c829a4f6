use Rattle.std.proofs.Common.{◌≡◌, ◌<◌, length, vec_len, refl, sym, subst, rules}
use Rattle.squall_world.proofs.Counting.{step_below, step_end, step_less, step_kept}
use Rattle.squall_world.proofs.counts.raise.Goals as goal
use Rattle.squall_world.proofs.counts.raise.Goals.{then-at-len, else-at-len+then-index-count, else-at-len+else-index-count}

pub index-requires : goal.index-requires
index-requires c = step_below c.loop-at.at (vec_len c.loop-at.known) c.loop-at.known.items c.args.known.now.items c.args.counts.now c.loop-at.invariant.1 (search rules) (search rules) (search rules)

pub index_mut-requires : goal.index_mut-requires
index_mut-requires c = step_below c.loop-at.at (vec_len c.loop-at.known) c.loop-at.known.items c.args.known.now.items c.args.counts.now c.loop-at.invariant.1 (search rules) (search rules) (search rules)

pub loop-at-preserved : goal.loop-at-preserved
loop-at-preserved c =
    let len : length c.loop-at.known.items ≡ vec_len c.loop-at.known = search rules in
    elim c.if-at-len.branch [
      | then-at-len w ↦ rw w.known-is (search rules, step_end c.loop-at.at c.loop-at.known.items _ c.args.known.now.items c.args.counts.now c.loop-at.invariant.1 (search rules) (search rules) (search rules))
      | else-at-len+then-index-count w ↦ rw w.known-is (search rules, step_less c.loop-at.at w.index.result.now c.loop-at.known.items _ c.args.known.now.items c.args.counts.now c.loop-at.invariant.1 (subst (λ v. c.loop-at.at < v) (sym len) (step_below c.loop-at.at (vec_len c.loop-at.known) c.loop-at.known.items c.args.known.now.items c.args.counts.now c.loop-at.invariant.1 len (search rules) (search rules))) (search rules) (search rules) (search rules) refl)
      | else-at-len+else-index-count w ↦ rw w.known-is (search rules, step_kept c.loop-at.at w.index.result.now c.loop-at.known.items c.args.known.now.items c.args.counts.now c.loop-at.invariant.1 (subst (λ v. c.loop-at.at < v) (sym len) (step_below c.loop-at.at (vec_len c.loop-at.known) c.loop-at.known.items c.args.known.now.items c.args.counts.now c.loop-at.invariant.1 len (search rules) (search rules))) (search rules) (search rules) (search rules))
    ]
