use Rattle.std.specs.Prelude.{◌≡◌, ◌≤◌, ℕ, min}
use Rattle.std.proofs.Common.{ap, subst, ◌∙◌, arith}
use Rattle.squall_key.specs.Keys.{top}
use Rattle.squall_plan.specs.Ranges.{owner_of}
use Rattle.squall_c_changes.specs.Changes.{PutsChanges}
use Rattle.squall_c_changes.specs.Walks.{WalkValue, walk_over}
use Rattle.squall_c_changes.proofs.Spanning.{past_the_top, puts_none, puts_up_to_the_top}
use Rattle.squall_c_changes.proofs.put.put_changes.Goals as goal

pub returns-in_default : goal.returns-in_default
returns-in_default c =
    let high : top ≤ c.args.lo = grind (arith, c.in_default.ensures) in
    puts_none (owner_of c.args.before.now) (owner_of c.args.after.now) c.args.lo c.args.hi c.args.room.now
    (λ k from below. past_the_top (owner_of c.args.before.now) (owner_of c.args.after.now) c.owners_are_partitions.ensures.past c.owners_are_partitions-2.ensures.past k (omega (arith, high, from)))

pub returns-then-hi-lo : goal.returns-then-hi-lo
returns-then-hi-lo c = puts_none (owner_of c.args.before.now) (owner_of c.args.after.now) c.args.lo c.args.hi c.args.room.now (λ k from below. absurd (omega (arith, c.if-hi-lo.true, from, below)))

pub returns : goal.returns
returns c =
    let from : c.in-Some.from ≡ c.args.lo = grind (arith, c.in-Some.ensures) in
    let high : c.min.result ≡ min c.args.hi top = grind (arith, c.min.ensures, c.rank.ensures.value) in
    let is : c.new.result ≡ walk_over c.args.before.now c.args.after.now c.args.lo (min c.args.hi top) =
    c.new.ensures ∙ ap (λ (at : ℕ). walk_over c.args.before.now c.args.after.now at c.min.result) from ∙ ap (walk_over c.args.before.now c.args.after.now c.args.lo) high in
    puts_up_to_the_top (owner_of c.args.before.now) (owner_of c.args.after.now) c.args.lo c.args.hi c.args.room.now c.put_all.new.room c.put_all.result c.owners_are_partitions.ensures.past c.owners_are_partitions-2.ensures.past
    (subst (λ (w : WalkValue). PutsChanges (owner_of w.old_table) (owner_of w.new_table) w.at w.hi c.args.room.now c.put_all.new.room c.put_all.result) is c.put_all.ensures)
