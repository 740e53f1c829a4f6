use Rattle.std.specs.Prelude.{◌≡◌, ◌<◌, ◌≤◌, ℕ, length, false, refl}
use Rattle.std.proofs.Common.{ap, subst, ◌∙◌, arith}
use Rattle.squall_plan.specs.Ranges.{owner_of}
use Rattle.squall_c_changes.specs.Walks.{WalkValue, walk_at, IsNextChange, differs_on}
use Rattle.squall_c_changes.proofs.Spanning.{put_none, put_next, put_all, put_full}
use Rattle.squall_c_changes.proofs.put.put_all.Goals as goal

pub loop-count-init : goal.loop-count-init
loop-count-init c = record {
  put = put_none (owner_of c.args.walk.old_table) (owner_of c.args.walk.new_table) c.args.walk.at c.args.walk.hi c.args.room.now c.requires;
  rest = refl;
}

pub loop-count-preserved : goal.loop-count-preserved
loop-count-preserved c =
    let w : WalkValue = c.args.walk in
    let is = c.loop-count.invariant.rest in
    let room : c.loop-count.count < length c.args.room.now = omega (arith, c.loop-count-test.true, c.loop-count.auto.room) in
    record {
      put = put_next w c.loop-count.rest.at c.next.new.self.at c.in-Some.span c.args.room.now c.loop-count.count c.loop-count.room c.loop-count.invariant.put room
          (subst (λ (r : WalkValue). IsNextChange r c.in-Some.span c.next.new.self.at) is c.in-Some.ensures.change);
      rest = c.in-Some.ensures.rest ∙ ap (λ (r : WalkValue). walk_at r c.next.new.self.at) is;
    }

pub returns : goal.returns
returns c =
    let w : WalkValue = c.args.walk in
    let full : length c.args.room.now ≤ c.loop-count.count = omega (arith, c.loop-count-test.false, c.loop-count.auto.room) in
    put_full (owner_of w.old_table) (owner_of w.new_table) w.at c.loop-count.rest.at w.hi c.args.room.now c.loop-count.count c.loop-count.room c.loop-count.invariant.put full

pub returns-in_default : goal.returns-in_default
returns-in_default c =
    let w : WalkValue = c.args.walk in
    put_all (owner_of w.old_table) (owner_of w.new_table) w.at c.loop-count.rest.at w.hi c.args.room.now c.loop-count.count c.loop-count.room c.loop-count.invariant.put
    (subst (λ (r : WalkValue). (k : ℕ) → r.at ≤ k → k < r.hi → differs_on r k ≡ false) c.loop-count.invariant.rest c.in_default.ensures.change)
