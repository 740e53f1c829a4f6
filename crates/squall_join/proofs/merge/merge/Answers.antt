use Rattle.std.proofs.Common.{inl, inr, arith, ◌⊎◌, ◌≤◌, length}
use Rattle.squall_join.proofs.Places.{merge_done}
use Rattle.squall_join.proofs.merge.merge.Goals as goal
use Rattle.squall_join.proofs.merge.merge.Goals.{then-loop-i-test+else-j-b, else-loop-i-test}

pub returns : goal.returns
returns g c =
    let used : (length c.args.a.now ≤ c.loop-i.i) ⊎ (length c.args.b.now ≤ c.loop-i.j) = elim c.loop-i-test.branch [ then-loop-i-test+else-j-b w ↦ inr (omega arith) | else-loop-i-test w ↦ inl (omega arith) ] in
    merge_done g.met.K.Ord.total g.V.Join.join c.loop-i.out.items c.push_copies.new.out.items c.push_copies-2.new.out.items c.args.a.now c.args.b.now c.loop-i.i c.loop-i.j used c.loop-i.invariant.so_far c.in_ok-push_copies.ensures c.in_ok-push_copies-2.ensures
