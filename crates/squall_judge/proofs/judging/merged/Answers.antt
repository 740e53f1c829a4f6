use Rattle.std.proofs.Common.{◌≡◌, ◌<◌, ℕ, length, sym, subst, arith}
use Rattle.std.proofs.lemmas.Option.{slice_get_within}
use Rattle.squall_judge.specs.Merges.{AreLimits, HasRun, IsOver, IsWrong}
use Rattle.squall_judge.proofs.Nodes.{read_at}
use Rattle.squall_judge.proofs.Merges.{fresh_ready, cut_first, cut_more, lower, ended_of}
use Rattle.squall_judge.proofs.judging.merged.Goals as goal

same_below : (n m i : ℕ) → n ≡ m → i < m → i < n
same_below n m i same low = omega (arith, same, low)

pub loop-merge-init : goal.loop-merge-init
loop-merge-init c = cut_first c.args.old.now c.args.new.now c.args.routers c.args.logs.now c.args.limits.items c.requires.limits

pub run-requires-clause-ready : goal.run-requires-clause-ready
run-requires-clause-ready c = fresh_ready c.args.old.now c.args.new.now c.args.routers c.args.logs.now c.deref.result.now c.in-Ok.merge c.in-Ok.ensures

pub run-requires-clause-limits : goal.run-requires-clause-limits
run-requires-clause-limits c = subst (AreLimits c.args.logs.now) (sym c.deref.ensures.value) c.loop-merge.invariant.most

pub index-requires : goal.index-requires
index-requires c =
    let w : IsWrong c.args.logs.now c.deref.result.now c.in-Ok.merge c.in-Some.at c.run.new.self = subst (λ o. HasRun c.args.logs.now c.deref.result.now c.in-Ok.merge o c.run.new.self) c.in-Some.is c.in-Ok-run.ensures in
    same_below c.run.new.self.taken.len (length c.run.new.self.taken.items) c.in-Some.at c.run.new.self.taken.ok.0 (slice_get_within c.run.new.self.taken.items c.in-Some.at w.next.count w.next.count_at)

pub index_mut-requires : goal.index_mut-requires
index_mut-requires c =
    let w : IsWrong c.args.logs.now c.loop-merge.limits.items c.in-Ok.merge c.in-Some.at c.run.new.self =
    subst (λ ks. IsWrong c.args.logs.now ks c.in-Ok.merge c.in-Some.at c.run.new.self) c.deref.ensures.value (subst (λ o. HasRun c.args.logs.now c.deref.result.now c.in-Ok.merge o c.run.new.self) c.in-Some.is c.in-Ok-run.ensures) in
    same_below c.loop-merge.limits.len (length c.loop-merge.limits.items) c.in-Some.at c.loop-merge.limits.ok.0 (slice_get_within c.loop-merge.limits.items c.in-Some.at w.next.limit w.next.limit_at)

pub loop-merge-smaller : goal.loop-merge-smaller
loop-merge-smaller c =
    let w : IsWrong c.args.logs.now c.loop-merge.limits.items c.in-Ok.merge c.in-Some.at c.run.new.self =
    subst (λ ks. IsWrong c.args.logs.now ks c.in-Ok.merge c.in-Some.at c.run.new.self) c.deref.ensures.value (subst (λ o. HasRun c.args.logs.now c.deref.result.now c.in-Ok.merge o c.run.new.self) c.in-Some.is c.in-Ok-run.ensures) in
    lower c.args.old.now c.args.new.now c.args.routers c.args.logs.now c.loop-merge.limits.items c.in-Ok.merge c.run.new.self c.in-Some.at c.index.result.now w
    (read_at c.run.new.self.taken.items c.in-Some.at c.index.result.now (slice_get_within c.run.new.self.taken.items c.in-Some.at w.next.count w.next.count_at) c.index.ensures)

pub loop-merge-preserved : goal.loop-merge-preserved
loop-merge-preserved c =
    let w : IsWrong c.args.logs.now c.loop-merge.limits.items c.in-Ok.merge c.in-Some.at c.run.new.self =
    subst (λ ks. IsWrong c.args.logs.now ks c.in-Ok.merge c.in-Some.at c.run.new.self) c.deref.ensures.value (subst (λ o. HasRun c.args.logs.now c.deref.result.now c.in-Ok.merge o c.run.new.self) c.in-Some.is c.in-Ok-run.ensures) in
    cut_more c.args.old.now c.args.new.now c.args.routers c.args.logs.now c.logs_answer.ensures c.loop-merge.limits.items c.in-Ok.merge c.run.new.self c.in-Some.at c.index.result.now c.requires.apart c.in-Ok.ensures w
    (read_at c.run.new.self.taken.items c.in-Some.at c.index.result.now (slice_get_within c.run.new.self.taken.items c.in-Some.at w.next.count w.next.count_at) c.index.ensures) c.loop-merge.invariant

pub returns-in_default-wrong-clause-ok : goal.returns-in_default-wrong-clause-ok
returns-in_default-wrong-clause-ok c =
    let over : IsOver c.args.logs.now c.loop-merge.limits.items c.in-Ok.merge c.run.new.self =
    subst (λ ks. IsOver c.args.logs.now ks c.in-Ok.merge c.run.new.self) c.deref.ensures.value (subst (λ o. HasRun c.args.logs.now c.deref.result.now c.in-Ok.merge o c.run.new.self) c.in_default-wrong.is c.in-Ok-run.ensures) in
    ended_of c.args.old.now c.args.new.now c.args.routers c.args.logs.now c.loop-merge.limits.items c.in-Ok.merge c.run.new.self c.requires.apart c.in-Ok.ensures over c.loop-merge.invariant c.what_is_left_is_in_no_run.ensures
    c.logs_are_judged.ensures.reached
