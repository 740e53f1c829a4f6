use Rattle.squall_protocol.specs.Worlds.{start}
use Rattle.squall_judge.proofs.Nodes.{apart_not_two}
use Rattle.std.proofs.Common.{subst}
use Rattle.squall_judge.specs.Merges.{world_of}
use Rattle.squall_judge.specs.Seen.{AreSeen}
use Rattle.squall_judge.proofs.Ends.{accepted, refused}
use Rattle.squall_judge.proofs.Left.{all_causes}
use Rattle.squall_judge.proofs.judging.judge.Goals as goal

pub returns-in_err-routers-clause-two : goal.returns-in_err-routers-clause-two
returns-in_err-routers-clause-two c = λ two. absurd (apart_not_two c.args.logs.now c.in_ok-are_apart.ensures.ok two)

pub returns-in_err-limits-clause-two : goal.returns-in_err-limits-clause-two
returns-in_err-limits-clause-two c = λ two. absurd (apart_not_two c.args.logs.now c.in_ok-are_apart.ensures.ok two)

pub returns-in_err-ended-clause-two : goal.returns-in_err-ended-clause-two
returns-in_err-ended-clause-two c = λ two. absurd (apart_not_two c.args.logs.now c.in_ok-are_apart.ensures.ok two)

pub returns-then-are_all-clause-ok : goal.returns-then-are_all-clause-ok
returns-then-are_all-clause-ok c = (
  c.in_ok-routers.routers,
  c.in_ok-routers.ensures.ok,
  accepted (start c.args.old.now c.args.new.now c.in_ok-routers.routers) (world_of c.in_ok-ended.ended.0) c.args.logs.now c.in_ok-ended.ended.0.taken.items c.deref.result.now c.deref.ensures.value c.in_ok-ended.ensures.ok.end
      (c.are_all.ensures.all c.if-are_all.true),
)

pub returns-then-are_all-clause-apart : goal.returns-then-are_all-clause-apart
returns-then-are_all-clause-apart c = c.in_ok-are_apart.ensures.ok

pub returns-then-are_all-clause-two : goal.returns-then-are_all-clause-two
returns-then-are_all-clause-two c = λ two. absurd (apart_not_two c.args.logs.now c.in_ok-are_apart.ensures.ok two)

pub returns-in_default-clause-two : goal.returns-in_default-clause-two
returns-in_default-clause-two c = λ two. absurd (apart_not_two c.args.logs.now c.in_ok-are_apart.ensures.ok two)

pub returns-clause-ok : goal.returns-clause-ok
returns-clause-ok c = (
  c.in_ok-routers.routers,
  c.in_ok-routers.ensures.ok,
  refused (start c.args.old.now c.args.new.now c.in_ok-routers.routers) (world_of c.in_ok-ended.ended.0) c.args.logs.now c.in_ok-ended.ended.0.taken.items c.deref.result.now c.in-Ok.causes.items c.deref.ensures.value c.in_ok-ended.ensures.ok.end
      (all_causes (start c.args.old.now c.args.new.now c.in_ok-routers.routers) (world_of c.in_ok-ended.ended.0) c.args.logs.now c.in_ok-ended.ended.0.taken.items c.in_ok-ended.ended.1.items c.in_ok-ended.ensures.ok.cut
      c.in_ok-ended.ensures.ok.stuck c.in-Ok.causes.items
      (subst (λ ks. AreSeen (world_of c.in_ok-ended.ended.0) c.args.logs.now c.in_ok-ended.ended.0.taken.items ks c.in-Ok.causes.items) c.deref-2.ensures.value c.in-Ok.ensures)) (c.are_all.ensures.some c.if-are_all.false),
)

pub returns-clause-apart : goal.returns-clause-apart
returns-clause-apart c = c.in_ok-are_apart.ensures.ok

pub returns-clause-two : goal.returns-clause-two
returns-clause-two c = λ two. absurd (apart_not_two c.args.logs.now c.in_ok-are_apart.ensures.ok two)
