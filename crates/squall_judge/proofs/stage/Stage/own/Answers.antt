use Rattle.std.proofs.Common.{◌∙◌, subst}
use Rattle.squall_world.specs.Views.{view}
use Rattle.squall_judge.specs.Turns.{IsDone, IsMade}
use Rattle.squall_judge.proofs.Events.{NotGiven}
use Rattle.squall_judge.proofs.Turns.{own_waits, own_gave, own_other, own_taken}
use Rattle.squall_judge.proofs.stage.Stage.own.Goals as goal

pub returns-in_default : goal.returns-in_default
returns-in_default c = own_waits (view c.args.self.now.world) (view c.happen.new.self.world) c.args.node.now c.args.event.now c.args.answer.now c.happen.new.self.chunks (subst (λ o. IsMade (view c.args.self.now.world) c.args.node.now c.args.event.now o (view c.happen.new.self.world)) c.in_default.is c.in_ok-got.ensures.ok) (c.in_ok-got.ensures.chunks ∙ c.requires)

pub returns-then-is_gift : goal.returns-then-is_gift
returns-then-is_gift c =
    let given = c.is_gift.ensures.some c.if-is_gift.true in
    own_gave (view c.args.self.now.world) (view c.happen.new.self.world) c.args.node.now c.args.event.now c.args.answer.now given.0 given.1 (subst (λ b. IsDone (view c.args.self.now.world) c.args.node.now c.args.event.now b (view c.happen.new.self.world)) given.2 (subst (λ o. IsMade (view c.args.self.now.world) c.args.node.now c.args.event.now o (view c.happen.new.self.world)) c.in-Some.is c.in_ok-got.ensures.ok))

pub returns-then-not-same_answer : goal.returns-then-not-same_answer
returns-then-not-same_answer c =
    own_other (view c.args.self.now.world) (view c.happen.new.self.world) c.args.node.now c.args.event.now c.args.answer.now c.in-Some.got (subst (λ o. IsMade (view c.args.self.now.world) c.args.node.now c.args.event.now o (view c.happen.new.self.world)) c.in-Some.is c.in_ok-got.ensures.ok) (c.is_gift.ensures.none c.if-is_gift.false) (c.same_answer.ensures.apart c.if-not-same_answer.true)

pub returns : goal.returns
returns c =
    let same = c.same_answer.ensures.same c.if-not-same_answer.false in
    own_taken (view c.args.self.now.world) (view c.happen.new.self.world) c.args.node.now c.args.event.now c.args.answer.now c.happen.new.self.chunks (subst (λ b. IsDone (view c.args.self.now.world) c.args.node.now c.args.event.now b (view c.happen.new.self.world)) same (subst (λ o. IsMade (view c.args.self.now.world) c.args.node.now c.args.event.now o (view c.happen.new.self.world)) c.in-Some.is c.in_ok-got.ensures.ok)) (subst NotGiven same (c.is_gift.ensures.none c.if-is_gift.false)) (c.in_ok-got.ensures.chunks ∙ c.requires)
