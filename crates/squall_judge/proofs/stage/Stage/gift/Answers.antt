use Rattle.std.proofs.Common.{◌∙◌, sym, subst}
use Rattle.squall_world.specs.Views.{view}
use Rattle.squall_audit.specs.Lines.{Gift}
use Rattle.squall_judge.specs.declared.turn.Turn.TheVariants.{Taken}
use Rattle.squall_judge.specs.Turns.{IsDone, IsMade, IsTurn}
use Rattle.squall_judge.proofs.Turns.{gift_waits, gift_own, gift_other, gift_taken}
use Rattle.squall_judge.proofs.stage.Stage.gift.Goals as goal

pub returns-in_default : goal.returns-in_default
returns-in_default c = gift_waits (view c.args.self.now.world) (view c.happen.new.self.world) c.args.node.now c.args.event.now c.args.chunk c.happen.new.self.chunks (subst (λ o. IsMade (view c.args.self.now.world) c.args.node.now c.args.event.now o (view c.happen.new.self.world)) c.in_default.is c.in_ok-got.ensures.ok) (c.in_ok-got.ensures.chunks ∙ c.requires)

pub returns-in_default-gift_of : goal.returns-in_default-gift_of
returns-in_default-gift_of c = gift_own (view c.args.self.now.world) (view c.happen.new.self.world) c.args.node.now c.args.event.now c.args.chunk c.in-Some.got (subst (λ o. IsMade (view c.args.self.now.world) c.args.node.now c.args.event.now o (view c.happen.new.self.world)) c.in-Some.is c.in_ok-got.ensures.ok) c.in_default-gift_of.ensures.none

pub returns-then-not-same_chunk : goal.returns-then-not-same_chunk
returns-then-not-same_chunk c =
    let given = c.in-Some-gift_of.ensures.some in
    gift_other (view c.args.self.now.world) (view c.happen.new.self.world) c.args.node.now c.args.event.now c.args.chunk given.0 c.in-Some-gift_of.given (subst (λ b. IsDone (view c.args.self.now.world) c.args.node.now c.args.event.now b (view c.happen.new.self.world)) given.1 (subst (λ o. IsMade (view c.args.self.now.world) c.args.node.now c.args.event.now o (view c.happen.new.self.world)) c.in-Some.is c.in_ok-got.ensures.ok)) (c.same_chunk.ensures.apart c.if-not-same_chunk.true)

pub returns : goal.returns
returns c =
    let given = c.in-Some-gift_of.ensures.some in
    subst (λ y. IsTurn (view c.args.self.now.world) c.args.node.now (Gift c.args.event.now y) Taken (view c.happen.new.self.world) c.push.new.self) (c.same_chunk.ensures.same c.if-not-same_chunk.false)
    (subst (λ cs. IsTurn (view c.args.self.now.world) c.args.node.now (Gift c.args.event.now c.in-Some-gift_of.given) Taken (view c.happen.new.self.world) cs) (sym c.in_ok-push.ensures)
    (gift_taken (view c.args.self.now.world) (view c.happen.new.self.world) c.args.node.now c.args.event.now given.0 c.in-Some-gift_of.given c.happen.new.self.chunks (subst (λ b. IsDone (view c.args.self.now.world) c.args.node.now c.args.event.now b (view c.happen.new.self.world)) given.1 (subst (λ o. IsMade (view c.args.self.now.world) c.args.node.now c.args.event.now o (view c.happen.new.self.world)) c.in-Some.is c.in_ok-got.ensures.ok)) (c.in_ok-got.ensures.chunks ∙ c.requires)))
