use Rattle.std.proofs.Common.{rules, ap, subst, ◌∙◌}
use Rattle.squall_protocol.specs.declared.event.Node.TheVariants.{Part}
use Rattle.squall_protocol.specs.Steps.{LoadStep}
use Rattle.squall_world.specs.Views.{view}
use Rattle.squall_judge.proofs.Turns.{arrival_early, arrival_taken, arrival_other}
use Rattle.squall_judge.proofs.stage.Stage.arrival.Goals as goal

pub returns-then-is_no_such : goal.returns-then-is_no_such
returns-then-is_no_such c =
    arrival_early (view c.args.self.now.world) (view c.load.new.self) c.args.node.now c.args.chunk c.args.answer.now c.in-Some.at c.args.self.now.chunks (search rules) c.requires
    (subst (λ a. LoadStep (view c.args.self.now.world) c.in-Some.at a (view c.load.new.self)) (c.is_no_such.ensures.same c.if-is_no_such.true) c.in_ok-got.ensures.ok)

pub returns-then-not-same_answer : goal.returns-then-not-same_answer
returns-then-not-same_answer c =
    arrival_other (view c.args.self.now.world) (view c.load.new.self) c.args.node.now c.args.chunk c.args.answer.now c.in_ok-got.got c.in-Some.at c.args.self.now.chunks
    (c.same_node.ensures.same c.if-not-same_node.false ∙ ap Part c.dest.ensures) (search rules) c.requires c.in_ok-got.ensures.ok (c.is_no_such.ensures.apart c.if-is_no_such.false) (c.same_answer.ensures.apart c.if-not-same_answer.true)

pub returns : goal.returns
returns c =
    arrival_taken (view c.args.self.now.world) (view c.load.new.self) c.args.node.now c.args.chunk c.args.answer.now c.in-Some.at c.args.self.now.chunks (c.same_node.ensures.same c.if-not-same_node.false ∙ ap Part c.dest.ensures) (search rules)
    c.requires (subst (λ a. LoadStep (view c.args.self.now.world) c.in-Some.at a (view c.load.new.self)) (c.same_answer.ensures.same c.if-not-same_answer.false) c.in_ok-got.ensures.ok)
    (λ is. c.is_no_such.ensures.apart c.if-is_no_such.false (c.same_answer.ensures.same c.if-not-same_answer.false ∙ is))
