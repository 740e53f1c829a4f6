use Rattle.std.proofs.Common.{IfOk, sym, subst}
use Rattle.squall_world.specs.Views.{view}
use Rattle.squall_judge.specs.Entries.{line_of}
use Rattle.squall_judge.specs.Turns.{IsTurn}
use Rattle.squall_judge.proofs.stage.Stage.turn.Goals as goal

pub returns-in-Own : goal.returns-in-Own
returns-in-Own c =
    subst (λ e. IfOk c.own.result (λ turn. IsTurn (view c.args.self.now.world) c.args.node.now (line_of e) turn (view c.own.new.self.world) c.own.new.self.chunks)) (sym c.in-Own.is) c.own.ensures

pub returns-in-Gift : goal.returns-in-Gift
returns-in-Gift c =
    subst (λ e. IfOk c.gift.result (λ turn. IsTurn (view c.args.self.now.world) c.args.node.now (line_of e) turn (view c.gift.new.self.world) c.gift.new.self.chunks)) (sym c.in-Gift.is) c.gift.ensures

pub returns-in-Arrival : goal.returns-in-Arrival
returns-in-Arrival c =
    subst (λ e. IfOk c.arrival.result (λ turn. IsTurn (view c.args.self.now.world) c.args.node.now (line_of e) turn (view c.arrival.new.self.world) c.arrival.new.self.chunks)) (sym c.in-Arrival.is) c.arrival.ensures

pub returns-in-Heard : goal.returns-in-Heard
returns-in-Heard c =
    subst (λ e. IfOk c.heard.result (λ turn. IsTurn (view c.args.self.now.world) c.args.node.now (line_of e) turn (view c.heard.new.self.world) c.heard.new.self.chunks)) (sym c.in-Heard.is) c.heard.ensures
