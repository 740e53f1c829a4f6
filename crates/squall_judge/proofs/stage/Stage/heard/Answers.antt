use Rattle.std.proofs.Common.{◌∙◌, sym, subst}
use Rattle.squall_report.specs.Queries.{queries_by_report}
use Rattle.squall_protocol.specs.Steps.{SendPartStep}
use Rattle.squall_world.specs.Views.{view}
use Rattle.squall_judge.specs.Turns.{origin_of}
use Rattle.squall_judge.proofs.Hearsay.{heard_absent, heard_unknown, heard_taken}
use Rattle.squall_judge.proofs.stage.Stage.heard.Goals as goal

pub returns-then-not-is_there : goal.returns-then-not-is_there
returns-then-not-is_there c =
    heard_absent (view c.args.self.now.world) c.args.node.now (queries_by_report c.args.report.now) c.args.self.now.chunks (sym c.is_there.ensures ∙ c.if-not-is_there.true) c.requires

pub returns-in_default : goal.returns-in_default
returns-in_default c =
    heard_unknown (view c.args.self.now.world) (view c.send_part.new.self) c.args.node.now c.args.report.now c.in_ok-said.said c.in_ok-sent.sent c.args.self.now.chunks c.promised.ensures.reached c.what_comes_happens.ensures.origin
    c.in_ok-said.ensures.limits c.in_ok-said.ensures.board (subst (λ n. SendPartStep (view c.args.self.now.world) n c.in_ok-said.said c.in_ok-sent.sent (view c.send_part.new.self)) c.origin_of.ensures c.in_ok-sent.ensures.ok)
    c.in_default.ensures.none c.requires

pub returns : goal.returns
returns c =
    heard_taken (view c.args.self.now.world) (view c.send_part.new.self) (view c.deliver.new.self) c.args.node.now c.args.report.now c.in_ok-said.said c.in-Some.index c.in_ok-deliver.field-0 c.args.self.now.chunks
    (sym c.is_there.ensures ∙ c.if-not-is_there.false) c.in_ok-said.ensures.board
    (subst (λ a. SendPartStep (view c.args.self.now.world) (origin_of c.args.report.now) c.in_ok-said.said a (view c.send_part.new.self)) c.in-Some.ensures.some
    (subst (λ n. SendPartStep (view c.args.self.now.world) n c.in_ok-said.said c.in_ok-sent.sent (view c.send_part.new.self)) c.origin_of.ensures c.in_ok-sent.ensures.ok))
    c.in_ok-deliver.ensures.ok c.requires
