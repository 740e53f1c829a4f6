use Rattle.std.proofs.Common.{◌++◌, ap, ◌∙◌}
use Rattle.squall_cli_json.specs.Tokens.{tokens_of_each}
use Rattle.squall_cli_json.specs.Values.{shown_move}
use Rattle.squall_cli_json.proofs.Streams.{one_more}
use Rattle.squall_cli_json.proofs.status.write_moves.Goals as goal

pub loop-status-preserved : goal.loop-status-preserved
loop-status-preserved c = (
  one_more (shown_move c.args.shown) c.begin_array.new.self.tokens c.loop-status.writer.tokens c.write_shown.new.writer.tokens c.args.moves.now c.loop-status.status-index c.status-item.result c.loop-status-test.true c.loop-status.invariant.0
      (c.in_ok-write_shown.ensures.tokens ∙ ap (λ s. c.loop-status.writer.tokens ++ tokens_of_each (shown_move c.args.shown s)) c.status-item.is),
  c.in_ok-write_shown.ensures.before ∙ c.loop-status.invariant.1,
)
