use Rattle.std.proofs.Common.{◌++◌, ◌+◌, ℕ, [], ◌∷◌, ap, ◌∙◌, arith}
use Rattle.squall_cli_boards.proofs.Runs.{run_more, run_ends}
use Rattle.squall_cli_boards.proofs.shared.add_run.Goals as goal

pub loop-number-preserved : goal.loop-number-preserved
loop-number-preserved c =
    run_more c.loop-number.parts.items c.push.new.self.items _ c.loop-number.number (c.args.run.1 + 1) (omega (arith, c.loop-number-test.true))
    (c.in_ok-push.ensures.items ∙ ap (λ (n : ℕ). c.loop-number.parts.items ++ n ∷ []) c.of.ensures) c.loop-number.invariant

pub returns : goal.returns
returns c = run_ends c.loop-number.parts.items _ c.loop-number.number (c.args.run.1 + 1) (omega (arith, c.loop-number-test.false)) c.loop-number.invariant
