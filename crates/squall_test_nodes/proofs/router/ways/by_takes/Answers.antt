use Rattle.std.specs.Prelude.{refl}
use Rattle.std.proofs.Common.{subst}
use Rattle.squall_report.specs.Told.{TellsBoth, told_by_report}
use Rattle.squall_board.specs.Boards.{BoardValue, told}
use Rattle.squall_test_nodes.proofs.router.ways.by_takes.Goals as goal

pub returns : goal.returns
returns c =
    let first = subst (λ (b : BoardValue). TellsBoth (told c.take.new.self) (told b) (told_by_report c.args.first.now)) c.new-board.ensures.empty c.in_ok-take.ensures.takes.tells in
    (c.take.new.self, first, (c.take-2.new.self, c.in_ok-take-2.ensures.takes.tells, refl))
