use Rattle.std.specs.Prelude.{refl, [], ◌∷◌}
use Rattle.std.proofs.Common.{subst}
use Rattle.squall_report.specs.Told.{TellsBoth, told_by_report}
use Rattle.squall_board.specs.Boards.{BoardValue, told}
use Rattle.squall_board.specs.TakesLaws.{takes_one}
use Rattle.squall_headline.specs.Ways.{packed}
use Rattle.squall_test_nodes.proofs.router.ways.by_merge.Goals as goal

pub returns : goal.returns
returns c =
    let first = subst (λ (b : BoardValue). TellsBoth (told c.take-2.new.self) (told b) (told_by_report c.args.first.now)) c.new-board.ensures.empty c.in_ok-take-2.ensures.takes.tells in
    let taken = takes_one _ _ c.take.new.self c.args.second.now [] c.in_ok-take.ensures.takes c.new-other.ensures.taken in
    (packed c.take.new.self (c.args.second.now ∷ []), refl, (c.take-2.new.self, first, (c.merge.new.self, (taken, c.in_ok-merge.ensures.takes.tells), refl)))
