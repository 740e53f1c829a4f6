use Rattle.std.proofs.Common.{ap, ◌∙◌, sym, subst}
use Rattle.squall_board.specs.Boards.{Issues, issued}
use Rattle.squall_board.specs.Newest.{IsNewest, newest_in}
use Rattle.squall_board.specs.NewestLaws.{newest_is_greatest}
use Rattle.squall_board.proofs.board.Board.newest.Goals as goal

pub returns-clause-meaning : goal.returns-clause-meaning
returns-clause-meaning c =
    subst (IsNewest (issued c.args.self.now) c.args.first.now.number)
    (sym (c.newest_in.ensures ∙ ap (λ n. newest_in n c.entries.result.now) c.number.ensures.value ∙ ap (λ (es : Issues). newest_in c.args.first.now.number es) (c.entries.ensures.entries ∙ c.issue_map.ensures)))
    (newest_is_greatest c.args.self.now c.args.first.now.number c.known.ensures.board)
