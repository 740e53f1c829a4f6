use Rattle.std.specs.Prelude.{◌≡◌, IsTrue, ◌↔◌, []}
use Rattle.std.proofs.Common.{refl, subst}
use Rattle.squall_board.specs.Boards.{Issues}
use Rattle.squall_board.proofs.Lists.{has_some}
use Rattle.squall_board.proofs.board.Board.has_issues.Goals as goal

pub returns-clause-some : goal.returns-clause-some
returns-clause-some c = has_some c.is_bottom.result c.args.self.now c.args.self.now refl c.known.ensures.board (subst (λ (es : Issues). IsTrue c.is_bottom.result ↔ (es ≡ [])) c.issue_map.ensures c.is_bottom.ensures)
