use Rattle.std.proofs.Common.{refl, ◌∙◌}
use Rattle.squall_board.proofs.Lists.{openings_are}
use Rattle.squall_board.proofs.board.Board.openings.Goals as goal

pub returns-clause-listed : goal.returns-clause-listed
returns-clause-listed c = openings_are c.openings_of.result (λ os. os.items) c.entries.result.now c.args.self.now c.args.self.now c.known.ensures.board refl (c.entries.ensures.entries ∙ c.opening_map.ensures) c.openings_of.ensures
