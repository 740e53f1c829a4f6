use Rattle.std.proofs.Common.{map, refl, ◌∙◌}
use Rattle.std.specs.Arc.{arc_value}
use Rattle.squall_join.specs.Flats.{flat_map}
use Rattle.squall_board.proofs.Lists.{issues_are}
use Rattle.squall_board.proofs.board.Board.issues.Goals as goal

pub returns-clause-listed : goal.returns-clause-listed
returns-clause-listed c = issues_are c.owned_all.result (λ es. map (λ e. (e.0, flat_map arc_value e.1)) es.items) c.entries.result.now c.args.self.now c.args.self.now c.known.ensures.board refl (c.entries.ensures.entries ∙ c.issue_map.ensures) c.owned_all.ensures
