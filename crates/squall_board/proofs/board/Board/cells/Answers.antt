use Rattle.std.proofs.Common.{ap, ◌++◌, ◌∙◌}
use Rattle.squall_board.specs.Boards.{cells_in}
use Rattle.squall_board.specs.Listed.{cells_of_numbers}
use Rattle.squall_board.proofs.Lists.{numbers_of, cells_are}
use Rattle.squall_board.proofs.board.Board.cells.Goals as goal

pub push_numbers-requires : goal.push_numbers-requires
push_numbers-requires c = numbers_of c.self.inside.parts c.entries.result.now c.self.invariant c.entries.ensures.entries

pub returns-clause-listed : goal.returns-clause-listed
returns-clause-listed c = cells_are c.args.self.now c.push_numbers.new.out.items c.known.ensures.board
    (c.in_ok-push_numbers.ensures
    ∙ ap (λ cs. cs ++ cells_of_numbers c.entries.result.now) c.new-cells.ensures.items
    ∙ ap cells_of_numbers (c.entries.ensures.entries ∙ ap cells_in c.self.view_is))
