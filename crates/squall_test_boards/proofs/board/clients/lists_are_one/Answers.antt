use Rattle.std.proofs.Common.{◌∙◌, sym}
use Rattle.squall_test_boards.proofs.board.clients.lists_are_one.Goals as goal

pub returns : goal.returns
returns c cs ds x y = c.one_list_of_cells.ensures cs x ∙ sym (c.one_list_of_cells.ensures ds y)
