use Rattle.std.proofs.Common.{◌∙◌, sym}
use Rattle.squall_cli_boards.proofs.Heard.{nothing_joined}
use Rattle.squall_cli_boards.proofs.joining.merge_file.Goals as goal

pub returns : goal.returns
returns c = sym c.loop-rest.invariant ∙ nothing_joined c.loop-rest.board c.loop-rest.rest.now c.loop-rest-test.ensures
