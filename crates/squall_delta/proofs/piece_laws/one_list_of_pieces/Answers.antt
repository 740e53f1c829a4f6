use Rattle.squall_wire.specs.Limits.{body_limit}
use Rattle.squall_delta.specs.PieceLaws.{one_cut}
use Rattle.squall_delta.proofs.piece_laws.one_list_of_pieces.Goals as goal

pub returns : goal.returns
returns c = λ ps qs x y. one_cut body_limit c.args.board.now ps qs c.known.ensures.board x y
