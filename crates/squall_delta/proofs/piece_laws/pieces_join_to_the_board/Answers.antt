use Rattle.squall_wire.specs.Limits.{body_limit}
use Rattle.squall_delta.specs.PieceLaws.{cut_join}
use Rattle.squall_delta.proofs.piece_laws.pieces_join_to_the_board.Goals as goal

pub returns : goal.returns
returns c = λ ps are. cut_join body_limit c.args.board.now ps c.known.ensures.board are
