use Rattle.squall_wire.specs.Limits.{body_limit}
use Rattle.squall_delta.specs.PieceLaws.{cut_fits}
use Rattle.squall_delta.proofs.piece_laws.pieces_fit_frames.Goals as goal

pub returns : goal.returns
returns c = cut_fits body_limit
