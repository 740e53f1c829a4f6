use Rattle.std.proofs.Common.{◌∙◌}
use Rattle.squall_c_frames.proofs.PieceFrames.{frames_next}
use Rattle.squall_c_frames.proofs.boards.frames_of.Goals as goal

pub loop-piece-preserved : goal.loop-piece-preserved
loop-piece-preserved c =
    frames_next c.loop-piece.frames c.push.new.self c.in_ok-piece_frame.field-0.items c.args.pieces.now c.loop-piece.piece-index c.piece-item.result c.loop-piece-test.true c.piece-item.is c.in_ok-push.ensures.ok c.in_ok-piece_frame.ensures ∙ c.loop-piece.invariant
