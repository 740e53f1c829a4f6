use Rattle.std.proofs.Common.{◌≡◌, ◌++◌, drop}
use Rattle.squall_c_frames.specs.BoardFrames.{frames_of}
use Rattle.squall_c_frames.proofs.boards.frames_of.Given as goal

-- the frames so far, and those of the pieces to come
abbrev pub invariant-loop-piece : goal.invariant-loop-piece
invariant-loop-piece l = l.frames ++ frames_of (drop l.piece-index l.pieces) ≡ frames_of l.pieces
