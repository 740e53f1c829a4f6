use Rattle.std.proofs.Common.{◌≡◌, ◌++◌, take, drop}
use Rattle.std.specs.List.{AllByRecursion}
use Rattle.squall_cli_boards.specs.Answers.{HasFrame, spell_boards}
use Rattle.squall_cli_boards.proofs.frames.frames_of.Given as goal

-- the frames so far, and those of the pieces that are left
abbrev pub invariant-loop-piece : goal.invariant-loop-piece
invariant-loop-piece l = record {
  frames : l.bytes.items ++ spell_boards (drop l.piece-index l.pieces) ≡ spell_boards l.pieces;
  messages : AllByRecursion HasFrame (take l.piece-index l.pieces);
}
