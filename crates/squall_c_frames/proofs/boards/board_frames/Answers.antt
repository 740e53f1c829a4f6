use Rattle.std.specs.Prelude.{◌≡◌, ℕ, List}
use Rattle.std.proofs.Common.{sym, ap, subst, ◌∙◌}
use Rattle.std.specs.List.{AllByRecursion}
use Rattle.squall_board.specs.Boards.{BoardValue}
use Rattle.squall_c_frames.specs.BoardFrames.{frames_of, HasAtMost}
use Rattle.squall_c_frames.proofs.PieceFrames.{frames_short}
use Rattle.squall_c_frames.proofs.boards.board_frames.Goals as goal

pub returns : goal.returns
returns c =
    let pieces : List BoardValue = c.in_ok-pieces.pieces.items in
    let are : c.in_ok-frames_of.field-0 ≡ frames_of pieces = c.in_ok-frames_of.ensures ∙ ap frames_of c.deref.ensures.value in
    record {
      pieces = pieces;
      cut = c.in_ok-pieces.ensures.pieces;
      are = are;
      short = subst (λ (fs : List (List ℕ)). AllByRecursion (HasAtMost c.args.limit) fs) (sym are) (frames_short c.args.limit pieces c.in_ok-pieces.ensures.fit);
      each = c.in_ok-pieces.ensures.each;
    }
