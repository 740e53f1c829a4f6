-- The frames of pieces, one after another.
use Rattle.std.specs.Prelude.{◌≡◌, ℕ, ◌+◌, ◌<◌, length, List, [], ◌∷◌, ◌++◌}
use Rattle.std.proofs.Common.{sym, ap, ◌∙◌, get_or, drop, append_assoc}
use Rattle.std.proofs.lemmas.List.{drop_more}
use Rattle.std.specs.List.{AllByRecursion}
use Rattle.squall_board.specs.Boards.{BoardValue}
use Rattle.squall_wire.specs.declared.message.Message.TheVariants.{Delta}
use Rattle.squall_wire.specs.Messages.{spell}
use Rattle.squall_delta.specs.Pieces.{FitsWithin}
use Rattle.squall_c_frames.specs.BoardFrames.{frames_of, HasAtMost}

-- one frame more stands behind those before it, and its piece is no longer to come
pub frames_next : (old new : List (List ℕ)) (frame : List ℕ) (ps : List BoardValue) (i : ℕ) (p : BoardValue) → i < length ps → p ≡ get_or ps i p → new ≡ old ++ frame ∷ [] → frame ≡ spell (Delta p) → new ++ frames_of (drop (i + 1) ps) ≡ old ++ frames_of (drop i ps)
frames_next old new frame ps i p within is joined spelled =
    let at : drop i ps ≡ p ∷ drop (i + 1) ps = drop_more ps i p within ∙ ap (λ (y : BoardValue). y ∷ drop (i + 1) ps) (sym is) in
    let rest = frames_of (drop (i + 1) ps) in
    ap (λ (xs : List (List ℕ)). xs ++ rest) joined ∙ append_assoc old (frame ∷ []) rest ∙ ap (λ (f : List ℕ). old ++ f ∷ rest) spelled ∙ ap (λ (qs : List BoardValue). old ++ frames_of qs) (sym at)

-- the frames of pieces that fit within a limit are no longer
pub frames_short : (limit : ℕ) (ps : List BoardValue) → AllByRecursion (FitsWithin limit) ps → AllByRecursion (HasAtMost limit) (frames_of ps)
frames_short limit [] fit = tt
frames_short limit (p ∷ ps) fit = (fit.0.1, frames_short limit ps fit.1)
