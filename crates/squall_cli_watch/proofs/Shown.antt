-- What was shown in all.
use Rattle.std.proofs.Common.{◌≡◌, ◌⊎◌, inl, inr, ℕ, List, [], ◌++◌, Bool, true, false, Option, Result, Err, sym, ◌∙◌, subst, refl}
use Rattle.std.proofs.lemmas.List.Elements.{All-nil}
use Rattle.std.specs.Prelude.{codes}
use Rattle.std.specs.Io.KnownBytes.{Consumes}
use Rattle.squall_course.specs.Change.{Change}
use Rattle.squall_board.specs.Boards.{BoardValue}
use Rattle.squall_cli_device.specs.States.{SinkState, OutputFails, NoWriteFails}
use Rattle.squall_cli_lines.specs.declared.RunFault.{RunFault}
use Rattle.squall_cli_lines.specs.declared.RunFault.TheVariants.{NoMemory}
use Rattle.squall_cli_command.specs.declared.stream.WatchAsk.{WatchAsk}
use Rattle.squall_cli_watch.specs.declared.ending.WatchEnd.{WatchEnd}
use Rattle.squall_cli_watch.specs.Bars.{later_bars}
use Rattle.squall_cli_watch.specs.BarLines.{LineValue, IsDrawn, Ends}
use Rattle.squall_cli_watch.proofs.BarLines.{drawn_said, drawn_ended}
use Rattle.squall_cli_watch.specs.Drawn.{IsNewestBar, Draws, ShowsBars}
use Rattle.squall_cli_watch.specs.Drawing.{IsStarted, DrawsAfter, DrawsOn}

-- an allocation failed before the first bar
pub nothing_shown : (terminal : Bool) (how : WatchAsk) (first : Change) (b : BoardValue) (before after : Option (List ℕ)) (err : SinkState) → ShowsBars terminal how first b (Err NoMemory) before after err err
nothing_shown true how first b before after err = inr (refl, refl)
nothing_shown false how first b before after err = refl

module _ (how : WatchAsk) (first : Change) (b : BoardValue) (result : Result WatchEnd RunFault) (before after : Option (List ℕ)) (a e e' : SinkState) (shown : List ℕ) (is : IsNewestBar first b shown) where
  failed_later : NoWriteFails a e → (rest : List ℕ) → (rest ≡ []) ⊎ ((result ≡ Err NoMemory) ⊎ OutputFails e e') → (rest ≡ []) ⊎ ((result ≡ Err NoMemory) ⊎ OutputFails a e')
  failed_later same rest (inl none) = inl none
  failed_later same rest (inr (inl memory)) = inr (inl memory)
  failed_later same rest (inr (inr fails)) = inr (inr (rw (sym same.0, sym same.1) fails))

  -- a first bar was drawn, and then others were
  shown_on : IsDrawn true a e shown → DrawsAfter how first b shown result before after e e' → Draws how first b result before after a e'
  shown_on d w = record {
    shown = shown;
    blocks = w.blocks;
    rest = w.rest;
    bars = w.bars;
    start = is;
    read = w.read;
    small = w.small;
    drawn = w.drawn;
    said = drawn_said a e e' shown (later_bars w.bars ++ codes "\n") d w.said;
    whole = failed_later d.1 w.rest w.whole;
  }

  -- the first bar was drawn in part
  shown_in_part : (read : List ℕ) → Consumes before after read → IsDrawn false a e shown → e' ≡ e → Draws how first b result before after a e'
  shown_in_part read gave d same = record {
    shown = shown;
    blocks = [];
    rest = read;
    bars = [];
    start = is;
    read = gave;
    small = All-nil _;
    drawn = refl;
    said = drawn_ended false a e e' shown d same;
    whole = inr (inr (subst (OutputFails a) (sym same) d.3));
  }

-- what was shown in all, after the line was ended
pub shown_in_all : (terminal : Bool) (how : WatchAsk) (first : Change) (b : BoardValue) (result : Result WatchEnd RunFault) (before after : Option (List ℕ)) (a e f last : SinkState) (line line' : LineValue) (read : List ℕ)
    → IsStarted terminal (IsNewestBar first b) line a e → (line.on ≡ false → (line'.on ≡ false) × (f ≡ e)) → (line.on ≡ true → DrawsOn how first b line.shown result before after e f line'.on)
    → Ends line'.on f last → Consumes before after read → ShowsBars terminal how first b result before after a last
shown_in_all false how first b result before after a e f last line line' read start off on ends gave =
    let quiet = off start.0 in
    subst (λ t. Ends t f last) quiet.0 ends ∙ quiet.1 ∙ start.1
shown_in_all true how first b result before after a e f last line line' read start off on ends gave = inl (by_line line.on refl)
  where
    by_line : (t : Bool) → line.on ≡ t → Draws how first b result before after a last
    by_line true is = shown_on how first b result before after a e last line.shown start.0 (subst (λ t. IsDrawn t a e line.shown) is start.1) (on is last ends)
    by_line false is =
        let quiet = off is in
        shown_in_part how first b result before after a e last line.shown start.0 read gave (subst (λ t. IsDrawn t a e line.shown) is start.1) (subst (λ t. Ends t f last) quiet.0 ends ∙ quiet.1)
