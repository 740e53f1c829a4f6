-- One frame that is taken.
use Rattle.std.proofs.Common.{◌≡◌, ◌≢◌, inl, inr, ℕ, List, [], ◌∷◌, Bool, true, false, ◌&&◌, Option, None, Some, Result, Ok, Err, refl, sym, subst, ap, ◌∙◌}
use Rattle.std.proofs.lemmas.Bool.{false≢true}
use Rattle.std.specs.Prelude.{if◌then◌else◌, string_bytes, IfOk, OnOk}
use Rattle.squall_course.specs.Change.{Change}
use Rattle.squall_board.specs.Boards.{BoardValue, board_join}
use Rattle.squall_status.specs.Summary.{StatusValue}
use Rattle.squall_wire.specs.declared.fault.WireFault.{WireFault}
use Rattle.squall_wire.specs.Messages.{BoardLists, Body, lists, rows}
use Rattle.squall_wire.specs.Heard.{heard_of}
use Rattle.squall_wire.specs.BoardOf.{board_of_lists}
use Rattle.squall_cli_command.specs.declared.stream.WatchAsk.{WatchAsk}
use Rattle.squall_cli_lines.specs.declared.RunFault.{RunFault}
use Rattle.squall_status.specs.Shares.{are_over}
use Rattle.squall_cli_boards.specs.Files.{fault_after}
use Rattle.squall_cli_watch.specs.declared.ending.WatchEnd.{WatchEnd}
use Rattle.squall_cli_watch.specs.declared.ending.WatchEnd.TheVariants.{Fine, Refused, Complete}
use Rattle.squall_cli_watch.specs.declared.ending.Next.{Next}
use Rattle.squall_cli_watch.specs.declared.ending.Next.TheVariants.{On, End}
use Rattle.squall_cli_watch.specs.declared.watcher.Watcher.{Watcher}
use Rattle.squall_cli_watch.specs.Changed.{change_in}
use Rattle.squall_cli_watch.specs.Scripts.{WatchScript, completion}
use Rattle.squall_cli_watch.specs.Watched.{AnswersFrames, IsNewestStatus, status_shown, ends_with, IsOutcome}
use Rattle.squall_cli_watch.specs.Drawn.{AreJoined}
use Rattle.squall_cli_watch.specs.Drawing.{JoinsFrame}
use Rattle.squall_cli_watch.specs.Taken.{next_with, StaysNewest, TakesFrame}

-- what is known of a result that is fine, clause by clause
pub if_fine : {T E : Type 0} (r : Result T E) (A B C F : Type 0) (D Q : T → Type 0) → OnOk r A → OnOk r B → OnOk r C → IfOk r D → OnOk r F → ((x : T) → A → B → C → D x → F → Q x) → IfOk r Q
if_fine (Ok x) A B C F D Q a b c d f g = g x a b c d f
if_fine (Err e) A B C F D Q a b c d f g = tt

-- what ended a watch, if nothing stopped it
abbrev end_of : Result WatchEnd RunFault → WatchEnd
end_of (Ok end) = end
end_of (Err fault) = Complete

pub not_fine : (end : WatchEnd) → end ≢ Fine → (result : Result WatchEnd RunFault) → result ≡ Ok end → result ≡ Ok Fine → ⊥
not_fine end other result is fine = other (sym (ap end_of is) ∙ ap end_of fine)

-- with a status that does not end the watch it goes on
pub going_on : (how : WatchAsk) (status : StatusValue) → ends_with how status ≡ false → On ≡ next_with how status
going_on how status goes = sym (ap (λ (t : Bool). if t then End Complete else On) goes)

-- what is known then: the status that was answered is the newest, or the watch has ended
shows : (t : Bool) (how : WatchAsk) (first : Change) (b : BoardValue) (w : Watcher) (status : StatusValue) → ends_with how status ≡ t → IsNewestStatus first b status
    → string_bytes w.shown ≡ status_shown how status → w.how ≡ how → w.first ≡ first → w.board ≡ b → StaysNewest (if t then End Complete else On) w
shows true how first b w status e is text same_how same_first board = λ fine. cc
shows false how first b w status e is text same_how same_first board = λ some. record {
  status = status;
  is = subst (λ f. IsNewestStatus f w.board status) (sym same_first) (subst (λ x. IsNewestStatus first x status) (sym board) is);
  shown = text ∙ ap (λ (h : WatchAsk). status_shown h status) (sym same_how);
  goes = ap (λ (h : WatchAsk). ends_with h status) same_how ∙ e;
}

pub stays : (w : Watcher) (how : WatchAsk) (first : Change) (b : BoardValue) (next : Next) → w.how ≡ how → w.first ≡ first → w.board ≡ b → (status : StatusValue) → IsNewestStatus first b status
    → string_bytes w.shown ≡ status_shown how status → next ≡ next_with how status → StaysNewest next w
stays w how first b next same_how same_first board status is text comes =
    subst (λ n. StaysNewest n w) (sym comes) (shows (ends_with how status) how first b w status refl is text same_how same_first board)

module _ (how : WatchAsk) (first : Change) (b : BoardValue) (d : BoardLists) (status : StatusValue) (is : IsNewestStatus first (board_join b (board_of_lists d)) status) where
  -- the frame is answered with this status, which may end the watch
  takes : (shown : List ℕ) (t : Bool) → ends_with how status ≡ t
      → TakesFrame (if t then End Complete else On) (change_in how.form shown (status_shown how status)) (AnswersFrames how first b shown)
      (AnswersFrames how first (board_join b (board_of_lists d)) (status_shown how status)) (lists d)
  takes shown true e = λ bodies fault. (status, completion, is, inl (e, refl), refl)
  takes shown false e = λ bodies fault s p. (status, s, is, inr (e, p), refl)

  joins : (t : Bool) → ends_with how status ≡ t
      → JoinsFrame (if t then End Complete else On) (AreJoined how first b) (AreJoined how first (board_join b (board_of_lists d))) (board_join b (board_of_lists d)) (lists d)
  joins true e = λ bodies. (status, is, inl (e, refl))
  joins false e = λ bodies b' p. (status, is, inr (e, p))

  -- with names of its own for what is known after it
  module _ (how' : WatchAsk) (first' : Change) (b' : BoardValue) (shown' : List ℕ) (next : Next) (same_how : how' ≡ how) (same_first : first' ≡ first)
      (board : b' ≡ board_join b (board_of_lists d)) (text : shown' ≡ status_shown how status) (comes : next ≡ next_with how status) where
    pub frame_taken : (shown : List ℕ) → TakesFrame next (change_in how.form shown shown') (AnswersFrames how first b shown) (AnswersFrames how' first' b' shown') (lists d)
    frame_taken shown =
        subst (λ n. TakesFrame n (change_in how.form shown shown') (AnswersFrames how first b shown) (AnswersFrames how' first' b' shown') (lists d)) (sym comes)
        (subst (λ h. TakesFrame (next_with how status) (change_in how.form shown shown') (AnswersFrames how first b shown) (AnswersFrames h first' b' shown') (lists d)) (sym same_how)
        (subst (λ f. TakesFrame (next_with how status) (change_in how.form shown shown') (AnswersFrames how first b shown) (AnswersFrames how f b' shown') (lists d)) (sym same_first)
        (subst (λ x. TakesFrame (next_with how status) (change_in how.form shown shown') (AnswersFrames how first b shown) (AnswersFrames how first x shown') (lists d)) (sym board)
        (subst (λ w. TakesFrame (next_with how status) (change_in how.form shown w) (AnswersFrames how first b shown) (AnswersFrames how first (board_join b (board_of_lists d)) w) (lists d)) (sym text)
        (takes shown (ends_with how status) refl)))))

    pub frame_joined : JoinsFrame next (AreJoined how first b) (AreJoined how' first' b') b' (lists d)
    frame_joined =
        subst (λ n. JoinsFrame n (AreJoined how first b) (AreJoined how' first' b') b' (lists d)) (sym comes)
        (subst (λ h. JoinsFrame (next_with how status) (AreJoined how first b) (AreJoined h first' b') b' (lists d)) (sym same_how)
        (subst (λ f. JoinsFrame (next_with how status) (AreJoined how first b) (AreJoined how f b') b' (lists d)) (sym same_first)
        (subst (λ x. JoinsFrame (next_with how status) (AreJoined how first b) (AreJoined how first x) x (lists d)) (sym board)
        (joins (ends_with how status) refl))))

-- ---- the end

-- if the watch is not to end with the course, it does not
pub never_complete : (how : WatchAsk) (first : Change) (b : BoardValue) (shown : List ℕ) (bodies : List Body) (fault : Option WireFault) (s : WatchScript) → how.is_until_complete ≡ false
    → AnswersFrames how first b shown bodies fault s → s.ended ≡ Complete → ⊥
never_complete how first b shown [] None s off p e = let no : Fine ≡ Complete = sym (ap (λ (w : WatchScript). w.ended) p) ∙ e in cc
never_complete how first b shown [] (Some f) s off p e = let no : Refused ≡ Complete = sym (ap (λ (w : WatchScript). w.ended) p) ∙ e in cc
never_complete how first b shown (rows d ∷ bodies) fault s off p e = let no : Refused ≡ Complete = sym (ap (λ (w : WatchScript). w.ended) p) ∙ e in cc
never_complete how first b shown (lists d ∷ bodies) fault s off p e = elim p.3 [
  | inl done ↦ absurd (false≢true (sym (ap (λ t. t && are_over p.0.moves) off) ∙ done.0))
  | inr goes ↦ never_complete how first (board_join b (board_of_lists d)) (status_shown how p.0) bodies fault p.1 off goes.1 (sym (ap (λ (w : WatchScript). w.ended) p.4) ∙ e)
]

module _ (how : WatchAsk) (first : Change) (b : BoardValue) (shown read written : List ℕ) (result : Result WatchEnd RunFault) (is : IsOutcome result (AnswersFrames how first b shown) read written)
    (done : result ≡ Ok Complete) where
  by_flag : (t : Bool) → how.is_until_complete ≡ t → how.is_until_complete ≡ true
  by_flag true e = e
  by_flag false e =
      let o = subst (λ r. IsOutcome r (AnswersFrames how first b shown) read written) done is in
      absurd (never_complete how first b shown (heard_of read).bodies (fault_after (heard_of read).fault (heard_of read).rest) o.0 e o.1 o.3)

  pub until_complete : how.is_until_complete ≡ true
  until_complete = by_flag how.is_until_complete refl
