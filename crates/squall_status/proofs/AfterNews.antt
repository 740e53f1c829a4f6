-- What news change of a status.
use Rattle.std.proofs.Common.{◌≡◌, ℕ, ◌<◌, Bool, false, List, [], ◌∷◌, ◌++◌, map, length, refl, sym, ap, subst, ◌∙◌}
use Rattle.std.specs.Prelude.{◌||◌, All, None, Some}
use Rattle.std.specs.List.{AllByRecursion, count_by, range_with_len}
use Rattle.std.proofs.Math.Bool.{or-false}
use Rattle.std.proofs.lemmas.Bool.{or_parts}
use Rattle.std.proofs.lemmas.List.Elements.{All-from_recursion, recursion_from_All}
use Rattle.std.specs.Ordering.{nat_cmp}
use Rattle.std.specs.FinMap.Entries.{find}
use Rattle.squall_span.specs.Spans.{Interval}
use Rattle.squall_course.specs.declared.moving.Move.{Move}
use Rattle.squall_course.specs.Change.{Change, ArePlans}
use Rattle.squall_course.specs.Subplans.{subplan_count}
use Rattle.squall_course.specs.Moves.{moves_of, receivers_of, IsMove}
use Rattle.squall_course.proofs.Counted.{moves_counted}
use Rattle.squall_report.specs.Cells.{CellPlace, place_at}
use Rattle.squall_report.specs.Facts.{Fact, LoadedKey, DonePart, OpenedSub}
use Rattle.squall_board.specs.Boards.{BoardValue, says, cells_in, found_in}
use Rattle.squall_board.specs.BoardLaws.{done_found}
use Rattle.squall_board.specs.MovesRoute.{cell_to, has_come_to}
use Rattle.squall_status.specs.declared.progress.Progress.{Progress}
use Rattle.squall_status.specs.declared.progress.MoveStatus.{MoveStatus}
use Rattle.squall_status.specs.declared.subplan.SubplanStatus.{SubplanStatus}
use Rattle.squall_status.specs.Coming.{IsProgress}
use Rattle.squall_status.specs.News.{IsSaidWith, Renews, RenewsSubplan}
use Rattle.squall_status.specs.Summary.{IsMoveStatus, AreMoveStatuses, is_done, subplan_status, subplan_statuses}
use Rattle.squall_status.proofs.Moved.{all_moving, meaning, progress_at_cell}
use Rattle.squall_status.proofs.Progressed.{same_progress}

-- ---- facts

-- what the news don't say is said as before
as_before : (before news told : Fact → Bool) (f : Fact) → IsSaidWith before news told → news f ≡ false → told f ≡ before f
as_before before news told f said none = said f ∙ ap (λ b. before f || b) none ∙ or-false (before f)

-- ---- moves

-- if the news have nothing of the cell, the progress is as before
pub untouched : (news told : Fact → Bool) (cell : CellPlace) (span : Interval) (p : Progress) → ((k : ℕ) → has_come_to news cell k ≡ false) → Renews news told cell span p p
untouched news told cell span p none = λ before said is. same_progress span (has_come_to before cell) (has_come_to told cell) p (λ k has. sym (same before said k)) is
  where
    same : (before : Fact → Bool) → IsSaidWith before news told → (k : ℕ) → has_come_to told cell k ≡ has_come_to before cell k
    same before said k =
        let parts = or_parts (news (LoadedKey cell k)) (news (DonePart cell)) (none k) in
        let load : told (LoadedKey cell k) ≡ before (LoadedKey cell k) = as_before before news told (LoadedKey cell k) said parts.0 in
        let done : told (DonePart cell) ≡ before (DonePart cell) = as_before before news told (DonePart cell) said parts.1 in
        λ i. load i || done i

-- the status of a move after the news
pub status_after : (c : Change) (before news told : Fact → Bool) (s : MoveStatus) (p : Progress) → IsSaidWith before news told → IsMove c.old c.new s.moving → IsMoveStatus c before s
    → Renews news told (cell_to c.number s.moving) s.moving.span s.progress p → IsProgress s.moving.span (has_come_to told (cell_to c.number s.moving)) p
status_after c before news told s p said is was renews = renews before said (progress_at_cell c before s.moving s.progress is was)

module _ (c : Change) (told : Fact → Bool) (ss : List MoveStatus) (plans : ArePlans c.old c.new) (are : AreMoveStatuses c told ss) where
  all_are : (P : Move → Type 0) → AllByRecursion P (moves_of c.old c.new) → AllByRecursion (λ s. P s.moving) ss
  all_are P all = all_moving P ss (subst (AllByRecursion P) (sym are.moves) all)

  pub each_move : All (λ s. IsMove c.old c.new s.moving) ss
  each_move = All-from_recursion (λ s. IsMove c.old c.new s.moving) ss (all_moving (IsMove c.old c.new) ss (meaning c told ss plans are).each)

  pub each_sub : All (λ s. s.moving.sub < subplan_count c.old c.new) ss
  each_sub = All-from_recursion (λ s. s.moving.sub < subplan_count c.old c.new) ss
      (all_are (λ m. m.sub < subplan_count c.old c.new) (recursion_from_All (λ m. m.sub < subplan_count c.old c.new) (moves_of c.old c.new) (moves_counted c.old c.new plans)))

  pub each_status : All (IsMoveStatus c told) ss
  each_status = All-from_recursion (IsMoveStatus c told) ss are.each

-- ---- sub-plans

-- without a number, or without a sub-plan, there is no cell
pub no_number : (b : BoardValue) (n s p : ℕ) → None ≡ find nat_cmp n (cells_in b) → says b (DonePart (place_at n s p)) ≡ false
no_number b n s p e = sym (done_found b (place_at n s p) None (ap (λ o. found_in p (found_in s o)) e))

pub no_sub : (b : BoardValue) (n s p : ℕ) (subs : List (ℕ × List (ℕ × _))) → Some subs ≡ find nat_cmp n (cells_in b) → None ≡ find nat_cmp s subs → says b (DonePart (place_at n s p)) ≡ false
no_sub b n s p subs e none = sym (done_found b (place_at n s p) None (ap (found_in p) (none ∙ ap (found_in s) e)))

-- if the news have no completion in the sub-plan, as many are done as before
pub same_subplan : (c : Change) (news told : Fact → Bool) (s : SubplanStatus) (opened : Bool) → ((part : ℕ) → news (DonePart (place_at c.number s.sub part)) ≡ false)
    → opened ≡ told (OpenedSub c.number s.sub) → RenewsSubplan c news told s (record { sub = s.sub; receivers = s.receivers; done = s.done; opened = opened })
same_subplan c news told s opened none is = λ before said was.
    let receivers : s.receivers ≡ length (receivers_of (moves_of c.old c.new) s.sub) = ap (λ (t : SubplanStatus). t.receivers) was in
    let tests : (part : ℕ) → is_done before c.number s.sub part ≡ is_done told c.number s.sub part = λ part. sym (as_before before news told (DonePart (place_at c.number s.sub part)) said (none part)) in
    let done : s.done ≡ count_by (is_done told c.number s.sub) (receivers_of (moves_of c.old c.new) s.sub) =
    ap (λ (t : SubplanStatus). t.done) was ∙ (λ i. count_by (λ part. tests part i) (receivers_of (moves_of c.old c.new) s.sub)) in
    λ i. status_with s.sub (receivers i) (done i) (is i)
  where
    status_with : ℕ → ℕ → ℕ → Bool → SubplanStatus
    status_with sub receivers done opened = record { sub = sub; receivers = receivers; done = done; opened = opened }

-- of statuses before the news, each is that of its sub-plan
subplans_are : (c : Change) (before : Fact → Bool) (subs : List ℕ) → AllByRecursion (λ s. s ≡ subplan_status c before s.sub) (map (subplan_status c before) subs)
subplans_are c before [] = tt
subplans_are c before (sub ∷ subs) = (refl, subplans_are c before subs)

pub each_subplan : (c : Change) (before : Fact → Bool) (ss : List SubplanStatus) → ss ≡ subplan_statuses c before → All (λ s. s ≡ subplan_status c before s.sub) ss
each_subplan c before ss are = All-from_recursion (λ s. s ≡ subplan_status c before s.sub) ss
    (subst (AllByRecursion (λ s. s ≡ subplan_status c before s.sub)) (sym are) (subplans_are c before (range_with_len 0 (subplan_count c.old c.new))))

-- the statuses of their sub-plans after the news
abbrev pub after_news : Change → (Fact → Bool) → List SubplanStatus → List SubplanStatus
after_news c told ss = map (λ s. subplan_status c told s.sub) ss

twice : (c : Change) (before told : Fact → Bool) (subs : List ℕ) → after_news c told (map (subplan_status c before) subs) ≡ map (subplan_status c told) subs
twice c before told [] = refl
twice c before told (sub ∷ subs) = ap (λ ss. subplan_status c told sub ∷ ss) (twice c before told subs)

pub all_after : (c : Change) (before told : Fact → Bool) (ss : List SubplanStatus) → ss ≡ subplan_statuses c before → after_news c told ss ≡ subplan_statuses c told
all_after c before told ss are = ap (after_news c told) are ∙ twice c before told (range_with_len 0 (subplan_count c.old c.new))

pub after_more : (c : Change) (told : Fact → Bool) (ss : List SubplanStatus) (s : SubplanStatus) → after_news c told (ss ++ s ∷ []) ≡ after_news c told ss ++ subplan_status c told s.sub ∷ []
after_more c told [] s = refl
after_more c told (t ∷ ss) s = ap (λ ts. subplan_status c told t.sub ∷ ts) (after_more c told ss s)
