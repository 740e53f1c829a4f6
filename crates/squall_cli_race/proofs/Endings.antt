-- How what a race shows ends.
use Rattle.std.proofs.Common.{◌≡◌, ◌≢◌, ◌⊎◌, inl, inr, ◌∙◌, ℕ, List, [], ◌∷◌, ◌++◌, Some, Result, Ok, Err, refl, sym, subst, arith}
use Rattle.std.specs.Prelude.{codes}
use Rattle.std.specs.Fmt.{decimal}
use Rattle.squall_key.specs.Keys.{text_of_key}
use Rattle.squall_course.specs.Change.{Change}
use Rattle.squall_board.specs.Boards.{BoardValue, says}
use Rattle.squall_board.specs.Route.{route}
use Rattle.squall_cli_lines.specs.Lines.{lines_of}
use Rattle.squall_cli_lines.specs.declared.Ended.TheVariants.{Fine, Refused}
use Rattle.squall_cli_words.specs.declared.reason.Reason.{Reason}
use Rattle.squall_cli_words.specs.declared.reason.Reason.TheVariants.{Order}
use Rattle.squall_cli_words.specs.Reasons.{text_of_reason, bad_line}
use Rattle.squall_cli_words.specs.BoardText.{board_text}
use Rattle.squall_cli_words.specs.Endings.{last_line, EndsInBadLine, EndsInNoBadLine, EndsInRefusal, EndsInNoRefusal}
use Rattle.squall_cli_words.proofs.LineTexts.{decimal_no_lf, key_no_lf, Spells, spells_lf, spells_glued, differs_at, Lacks, lacks_line, lacks_append, lacks_each, last_is, last_lacks}
use Rattle.squall_cli_words.proofs.BadLines.{bad_line_ends}
use Rattle.squall_cli_words.proofs.Boards.{board_lacks, board_lacks_refusal}
use Rattle.squall_cli_race.specs.RaceFiles.{Plans, NoPlan, OldPlan, BothPlans, RaceState, at_start, at_next_line, after_lines}
use Rattle.squall_cli_race.specs.RaceText.{board_of_lists, first_course, route_line, route_lines, text_of_race, IsRefusal, RefusesLine, EndsIn, ShowsFile, MayShow}

-- ---- routes

-- the line of a route without its LF
abbrev unended : Change → BoardValue → ℕ → List ℕ
unended course b k = codes "route " ++ (text_of_key k ++ (codes " " ++ (decimal (route course (says b) k) ++ [])))

route_spells : (course : Change) (b : BoardValue) (k : ℕ) → Spells (route_line course b k) (unended course b k ∷ [])
route_spells course b k =
    let part = route course (says b) k in
    spells_glued (codes "route ") (text_of_key k ++ (codes " " ++ (decimal part ++ codes "\n"))) (text_of_key k ++ (codes " " ++ (decimal part ++ []))) [] refl
    (spells_glued (text_of_key k) (codes " " ++ (decimal part ++ codes "\n")) (codes " " ++ (decimal part ++ [])) [] (key_no_lf k)
    (spells_glued (codes " ") (decimal part ++ codes "\n") (decimal part ++ []) [] refl
    (spells_glued (decimal part) (codes "\n") [] [] (decimal_no_lf part) spells_lf)))

route_lacks_bad : (course : Change) (b : BoardValue) (k : ℕ) → Lacks (codes "bad line ") (route_line course b k)
route_lacks_bad course b k =
    lacks_line (codes "bad line ") (route_line course b k) (unended course b k) (route_spells course b k) (λ rest. differs_at 0 (unended course b k) (codes "bad line " ++ rest) (λ e. omega (arith, e)))

route_lacks_refusal : (course : Change) (b : BoardValue) (k : ℕ) → Lacks (codes "refused ") (route_line course b k)
route_lacks_refusal course b k =
    lacks_line (codes "refused ") (route_line course b k) (unended course b k) (route_spells course b k) (λ rest. differs_at 1 (unended course b k) (codes "refused " ++ rest) (λ e. omega (arith, e)))

-- ---- a race that is fine

race_lacks_bad : (course : Change) (b : BoardValue) (ks : List ℕ) → Lacks (codes "bad line ") (text_of_race course b ks)
race_lacks_bad course b ks = lacks_append (codes "bad line ") (board_text b) (route_lines course b ks) (board_lacks b) (lacks_each (codes "bad line ") (route_line course b) (route_lacks_bad course b) ks)

race_lacks_refusal : (course : Change) (b : BoardValue) (ks : List ℕ) → Lacks (codes "refused ") (text_of_race course b ks)
race_lacks_refusal course b ks = lacks_append (codes "refused ") (board_text b) (route_lines course b ks) (board_lacks_refusal b) (lacks_each (codes "refused ") (route_line course b) (route_lacks_refusal course b) ks)

fine_refuses_no_line : (P : List ℕ → Type 0) (n : ℕ) (reason : Reason) (shown : List ℕ) → RefusesLine n reason Fine shown → P shown
fine_refuses_no_line P n reason shown h = absurd (not_refused h.0)
  where
    not_refused : Fine ≡ Refused → ⊥
    not_refused e = cc

fine_ends_in : (P : List ℕ → Type 0) → ((course : Change) (b : BoardValue) (ks : List ℕ) → P (text_of_race course b ks)) → (s : RaceState) (plans : Plans) (shown : List ℕ) → EndsIn s plans Fine shown → P shown
fine_ends_in P each s NoPlan shown h = fine_refuses_no_line P (at_next_line s).line Order shown h
fine_ends_in P each s (OldPlan old) shown h = fine_refuses_no_line P (at_next_line s).line Order shown h
fine_ends_in P each s (BothPlans old new) shown h = subst P (sym h) (each (first_course old new) (board_of_lists s.lists) s.keys)

fine_shows : (P : List ℕ → Type 0) → ((course : Change) (b : BoardValue) (ks : List ℕ) → P (text_of_race course b ks)) → (file : Result RaceState (ℕ × Reason)) (shown : List ℕ) → ShowsFile file Fine shown → P shown
fine_shows P each (Ok s) shown h = fine_ends_in P each s s.plans shown h
fine_shows P each (Err bad) shown h = fine_refuses_no_line P bad.0 bad.1 shown h

pub good_race : (text shown : List ℕ) → MayShow text Fine shown → EndsInNoBadLine shown
good_race text shown h n reason =
    fine_shows (λ w. last_line w ≢ Some (bad_line n reason)) (λ course b ks. last_lacks (codes "bad line ") (text_of_race course b ks) (race_lacks_bad course b ks) (decimal n ++ (codes ": " ++ text_of_reason reason)))
    (after_lines at_start (lines_of text)) shown h

pub fine_race : (text shown : List ℕ) → MayShow text Fine shown → EndsInNoRefusal shown
fine_race text shown h rest =
    fine_shows (λ w. last_line w ≢ Some (codes "refused " ++ rest)) (λ course b ks. last_lacks (codes "refused ") (text_of_race course b ks) (race_lacks_refusal course b ks) rest)
    (after_lines at_start (lines_of text)) shown h

-- ---- a race that is refused

line_refused : (n : ℕ) (reason : Reason) (shown : List ℕ) → RefusesLine n reason Refused shown → EndsInBadLine shown ⊎ EndsInRefusal shown
line_refused n reason shown h = inl (subst EndsInBadLine (sym h.1) (bad_line_ends n reason))

race_refused : (shown : List ℕ) → IsRefusal shown → EndsInRefusal shown
race_refused shown (inl e) = subst EndsInRefusal (sym e) (codes "NoPlace", last_is (codes "refused NoPlace\n") [] (codes "refused NoPlace") (λ tail. refl))
race_refused shown (inr e) = subst EndsInRefusal (sym e) (codes "NoThread", last_is (codes "refused NoThread\n") [] (codes "refused NoThread") (λ tail. refl))

refused_ends_in : (s : RaceState) (plans : Plans) (shown : List ℕ) → EndsIn s plans Refused shown → EndsInBadLine shown ⊎ EndsInRefusal shown
refused_ends_in s NoPlan shown h = line_refused (at_next_line s).line Order shown h
refused_ends_in s (OldPlan old) shown h = line_refused (at_next_line s).line Order shown h
refused_ends_in s (BothPlans old new) shown h = inr (race_refused shown h)

refused_shows : (file : Result RaceState (ℕ × Reason)) (shown : List ℕ) → ShowsFile file Refused shown → EndsInBadLine shown ⊎ EndsInRefusal shown
refused_shows (Ok s) shown h = refused_ends_in s s.plans shown h
refused_shows (Err bad) shown h = line_refused bad.0 bad.1 shown h

pub refused_race : (text shown : List ℕ) → MayShow text Refused shown → EndsInBadLine shown ⊎ EndsInRefusal shown
refused_race text shown h = refused_shows (after_lines at_start (lines_of text)) shown h

-- ---- one text

one_ends_in : (s : RaceState) (plans : Plans) (shown other : List ℕ) → EndsIn s plans Fine shown → EndsIn s plans Fine other → shown ≡ other
one_ends_in s NoPlan shown other h i = fine_refuses_no_line (λ w. shown ≡ other) (at_next_line s).line Order shown h
one_ends_in s (OldPlan old) shown other h i = fine_refuses_no_line (λ w. shown ≡ other) (at_next_line s).line Order shown h
one_ends_in s (BothPlans old new) shown other h i = h ∙ sym i

one_shows : (file : Result RaceState (ℕ × Reason)) (shown other : List ℕ) → ShowsFile file Fine shown → ShowsFile file Fine other → shown ≡ other
one_shows (Ok s) shown other h i = one_ends_in s s.plans shown other h i
one_shows (Err bad) shown other h i = fine_refuses_no_line (λ w. shown ≡ other) bad.0 bad.1 shown h

pub one_text : (text shown other : List ℕ) → MayShow text Fine shown → MayShow text Fine other → shown ≡ other
one_text text shown other h i = one_shows (after_lines at_start (lines_of text)) shown other h i
