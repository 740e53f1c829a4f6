-- All reports of the lists, each brought by a letter, in whatever order the letters were taken.
use Rattle.std.proofs.Common.{◌≡◌, ⊎_elim, ℕ, suc, zero, Bool, true, false, cond, eqb, eq-eqb, ◌||◌, List, [], ◌∷◌, ◌++◌, None, refl, sym, ap, ◌∙◌, subst, arith}
use Rattle.std.proofs.lemmas.List.{map-append}
use Rattle.std.proofs.lemmas.List.Elements.{Contains-append_cases, Contains-append_left, Contains-append_right}
use Rattle.std.specs.List.{AllByRecursion, Contains}
use Rattle.squall_report.specs.Facts.{report_says, reports_say}
use Rattle.squall_report.specs.Told.{report_issues, reports_issue, both_issued, TellsBoth, told_by, told_by_report}
use Rattle.squall_report.specs.ToldLaws.{in_either, issued_assoc, issued_neutral}
use Rattle.squall_board.specs.Boards.{BoardValue, IsBoard, board_join, report_board, says, issued, told, HasTaken}
use Rattle.squall_board.specs.BoardLaws.{join_is, or_false, joined_tells, report_tells, has_both}
use Rattle.squall_cluster_inbox.specs.declared.letter.Parcel.{Parcel}
use Rattle.squall_cluster_inbox.specs.Letters.{AreLetters, letters_of, list_at, board_after}
use Rattle.squall_cluster_inbox.specs.Inbox.{of}
use Rattle.squall_cluster.specs.Race.{Reports, boards_of, all_of, Ran}
use Rattle.squall_cluster.proofs.Joined.{any_order}

stands_first : (x : BoardValue) (xs : List BoardValue) → Contains (x ∷ xs) x
stands_first x xs = (0, omega arith, refl)

stands_later : (y : BoardValue) (xs : List BoardValue) (x : BoardValue) → Contains xs x → Contains (y ∷ xs) x
stands_later y xs x h = (suc h.0, let lt = h.1 in omega arith, h.2)

stands_nowhere : (x : BoardValue) → Contains [] x → ⊥
stands_nowhere x h = let lt = h.1 in absurd (omega arith)

all_in : (P : BoardValue → Type 0) (xs : List BoardValue) → AllByRecursion P xs → (x : BoardValue) → Contains xs x → P x
all_in P [] h x i = absurd (stands_nowhere x i)
all_in P (y ∷ ys) h x i = ⊎_elim (λ e. subst P (sym e) h.0) (λ t. all_in P ys h.1 x t) (in_either y ys x i)

-- any letters that are boards
are_letters : (xs : List BoardValue) → ((x : BoardValue) → Contains xs x → IsBoard x) → AreLetters None xs
are_letters [] h = tt
are_letters (x ∷ xs) h = ((h x (stands_first x xs), tt), are_letters xs (λ y i. h y (stands_later x xs y i)))

-- ---- letters and reports

boards_append : (rs qs : Reports) → boards_of (rs ++ qs) ≡ boards_of rs ++ boards_of qs
boards_append rs qs = map-append report_board rs qs

are_append : (xs ys : List BoardValue) → AllByRecursion IsBoard xs → AllByRecursion IsBoard ys → AllByRecursion IsBoard (xs ++ ys)
are_append [] ys h g = g
are_append (x ∷ xs) ys h g = (h.0, are_append xs ys h.1 g)

-- all are boards if those of each list are
are_all : (lists : List Reports) → ((p : ℕ) → AllByRecursion IsBoard (boards_of (list_at p lists))) → AllByRecursion IsBoard (boards_of (all_of lists))
are_all [] h = tt
are_all (l ∷ ls) h = subst (AllByRecursion IsBoard) (sym (boards_append l (all_of ls))) (are_append (boards_of l) (boards_of (all_of ls)) (h 0) (are_all ls (λ p. h (suc p))))

-- what is in one list is in all
in_all : (x : BoardValue) (p : ℕ) (lists : List Reports) → Contains (boards_of (list_at p lists)) x → Contains (boards_of (all_of lists)) x
in_all x p [] i = absurd (stands_nowhere x i)
in_all x zero (l ∷ ls) i = subst (λ l. Contains l x) (sym (boards_append l (all_of ls))) (Contains-append_left (boards_of l) (boards_of (all_of ls)) x i)
in_all x (suc p) (l ∷ ls) i = subst (λ l. Contains l x) (sym (boards_append l (all_of ls))) (Contains-append_right (boards_of l) (boards_of (all_of ls)) x (in_all x p ls i))

-- what is in all is in one of them
in_one : (x : BoardValue) (lists : List Reports) → Contains (boards_of (all_of lists)) x → (p : ℕ) × Contains (boards_of (list_at p lists)) x
in_one x [] i = absurd (stands_nowhere x i)
in_one x (l ∷ ls) i = ⊎_elim (λ a. (0, a)) (λ b. let t = in_one x ls b in (suc t.0, t.1)) (Contains-append_cases (boards_of l) (boards_of (all_of ls)) x (subst (λ l. Contains l x) (boards_append l (all_of ls)) i))

-- one parcel more in front
more : (x : BoardValue) (p : ℕ) (m : Parcel) (ms : List Parcel) → Contains (of p ms) x → Contains (of p (m ∷ ms)) x
more x p m ms h = elim (eqb m.from p) as (λ b. Contains (cond b (m.letter ∷ of p ms) (of p ms)) x) [
  | true ↦ stands_later m.letter (of p ms) x h
  | false ↦ h
]

here : (x : BoardValue) (m : Parcel) (ms : List Parcel) → x ≡ m.letter → Contains (of m.from (m ∷ ms)) x
here x m ms h = subst (λ b. Contains (cond b (m.letter ∷ of m.from ms) (of m.from ms)) x) (sym (eq-eqb m.from m.from refl)) (subst (λ z. Contains (m.letter ∷ of m.from ms) z) (sym h) (stands_first m.letter (of m.from ms)))

-- what was taken was sent by one of them
sent : (x : BoardValue) (ms : List Parcel) → Contains (letters_of ms) x → (p : ℕ) × Contains (of p ms) x
sent x [] h = absurd (stands_nowhere x h)
sent x (m ∷ ms) h = ⊎_elim (λ a. (m.from, here x m ms a)) (λ b. let t = sent x ms b in (t.0, more x t.0 m ms t.1)) (in_either m.letter (letters_of ms) x h)

split : (x : BoardValue) (p : ℕ) (m : Parcel) (ms : List Parcel) (b : Bool) → (Contains (of p ms) x → Contains (letters_of ms) x) → Contains (cond b (m.letter ∷ of p ms) (of p ms)) x → Contains (letters_of (m ∷ ms)) x
split x p m ms true old h = ⊎_elim (λ a. subst (λ z. Contains (m.letter ∷ letters_of ms) z) (sym a) (stands_first m.letter (letters_of ms))) (λ b. stands_later m.letter (letters_of ms) x (old b)) (in_either m.letter (of p ms) x h)
split x p m ms false old h = stands_later m.letter (letters_of ms) x (old h)

-- what one sent was taken
got : (x : BoardValue) (p : ℕ) (ms : List Parcel) → Contains (of p ms) x → Contains (letters_of ms) x
got x p [] h = absurd (stands_nowhere x h)
got x p (m ∷ ms) h = split x p m ms (eqb m.from p) (got x p ms) h

-- ---- what a race gives

are_lists : (opening : BoardValue) (lists : List Reports) (board : BoardValue) → Ran opening lists board → AllByRecursion IsBoard (boards_of (all_of lists))
are_lists opening lists board ran = are_all lists (λ p. subst (AllByRecursion IsBoard) (ran.2 p).0 (ran.2 p).1)

-- the board is that after all reports, in the order of the lists
pub all_joined : (opening : BoardValue) (lists : List Reports) (board : BoardValue) → IsBoard opening → Ran opening lists board → board ≡ board_after opening (boards_of (all_of lists))
all_joined opening lists board h ran =
    let taken : List Parcel = ran.0 in
    let xs : List BoardValue = letters_of taken in
    let ys : List BoardValue = boards_of (all_of lists) in
    let every : AllByRecursion IsBoard ys = are_lists opening lists board ran in
    let there : (x : BoardValue) → Contains xs x → Contains ys x = λ x i. let t = sent x taken i in in_all x t.0 lists (subst (λ l. Contains l x) (ran.2 t.0).0 t.1) in
    let back : (x : BoardValue) → Contains ys x → Contains xs x = λ x i. let t = in_one x lists i in got x t.0 taken (subst (λ l. Contains l x) (sym (ran.2 t.0).0) t.1) in
    ran.1 ∙ any_order None opening xs ys h (are_letters xs (λ x i. all_in IsBoard ys every x (there x i))) (are_letters ys (all_in IsBoard ys every)) (λ x. (there x, back x))

or_assoc : (a b c : Bool) → ((a || b) || c) ≡ (a || (b || c))
or_assoc true b c = refl
or_assoc false b c = refl

after_tells : (b : BoardValue) (rs : Reports) → IsBoard b → AllByRecursion IsBoard (boards_of rs) → TellsBoth (told (board_after b (boards_of rs))) (told b) (told_by rs)
after_tells b [] h all = record {
  facts = λ f. sym (or_false (says b f));
  issues = λ n. sym (issued_neutral (issued b n));
}
after_tells b (r ∷ rs) h all =
    let one : TellsBoth (told (board_join b (report_board r))) (told b) (told_by_report r) = joined_tells b (report_board r) (told_by_report r) h all.0 (report_tells r) in
    let rest : TellsBoth (told (board_after (board_join b (report_board r)) (boards_of rs))) (told (board_join b (report_board r))) (told_by rs) = after_tells (board_join b (report_board r)) rs (join_is b (report_board r) h all.0) all.1 in record {
      facts = λ f. rest.facts f ∙ ap (λ x. x || reports_say rs f) (one.facts f) ∙ or_assoc (says b f) (report_says r f) (reports_say rs f);
      issues = λ n. rest.issues n ∙ ap (λ x. both_issued x (reports_issue rs n)) (one.issues n) ∙ issued_assoc (issued b n) (report_issues r n) (reports_issue rs n);
    }

-- it tells what the opening board and all reports tell
pub all_told : (opening : BoardValue) (lists : List Reports) (board : BoardValue) → IsBoard opening → Ran opening lists board → TellsBoth (told board) (told opening) (told_by (all_of lists))
all_told opening lists board h ran = subst (λ b. TellsBoth (told b) (told opening) (told_by (all_of lists))) (sym (all_joined opening lists board h ran)) (after_tells opening (all_of lists) h (are_lists opening lists board ran))

-- what it has taken: what the opening board has, and all reports
pub all_taken : (opening : BoardValue) (lists : List Reports) (board : BoardValue) → IsBoard opening → Ran opening lists board → (rs : Reports) → HasTaken opening rs → HasTaken board (rs ++ all_of lists)
all_taken opening lists board h ran rs taken = has_both (told board) (told opening) (told_by (all_of lists)) rs (all_of lists) (all_told opening lists board h ran) taken (record { facts = λ f. refl; issues = λ n. refl })
