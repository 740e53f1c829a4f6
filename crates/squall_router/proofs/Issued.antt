-- What is put into a board, one issue after another.
use Rattle.std.specs.Prelude.{◌≡◌, ℕ, ◌+◌, ◌<◌, ◌≤◌, length, map, List, [], ◌∷◌}
use Rattle.std.proofs.Common.{sym, ap, ◌∙◌, get_or, drop}
use Rattle.std.proofs.lemmas.List.{drop_more, drop_all}
use Rattle.std.specs.List.{AllByRecursion}
use Rattle.squall_join.specs.declared.flat.Flat.{Flat}
use Rattle.squall_report.specs.Issues.{PlanPair}
use Rattle.squall_report.specs.Told.{both_issued}
use Rattle.squall_report.specs.ToldLaws.{issued_assoc, issued_neutral}
use Rattle.squall_board.specs.Boards.{one_issue}
use Rattle.squall_board.specs.Listed.{entries_issue}

-- what holds of the images holds of the entries
pub all_of_images : {X Y : Type 0} (f : X → Y) (P : Y → Type 0) (xs : List X) → AllByRecursion P (map f xs) → AllByRecursion (λ x. P (f x)) xs
all_of_images f P [] h = tt
all_of_images f P (x ∷ xs) h = (h.0, all_of_images f P xs h.1)

-- one more issue joins those before it, and is no longer among those to come
pub next_joins : {X : Type 0} (f : X → ℕ × Flat PlanPair) (new old : ℕ → Flat PlanPair) (xs : List X) (i : ℕ) (x : X) → i < length xs → x ≡ get_or xs i x
    → ((n : ℕ) → new n ≡ both_issued (old n) (one_issue (f x).0 (f x).1 n))
    → (n : ℕ) → both_issued (new n) (entries_issue (map f (drop (i + 1) xs)) n) ≡ both_issued (old n) (entries_issue (map f (drop i xs)) n)
next_joins f new old xs i x within is joined n =
    let rest = entries_issue (map f (drop (i + 1) xs)) n in
    let at : drop i xs ≡ x ∷ drop (i + 1) xs = drop_more xs i x within ∙ ap (λ y. y ∷ drop (i + 1) xs) (sym is) in
    ap (λ z. both_issued z rest) (joined n) ∙ issued_assoc (old n) (one_issue (f x).0 (f x).1 n) rest ∙ ap (λ ys. both_issued (old n) (entries_issue (map f ys) n)) (sym at)

-- past the last nothing is to come
pub none_joins : {X : Type 0} (f : X → ℕ × Flat PlanPair) (new : Flat PlanPair) (xs : List X) (i n : ℕ) → length xs ≤ i → both_issued new (entries_issue (map f (drop i xs)) n) ≡ new
none_joins f new xs i n past = ap (λ ys. both_issued new (entries_issue (map f ys) n)) (drop_all i xs past) ∙ issued_neutral new
