-- What a board has that a digest does not show (this project).
use Rattle.std.specs.Prelude.{◌≡◌, ◌≢◌, ℕ, Bool, ◌==◌, ◌&&◌, nat_lt, List, [], ◌∷◌, Option, None, Some, false, if◌then◌else◌}
use Rattle.std.specs.List.{list_any}
use Rattle.std.specs.Cmp.Lexicographic.{pointwise}
use Rattle.squall_join.specs.declared.flat.Flat.{Flat}
use Rattle.squall_join.specs.declared.flat.Flat.TheVariants.{Unknown}
use Rattle.squall_report.specs.Issues.{PlanPair}
use Rattle.squall_report.specs.Cells.{CellPlace}
use Rattle.squall_board.specs.declared.opening.Opening.{Opening}
use Rattle.squall_board.specs.Boards.{Parts, BoardValue, opened_count, issued, cell_of}
use Rattle.squall_wire.specs.DigestValue.{DigestValue}
use Rattle.squall_delta.specs.Hashes.{row_hash, issue_hash, row_in}

-- the count that a list of openings gives a number, 0 if it gives none
abbrev pub count_in : List Opening → ℕ → ℕ
count_in [] number = 0
count_in (o ∷ os) number = if o.number == number then o.count else count_in os number

-- the two hashes are one
abbrev pub is_same_hash : List ℕ → List ℕ → Bool
is_same_hash = pointwise ◌==◌

-- the digest shows that hash of what is issued under the number
abbrev pub shows_issue : DigestValue → ℕ → List ℕ → Bool
shows_issue d number hash = list_any (λ r. (r.number == number) && is_same_hash r.hash hash) d.issue_rows

-- the digest shows that hash of the row of the number and sub-plan
abbrev pub shows_row : DigestValue → ℕ → ℕ → List ℕ → Bool
shows_row d number sub hash = list_any (λ r. (r.number == number) && ((r.sub == sub) && is_same_hash r.hash hash)) d.rows

-- something is issued under the number, with that hash
abbrev pub issue_is_hashed : ℕ → List ℕ → Option (Flat PlanPair) → Bool
issue_is_hashed n h None = false
issue_is_hashed n h (Some v) = is_same_hash (issue_hash n v) h

-- there is a row of the number and sub-plan, with that hash
abbrev pub row_is_hashed : ℕ → ℕ → List ℕ → Option Parts → Bool
row_is_hashed n s h None = false
row_is_hashed n s h (Some parts) = is_same_hash (row_hash n s parts) h

-- what the board b has that the digest d does not show: each opening with a count above the digest's. Also each whole issue and
-- row whose hash the digest lacks
pub record IsRepair (b : BoardValue) (d : DigestValue) (r : BoardValue) : Type 0 where
  pub opened : (n : ℕ) → opened_count r n ≡ (if nat_lt (count_in d.openings n) (opened_count b n) then opened_count b n else 0)
  pub issues : (n : ℕ) → issued r n ≡ (if shows_issue d n (issue_hash n (issued b n)) then Unknown else issued b n)
  pub cells : (c : CellPlace) → cell_of r c ≡ (if shows_row d c.number c.sub (row_hash c.number c.sub (row_in b c.number c.sub)) then None else cell_of b c)

-- no two different rows of the two boards of one number and sub-plan have one hash, and no two different issues under
-- one number
pub record NoCollisions (a b : BoardValue) : Type 0 where
  pub rows : (n s : ℕ) → row_in a n s ≢ [] → row_in b n s ≢ [] → row_hash n s (row_in a n s) ≡ row_hash n s (row_in b n s) → row_in a n s ≡ row_in b n s
  pub issues : (n : ℕ) → issued a n ≢ Unknown → issued b n ≢ Unknown → issue_hash n (issued a n) ≡ issue_hash n (issued b n) → issued a n ≡ issued b n
