-- The lists of a digest are those of the board.
use Rattle.std.specs.Prelude.{◌≡◌, ℕ, ◌<◌, ◌≤◌, length, map, List, [], ◌∷◌, refl}
use Rattle.std.proofs.Common.{sym, ap, subst, ◌∙◌, arith}
use Rattle.std.specs.List.{flat_map, AllByRecursion}
use Rattle.squall_join.specs.declared.flat.Flat.{Flat}
use Rattle.squall_report.specs.Issues.{PlanPair}
use Rattle.squall_board.specs.declared.opening.Opening.{Opening}
use Rattle.squall_board.specs.Boards.{Cells, BoardValue, cells_in, IsBoard}
use Rattle.squall_board.specs.Listed.{openings_of, issues_of}
use Rattle.squall_wire.specs.declared.digest.IssueRow.{IssueRow}
use Rattle.squall_wire.specs.declared.digest.DigestRow.{DigestRow}
use Rattle.squall_wire.specs.DigestValue.{digest_with, IsDigest}
use Rattle.squall_wire.specs.Fits.{IsWordOpening}
use Rattle.squall_wire.specs.Limits.{word_limit}
use Rattle.squall_delta.specs.Hashes.{row_of, issue_row_of, rows_of, digest_of}
use Rattle.squall_delta.specs.HashLaws.{digest_is}

map_twice : {X Y Z : Type 0} (f : Y → Z) (g : X → Y) (xs : List X) → map (λ x. f (g x)) xs ≡ map f (map g xs)
map_twice f g [] = refl
map_twice f g (x ∷ xs) = ap (λ v. f (g x) ∷ v) (map_twice f g xs)

pub all_unmap : {X Y : Type 0} (f : X → Y) (P : Y → Type 0) (xs : List X) → AllByRecursion P (map f xs) → AllByRecursion (λ x. P (f x)) xs
all_unmap f P [] h = tt
all_unmap f P (x ∷ xs) h = (h.0, all_unmap f P xs h.1)

-- three lists, made of the lists of a board
pub record AreMade {X : Type 0} (g : X → ℕ × Flat PlanPair) (b : BoardValue) (os : List Opening) (irs : List IssueRow) (rs : List DigestRow) (xs : List X) (ns : Cells) : Type 0 where
  pub openings : os ≡ openings_of b
  pub issue_rows : irs ≡ map (λ x. issue_row_of (g x)) xs
  pub issues : map g xs ≡ issues_of b
  pub rows : rs ≡ flat_map (λ e. map (row_of e.0) e.1) ns
  pub cells : ns ≡ cells_in b

module _ {X : Type 0} (g : X → ℕ × Flat PlanPair) (b : BoardValue) (os : List Opening) (irs : List IssueRow) (rs : List DigestRow) (xs : List X) (ns : Cells) (m : AreMade g b os irs rs xs ns) where
  issue_rows_are : irs ≡ map issue_row_of (issues_of b)
  issue_rows_are = m.issue_rows ∙ map_twice issue_row_of g xs ∙ ap (map issue_row_of) m.issues

  rows_are : rs ≡ rows_of b
  rows_are = m.rows ∙ ap (flat_map (λ e. map (row_of e.0) e.1)) m.cells

  -- they are the digest of the board
  pub digest_made : digest_with os irs rs ≡ digest_of b
  digest_made = λ i. digest_with (m.openings i) (issue_rows_are i) (rows_are i)

  -- and in order and within its limits
  pub digest_fits : IsBoard b → AllByRecursion IsWordOpening os → AllByRecursion (λ r. r.number < word_limit) irs → AllByRecursion (λ e. e.0 < word_limit) ns → length rs ≤ 4294967295 → IsDigest (digest_with os irs rs)
  digest_fits is words issues numbers few = subst IsDigest (sym digest_made) (digest_is b is
      (subst (AllByRecursion IsWordOpening) m.openings words)
      (all_unmap issue_row_of (λ r. r.number < word_limit) (issues_of b) (subst (AllByRecursion (λ r. r.number < word_limit)) issue_rows_are issues))
      (subst (AllByRecursion (λ e. e.0 < word_limit)) m.cells numbers)
      (subst (λ v. length v < word_limit) rows_are (omega arith)))
