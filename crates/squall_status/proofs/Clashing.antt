-- A list of issues has a clash exactly if what it issues under some number is a clash.
use Rattle.std.specs.Prelude.{◌≡◌, ℕ, ◌<◌, ◌==◌, nat_lt, Bool, true, false, ◌||◌, ◌&&◌, List, [], ◌∷◌, if◌then◌else◌, refl}
use Rattle.std.specs.List.{AllByRecursion}
use Rattle.std.proofs.Common.{sym, ap, subst, ◌∙◌, arith, inl, inr}
use Rattle.std.proofs.lemmas.Bool.{cases_Bool, false≢true}
use Rattle.std.proofs.lemmas.Bool.Decides.{nat_tests}
use Rattle.squall_join.specs.declared.flat.Flat.{Flat}
use Rattle.squall_join.specs.declared.flat.Flat.TheVariants.{Unknown, One, Clash}
use Rattle.squall_report.specs.Issues.{PlanPair}
use Rattle.squall_report.specs.Told.{both_issued}
use Rattle.squall_board.specs.Boards.{BoardValue, issued, one_issue}
use Rattle.squall_board.specs.Listed.{AreIssues, IssuesRise, entries_issue}
use Rattle.squall_status.specs.Tallies.{is_clash, clash_above, has_clash_above, HasClashAbove}

is_below : (a b : ℕ) → nat_lt a b ≡ true → a < b
is_below a b h = grind (arith, nat_tests)

below_is : (a b : ℕ) → a < b → nat_lt a b ≡ true
below_is a b h = grind (arith, nat_tests)

same_number : (a b : ℕ) → (a == b) ≡ true → a ≡ b
same_number a b h = grind (arith, nat_tests)

itself : (a : ℕ) → (a == a) ≡ true
itself a = grind (arith, nat_tests)

other_number : (a b : ℕ) → a < b → (b == a) ≡ false
other_number a b h = grind (arith, nat_tests)

both_true : (a b : Bool) → (a && b) ≡ true → (a ≡ true) × (b ≡ true)
both_true true b h = (refl, h)
both_true false b h = absurd (false≢true h)

the_clash : (f : Flat PlanPair) → is_clash f ≡ true → f ≡ Clash
the_clash Unknown h = absurd (false≢true h)
the_clash (One p) h = absurd (false≢true h)
the_clash Clash h = refl

-- a clash stays one, whatever is joined to it
with_clash : (f : Flat PlanPair) → both_issued f Clash ≡ Clash
with_clash Unknown = refl
with_clash (One p) = refl
with_clash Clash = refl

with_none : (f : Flat PlanPair) → both_issued f Unknown ≡ f
with_none Unknown = refl
with_none (One p) = refl
with_none Clash = refl

one_under : (n : ℕ) (f : Flat PlanPair) → one_issue n f n ≡ f
one_under n f = ap (λ b. if b then f else Unknown) (itself n)

pub found : (low : ℕ) (es : List (ℕ × Flat PlanPair)) → has_clash_above low es ≡ true → HasClashAbove (entries_issue es) low
found low [] h = absurd (false≢true h)
found low (e ∷ es) h = elim (cases_Bool (clash_above low e)) [
  | inl is ↦ (let parts = both_true (nat_lt low e.0) (is_clash e.1) is in
      (e.0, is_below low e.0 parts.0, ap (λ f. both_issued f (entries_issue es e.0)) (one_under e.0 e.1 ∙ the_clash e.1 parts.1)))
  | inr isnt ↦ (let rest = found low es (sym (ap (λ b. b || has_clash_above low es) isnt) ∙ h) in
      (rest.0, rest.1, ap (both_issued (one_issue e.0 e.1 rest.0)) rest.2 ∙ with_clash (one_issue e.0 e.1 rest.0)))
]

-- nothing is issued under a number below all of a list
none_later : (n : ℕ) (es : List (ℕ × Flat PlanPair)) → AllByRecursion (λ d. n < d.0) es → entries_issue es n ≡ Unknown
none_later n [] all = refl
none_later n (e ∷ es) all = ap (λ b. both_issued (if b then e.1 else Unknown) (entries_issue es n)) (other_number n e.0 all.0) ∙ none_later n es all.1

no_clash : (f g : Flat PlanPair) → f ≡ Unknown → g ≡ Clash → f ≡ g → ⊥
no_clash f g none clash e = let bad : 0 ≡ 1 = sym (ap code none) ∙ ap code e ∙ ap code clash in omega (arith, bad)
  where
    code : Flat PlanPair → ℕ
    code Unknown = 0
    code (One p) = 2
    code Clash = 1

pub finds : (low : ℕ) (es : List (ℕ × Flat PlanPair)) → IssuesRise es → HasClashAbove (entries_issue es) low → has_clash_above low es ≡ true
finds low [] rise has = absurd (no_clash (entries_issue [] has.0) Clash refl refl has.2)
finds low (e ∷ es) rise has = elim (cases_Bool (e.0 == has.0)) [
  | inl same ↦ (let n = same_number e.0 has.0 same in
      let clash : e.1 ≡ Clash =
      sym (ap (λ f. both_issued f (entries_issue es e.0)) (one_under e.0 e.1) ∙ ap (both_issued e.1) (none_later e.0 es rise.0) ∙ with_none e.1)
      ∙ ap (entries_issue (e ∷ es)) n ∙ has.2 in
      ap (λ b. b || has_clash_above low es)
      (ap (λ b. b && is_clash e.1) (below_is low e.0 (subst (λ m. low < m) (sym n) has.1)) ∙ ap is_clash clash))
  | inr other ↦ (let rest = finds low es rise.1 (has.0, has.1, sym (ap (λ b. both_issued (if b then e.1 else Unknown) (entries_issue es has.0)) other) ∙ has.2) in
      ap (λ b. clash_above low e || b) rest ∙ or_true (clash_above low e))
]
  where
    or_true : (b : Bool) → (b || true) ≡ true
    or_true true = refl
    or_true false = refl

-- the same of a board
pub board_found : (b : BoardValue) (low : ℕ) (es : List (ℕ × Flat PlanPair)) → AreIssues b es → has_clash_above low es ≡ true → HasClashAbove (issued b) low
board_found b low es are h = let it = found low es h in (it.0, it.1, are.issued it.0 ∙ it.2)

pub board_finds : (b : BoardValue) (low : ℕ) (es : List (ℕ × Flat PlanPair)) → AreIssues b es → HasClashAbove (issued b) low → has_clash_above low es ≡ true
board_finds b low es are has = finds low es are.rise (has.0, has.1, sym (are.issued has.0) ∙ has.2)
