-- Parts of what a board tells.
use Rattle.std.proofs.Common.{◌≡◌, ◌⊎◌, ℕ, ◌<◌, ◌≤◌, Bool, true, false, cond, refl, sym, ap, subst, ◌∙◌, inl, inr, ⊎_elim, arith}
use Rattle.std.specs.Prelude.{◌||◌, nat_lt}
use Rattle.std.proofs.lemmas.Bool.{cases_lt, true≢false}
use Rattle.std.proofs.lemmas.Bool.Decides.{nat_tests}
use Rattle.squall_join.specs.declared.flat.Flat.{Flat}
use Rattle.squall_join.specs.declared.flat.Flat.TheVariants.{Unknown, One, Clash}
use Rattle.squall_report.specs.Issues.{PlanPair, is_same_pair}
use Rattle.squall_report.specs.IssueLaws.{same_pairs_are_equal}
use Rattle.squall_report.specs.Facts.{Fact, LoadedKey, DonePart, OpenedSub}
use Rattle.squall_report.specs.Told.{TellsBoth, TellsAll, both_issued}
use Rattle.squall_report.specs.Queries.{Queries}
use Rattle.squall_board.specs.Boards.{BoardValue, IsBoard, board_join, told, says, issued, opened_count}
use Rattle.squall_board.specs.BoardLaws.{board_laws, same_board, tells_both, opened_found}
use Rattle.squall_board.specs.BoardQueries.{queries_of}
use Rattle.squall_protocol.specs.Worlds.{WorldValue, WasBegun, pair_at}
use Rattle.squall_protocol.specs.Steps.{IsPartOf}
use Rattle.squall_protocol.specs.Promises.{Happened}

-- nothing is issued, or one pair of plans
abbrev pub AtMostOne : Flat PlanPair → Type 0
AtMostOne x = (x ≡ Unknown) ⊎ ((p : PlanPair) × (x ≡ One p))

-- what did happen does not clash
pub told_one : (w : WorldValue) (f : Queries) (n : ℕ) → Happened w f → AtMostOne (f.issued n)
told_one w f n happened = ⊎_elim (λ (none : f.issued n ≡ Unknown). inl none) (λ (one : WasBegun w n × (f.issued n ≡ One (pair_at w n))). inr (pair_at w n, one.1)) (happened.issued n)

abbrev is_one : Flat PlanPair → Bool
is_one Unknown = false
is_one (One p) = true
is_one Clash = false

no_clash : (p : PlanPair) → Clash ≡ One p → ⊥
no_clash p e = true≢false (sym (ap is_one e))

-- to join y changes nothing of x: then y issues nothing, or what x issues
issued_part : (x y : Flat PlanPair) → AtMostOne x → both_issued x y ≡ x → (y ≡ Unknown) ⊎ (y ≡ x)
issued_part x y (inl none) e = inl (ap (λ v. both_issued v y) (sym none) ∙ e ∙ none)
issued_part x y (inr (p, one)) e = subst (λ v. (y ≡ Unknown) ⊎ (y ≡ v)) (sym one) (by y (subst (λ v. both_issued v y ≡ v) one e))
  where
    at_test : (q : PlanPair) (t : Bool) → is_same_pair p q ≡ t → cond t (One p) Clash ≡ One p → One q ≡ One p
    at_test q true t e = ap One (sym (same_pairs_are_equal.same p q tt tt t))
    at_test q false t e = absurd (no_clash p e)

    by : (z : Flat PlanPair) → both_issued (One p) z ≡ One p → (z ≡ Unknown) ⊎ (z ≡ One p)
    by Unknown e = inl refl
    by (One q) e = inr (at_test q (is_same_pair p q) refl e)
    by Clash e = absurd (no_clash p e)

-- and the other way round
part_issued : (x y : Flat PlanPair) → (y ≡ Unknown) ⊎ (y ≡ x) → both_issued x y ≡ x
part_issued x y (inl none) = ap (both_issued x) none ∙ by x
  where
    by : (z : Flat PlanPair) → both_issued z Unknown ≡ z
    by Unknown = refl
    by (One p) = refl
    by Clash = refl
part_issued x y (inr same) = ap (both_issued x) same ∙ by x
  where
    by : (z : Flat PlanPair) → both_issued z z ≡ z
    by Unknown = refl
    by (One p) = ap (λ t. cond t (One p) Clash) (same_pairs_are_equal.itself p tt)
    by Clash = refl

-- ---- counts of opened sub-plans

below_is : (m n : ℕ) → m < n → nat_lt m n ≡ true
below_is m n lt = grind (arith, nat_tests)

is_below : (m n : ℕ) → nat_lt m n ≡ true → m < n
is_below m n e = grind (arith, nat_tests)

-- ---- boards

-- what a board tells that one without clashes covers is a part of what that one tells
pub part_of : (b said : BoardValue) → ((n : ℕ) → AtMostOne (issued b n)) → TellsAll (told b) (told said) → IsPartOf (queries_of said) (queries_of b)
part_of b said one all = record {
  loaded = λ c k h. all.facts (LoadedKey c k) h;
  done = λ c h. all.facts (DonePart c) h;
  opened = opened;
  issued = λ n. issued_part (issued b n) (issued said n) (one n) (all.issues n);
}
  where
    opened : (n : ℕ) → opened_count said n ≤ opened_count b n
    opened n = ⊎_elim
        (λ (less : opened_count b n < opened_count said n).
        let h : says b (OpenedSub n (opened_count b n)) ≡ true = all.facts (OpenedSub n (opened_count b n)) (opened_found said n (opened_count b n) ∙ below_is (opened_count b n) (opened_count said n) less) in
        let bad : opened_count b n < opened_count b n = is_below (opened_count b n) (opened_count b n) (sym (opened_found b n (opened_count b n)) ∙ h) in
        absurd (omega (arith, bad)))
        (λ (le : opened_count said n ≤ opened_count b n). le)
        (cases_lt (opened_count b n) (opened_count said n))

-- a board covers each part of what it tells
pub tells_part : (b said : BoardValue) → IsPartOf (queries_of said) (queries_of b) → TellsAll (told b) (told said)
tells_part b said part = record { facts = at; issues = λ n. part_issued (issued b n) (issued said n) (part.issued n) }
  where
    at : (f : Fact) → says said f ≡ true → says b f ≡ true
    at (LoadedKey c k) h = part.loaded c k h
    at (DonePart c) h = part.done c h
    at (OpenedSub n s) h =
        let lt : s < opened_count said n = is_below s (opened_count said n) (sym (opened_found said n s) ∙ h) in
        let le : opened_count said n ≤ opened_count b n = part.opened n in
        opened_found b n s ∙ below_is s (opened_count b n) (omega (arith, lt, le))

or_same : (a b : Bool) → (b ≡ true → a ≡ true) → (a || b) ≡ a
or_same true b f = refl
or_same false true f = sym (f refl)
or_same false false f = refl

-- a board that covers another one is their join
pub all_covered : (x y : BoardValue) → IsBoard x → IsBoard y → TellsAll (told x) (told y) → board_join x y ≡ x
all_covered x y a b t = same_board (board_join x y) x (board_laws.closed x y a.nested b.nested) a.nested (record {
  facts = λ f. both.facts f ∙ or_same (says x f) (says y f) (t.facts f);
  issues = λ n. both.issues n ∙ t.issues n;
})
  where
    both : TellsBoth (told (board_join x y)) (told x) (told y)
    both = tells_both x y a.nested b.nested
