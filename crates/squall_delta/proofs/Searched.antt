-- What a binary search finds in a list by rising keys.
use Rattle.std.specs.Prelude.{◌≡◌, ◌≢◌, ℕ, zero, suc, ◌<◌, ◌+◌, ◌==◌, Bool, true, false, ◌||◌, ◌&&◌, if◌then◌else◌, nat_lt, length, List, [], ◌∷◌, refl}
use Rattle.std.proofs.Common.{sym, ap, subst, ◌∙◌, arith, get_or, inl, inr, Less, Equal, Greater}
use Rattle.std.proofs.lemmas.Bool.{true≢false, cases_lt}
use Rattle.std.proofs.lemmas.Bool.Decides.{nat_tests}
use Rattle.std.proofs.lemmas.Cmp.{alike_right}
use Rattle.std.proofs.lemmas.List.Sorted.{searchable_from_sorted}
use Rattle.std.specs.List.{list_any, AllByRecursion}
use Rattle.std.specs.List.Sorted.{IsSortedBy, IsPartitionPoint, IsNonDecreasingBy}
use Rattle.std.specs.declared.cmp.Ordering.{Ordering}
use Rattle.std.specs.Ordering.{nat_cmp, is_eq, is_lt, ordering_then, ordering_index, ordering_reverse}
use Rattle.std.specs.Cmp.{IsTotalOrder, nat_cmp_total, on_total, then_total}
use Rattle.squall_board.specs.declared.opening.Opening.{Opening}
use Rattle.squall_board.specs.ListedLaws.{all_weaker, any_none, cmp_eq}
use Rattle.squall_wire.specs.declared.digest.IssueRow.{IssueRow}
use Rattle.squall_wire.specs.declared.digest.DigestRow.{DigestRow}
use Rattle.squall_wire.specs.DigestValue.{DigestValue}
use Rattle.squall_wire.specs.Limits.{AreInTurn, FitsOpening, after_opening, FitsIssueRow, after_issue_row, FitsRow, after_row}
use Rattle.squall_delta.specs.Repairs.{count_in, is_same_hash, shows_issue, shows_row}
use Rattle.squall_delta.proofs.Rows.{all_get}

all_of : {X : Type 0} (P : X → Type 0) (xs : List X) → ((k : ℕ) (d : X) → k < length xs → P (get_or xs k d)) → AllByRecursion P xs
all_of P [] f = tt
all_of P (x ∷ xs) f = (f 0 x (omega arith), all_of P xs (λ k d lt. f (suc k) d (omega (arith, lt))))

not_equal : (r : Ordering) → r ≢ Equal → is_eq r ≡ false
not_equal Less n = refl
not_equal Equal n = absurd (n refl)
not_equal Greater n = refl

or_false : (a : Bool) → (a || false) ≡ a
or_false true = refl
or_false false = refl

module _ {X K : Type 0} (R : K → K → Ordering) (o : IsTotalOrder R) (key : X → K) where
  -- each key is less than those after it
  abbrev pub KeysLess : List X → Type 0
  KeysLess [] = Unit {0}
  KeysLess (x ∷ xs) = AllByRecursion (λ y. R (key x) (key y) ≡ Less) xs × KeysLess xs

  pub turn_less : (Fits : K → X → Type 0) → ((s : K) (x : X) → Fits s x → R s (key x) ≡ Less) → (s : K) (xs : List X) → AreInTurn Fits (λ _ x. key x) s xs → AllByRecursion (λ x. R s (key x) ≡ Less) xs × KeysLess xs
  turn_less Fits step s [] t = (tt, tt)
  turn_less Fits step s (x ∷ xs) t =
      let rest = turn_less Fits step (key x) xs t.1 in
      ((step s x t.0, all_weaker (λ y. R (key x) (key y) ≡ Less) (λ y. R s (key y) ≡ Less) xs rest.0 (λ y h. o.trans s (key x) (key y) (step s x t.0) h)), (rest.0, rest.1))

  next_less : (xs : List X) → KeysLess xs → (k : ℕ) (d : X) → suc k < length xs → R (key (get_or xs k d)) (key (get_or xs (suc k) d)) ≡ Less
  next_less [] h k d lt = absurd (omega (arith, lt))
  next_less (x ∷ xs) h zero d lt = all_get (λ y. R (key x) (key y) ≡ Less) xs 0 d (omega (arith, lt)) h.0
  next_less (x ∷ xs) h (suc k) d lt = next_less xs h.1 k d (omega (arith, lt))

  keys_sorted : (xs : List X) → KeysLess xs → IsSortedBy (λ a b. is_lt (R (key a) (key b))) xs
  keys_sorted xs h k d a b =
      let e : k + 1 ≡ suc k = omega arith in
      subst (λ n. is_lt (R (key (get_or xs n d)) (key (get_or xs k d))) ≡ false) (sym e)
      (ap is_lt (o.antisymm (key (get_or xs (suc k) d)) (key (get_or xs k d)) ∙ ap ordering_reverse (next_less xs h k d (omega (arith, b)))))

  module _ (q : K) (xs : List X) (less : KeysLess xs) where
    -- if the search gives a gap, no key is the one
    pub absent : (i : ℕ) → (IsNonDecreasingBy (λ y. ordering_index (R (key y) q)) xs → IsPartitionPoint (λ y. R (key y) q ≡ Less) (λ y. R (key y) q ≡ Greater) xs i) → AllByRecursion (λ x. is_eq (R (key x) q) ≡ false) xs
    absent i f = let p = f (searchable_from_sorted o key xs q (keys_sorted xs less)) in
        all_of (λ x. is_eq (R (key x) q) ≡ false) xs (λ k d lt. elim (cases_lt k i) [
          | inl below ↦ ap is_eq (p.0 k d (omega arith) below)
          | inr above ↦ ap is_eq (p.1 k d above lt)
        ])

  later : (q : K) (x : X) (xs : List X) → R (key x) q ≡ Equal → AllByRecursion (λ y. R (key x) (key y) ≡ Less) xs → AllByRecursion (λ y. is_eq (R (key y) q) ≡ false) xs
  later q x xs e h = all_weaker (λ y. R (key x) (key y) ≡ Less) (λ y. is_eq (R (key y) q) ≡ false) xs h
      (λ y l. ap is_eq (o.antisymm (key y) q ∙ ap ordering_reverse (sym (o.congr (key x) q (key y) e) ∙ l)))

  earlier : (q : K) (x y : X) → R (key x) (key y) ≡ Less → R (key y) q ≡ Equal → is_eq (R (key x) q) ≡ false
  earlier q x y l e = ap is_eq (sym (alike_right o (key y) q (key x) e) ∙ l)

  module _ (q : K) (g h : X → Bool) (is : (x : X) → g x ≡ (is_eq (R (key x) q) && h x)) where
    pub any_absent : (xs : List X) → AllByRecursion (λ x. is_eq (R (key x) q) ≡ false) xs → list_any g xs ≡ false
    any_absent xs a = any_none g xs (all_weaker (λ x. is_eq (R (key x) q) ≡ false) (λ x. g x ≡ false) xs a (λ x n. is x ∙ ap (λ b. b && h x) n))

    pub any_found : (xs : List X) → KeysLess xs → (i : ℕ) (d : X) → i < length xs → R (key (get_or xs i d)) q ≡ Equal → list_any g xs ≡ h (get_or xs i d)
    any_found [] less i d lt e = absurd (omega (arith, lt))
    any_found (x ∷ xs) less zero d lt e =
        ap (λ b. b || list_any g xs) (is x ∙ ap (λ r. is_eq r && h x) e)
        ∙ ap (λ b. h x || b) (any_absent xs (later q x xs e less.0))
        ∙ or_false (h x)
    any_found (x ∷ xs) less (suc i) d lt e =
        ap (λ b. b || list_any g xs) (is x ∙ ap (λ b. b && h x) (earlier q x (get_or xs i d) (all_get (λ y. R (key x) (key y) ≡ Less) xs i d (omega (arith, lt)) less.0) e))
        ∙ any_found xs less.1 i d (omega (arith, lt)) e

-- ---- openings

lt_less : (a b : ℕ) → nat_lt a b ≡ true → nat_cmp a b ≡ Less
lt_less a b h = grind (arith, nat_tests)

eq_sym : (a b : ℕ) → (a == b) ≡ (b == a)
eq_sym a b = grind (arith, nat_tests)

same_test : (a b : ℕ) → is_eq (nat_cmp a b) ≡ (a == b)
same_test a b = cmp_eq a b ∙ eq_sym b a

abbrev pub OpeningsLess : List Opening → Type 0
OpeningsLess = KeysLess nat_cmp nat_cmp_total (λ (o : Opening). o.number)

pub openings_less : (os : List Opening) → AreInTurn FitsOpening after_opening 0 os → OpeningsLess os
openings_less os t = (turn_less nat_cmp nat_cmp_total (λ (o : Opening). o.number) FitsOpening (λ s o f. lt_less s o.number f.order) 0 os t).1

pub count_absent : (n : ℕ) (os : List Opening) → AllByRecursion (λ o. is_eq (nat_cmp o.number n) ≡ false) os → 0 ≡ count_in os n
count_absent n [] a = refl
count_absent n (o ∷ os) a = count_absent n os a.1 ∙ sym (ap (λ b. if b then o.count else count_in os n) (sym (same_test o.number n) ∙ a.0))

pub count_found : (n : ℕ) (os : List Opening) → OpeningsLess os → (i : ℕ) (d : Opening) → i < length os → nat_cmp (get_or os i d).number n ≡ Equal → (get_or os i d).count ≡ count_in os n
count_found n [] less i d lt e = absurd (omega (arith, lt))
count_found n (o ∷ os) less zero d lt e = sym (ap (λ b. if b then o.count else count_in os n) (sym (same_test o.number n) ∙ ap is_eq e))
count_found n (o ∷ os) less (suc i) d lt e =
    count_found n os less.1 i d (omega (arith, lt)) e
    ∙ sym (ap (λ b. if b then o.count else count_in os n) (sym (same_test o.number n) ∙ earlier nat_cmp nat_cmp_total (λ (o : Opening). o.number) n o (get_or os i d) (all_get (λ (y : Opening). nat_cmp o.number y.number ≡ Less) os i d (omega (arith, lt)) less.0) e))

-- ---- hashes of issues

abbrev pub IssueRowsLess : List IssueRow → Type 0
IssueRowsLess = KeysLess nat_cmp nat_cmp_total (λ (r : IssueRow). r.number)

pub issue_rows_less : (rs : List IssueRow) → AreInTurn FitsIssueRow after_issue_row 0 rs → IssueRowsLess rs
issue_rows_less rs t = (turn_less nat_cmp nat_cmp_total (λ (r : IssueRow). r.number) FitsIssueRow (λ s r f. lt_less s r.number f.order) 0 rs t).1

pub issue_test : (n : ℕ) (hash : List ℕ) (r : IssueRow) → ((r.number == n) && is_same_hash r.hash hash) ≡ (is_eq (nat_cmp r.number n) && is_same_hash r.hash hash)
issue_test n hash r = ap (λ b. b && is_same_hash r.hash hash) (sym (same_test r.number n))

pub no_issue_shown : (d : DigestValue) (rows : List IssueRow) (n : ℕ) (hash : List ℕ) → rows ≡ d.issue_rows → list_any (λ r. (r.number == n) && is_same_hash r.hash hash) rows ≡ false → false ≡ shows_issue d n hash
no_issue_shown d rows n hash is none = sym none ∙ ap (list_any (λ r. (r.number == n) && is_same_hash r.hash hash)) is

-- ---- hashes of rows

abbrev pub pair_cmp : ℕ × ℕ → ℕ × ℕ → Ordering
pair_cmp x y = ordering_then (nat_cmp x.0 y.0) (nat_cmp x.1 y.1)

pub pair_total : IsTotalOrder pair_cmp
pair_total = then_total (on_total (λ (p : ℕ × ℕ). p.0) nat_cmp_total) (on_total (λ (p : ℕ × ℕ). p.1) nat_cmp_total)

abbrev pub row_key : DigestRow → ℕ × ℕ
row_key r = (r.number, r.sub)

abbrev pub RowsLess : List DigestRow → Type 0
RowsLess = KeysLess pair_cmp pair_total row_key

row_less : (a b c d : ℕ) → (nat_lt a c || ((a == c) && nat_lt b d)) ≡ true → ordering_then (nat_cmp a c) (nat_cmp b d) ≡ Less
row_less a b c d h = elim (nat_lt a c) as (λ t. nat_lt a c ≡ t → (t || ((a == c) && nat_lt b d)) ≡ true → ordering_then (nat_cmp a c) (nat_cmp b d) ≡ Less) [
  | true ↦ λ t k. ap (λ r. ordering_then r (nat_cmp b d)) (lt_less a c t)
  | false ↦ λ t k. ap (λ r. ordering_then r (nat_cmp b d)) (level a c (front (a == c) (nat_lt b d) k)) ∙ lt_less b d (back (a == c) (nat_lt b d) k)
] refl h
  where
    front : (s t : Bool) → (s && t) ≡ true → s ≡ true
    front true t e = refl
    front false t e = e

    back : (s t : Bool) → (s && t) ≡ true → t ≡ true
    back true t e = e
    back false t e = absurd (true≢false (sym e))

    level : (a c : ℕ) → (a == c) ≡ true → nat_cmp a c ≡ Equal
    level a c e = grind (arith, nat_tests)

pub rows_less : (rs : List DigestRow) → AreInTurn FitsRow after_row (0, 0) rs → RowsLess rs
rows_less rs t = (turn_less pair_cmp pair_total row_key FitsRow (λ s r f. row_less s.0 s.1 r.number r.sub f.order) (0, 0) rs t).1

both_levels : (r s : Ordering) (z : Bool) → (is_eq (ordering_then r s) && z) ≡ (is_eq r && (is_eq s && z))
both_levels Less s z = refl
both_levels Equal s z = refl
both_levels Greater s z = refl

pub row_test : (n s : ℕ) (hash : List ℕ) (r : DigestRow) → ((r.number == n) && ((r.sub == s) && is_same_hash r.hash hash)) ≡ (is_eq (pair_cmp (row_key r) (n, s)) && is_same_hash r.hash hash)
row_test n s hash r =
    ap (λ b. b && ((r.sub == s) && is_same_hash r.hash hash)) (sym (same_test r.number n))
    ∙ ap (λ b. is_eq (nat_cmp r.number n) && (b && is_same_hash r.hash hash)) (sym (same_test r.sub s))
    ∙ sym (both_levels (nat_cmp r.number n) (nat_cmp r.sub s) (is_same_hash r.hash hash))

pub no_row_shown : (d : DigestValue) (rows : List DigestRow) (n s : ℕ) (hash : List ℕ) → rows ≡ d.rows → list_any (λ r. (r.number == n) && ((r.sub == s) && is_same_hash r.hash hash)) rows ≡ false → false ≡ shows_row d n s hash
no_row_shown d rows n s hash is none = sym none ∙ ap (list_any (λ r. (r.number == n) && ((r.sub == s) && is_same_hash r.hash hash))) is
