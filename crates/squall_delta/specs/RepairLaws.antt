-- Laws of repairs.
use Rattle.std.specs.Prelude.{◌≡◌, ◌≢◌, ℕ, ◌<◌, ◌==◌, Bool, true, false, ◌||◌, ◌&&◌, cond, nat_lt, if◌then◌else◌, map, List, [], ◌∷◌, Option, None, Some, ◌⊎◌, refl}
use Rattle.std.proofs.Common.{sym, ap, ◌∙◌, arith, inl, inr, ⊎_elim, Decides}
use Rattle.std.proofs.Math.Bool.{or_comm, or_self}
use Rattle.std.proofs.lemmas.Bool.{true≢false}
use Rattle.std.proofs.lemmas.Bool.Decides.{nat_tests}
use Rattle.std.proofs.lemmas.List.Folds.{list_any-append}
use Rattle.std.specs.List.{flat_map, list_any}
use Rattle.std.specs.Cmp.Lexicographic.{pointwise_decides}
use Rattle.std.specs.Ordering.{nat_cmp}
use Rattle.std.specs.FinMap.Entries.{find}
use Rattle.squall_span.specs.Spans.{has}
use Rattle.squall_join.specs.declared.flat.Flat.{Flat}
use Rattle.squall_join.specs.declared.flat.Flat.TheVariants.{Unknown, One, Clash}
use Rattle.squall_join.specs.Entries.{IsMap, IsKept}
use Rattle.squall_join.specs.MapLaws.{Found, find_All}
use Rattle.squall_join.specs.Looked.{looked}
use Rattle.squall_join.specs.Facts.{flag_says, pair_says, found_says}
use Rattle.squall_report.specs.Issues.{PlanPair}
use Rattle.squall_report.specs.Facts.{Fact, LoadedKey, DonePart, OpenedSub}
use Rattle.squall_report.specs.Cells.{CellPlace}
use Rattle.squall_report.specs.Told.{both_issued, TellsBoth}
use Rattle.squall_report.specs.ToldLaws.{issued_comm, issued_idem, issued_neutral}
use Rattle.squall_board.specs.Boards.{Parts, Subs, Cells, Openings, BoardValue, openings_in, issues_in, cells_in, issue_is, is_nested, empty_board, board_join, opened_count, issued, says, told, found_in, cell_of, IsBoard}
use Rattle.squall_board.specs.BoardLaws.{board_laws, same_board, tells_both, load_found, done_found, opened_found}
use Rattle.squall_board.specs.Listed.{openings_of_counts, openings_of, issues_of}
use Rattle.squall_board.specs.ListedLaws.{KeysRise, keys_rise, all_weaker, any_none, any_map, cmp_eq, or_none}
use Rattle.squall_wire.specs.DigestValue.{DigestValue}
use Rattle.squall_delta.specs.Hashes.{row_hash, issue_hash, row_of, issue_row_of, digest_of, row_in}
use Rattle.squall_delta.specs.HashLaws.{all_true}
use Rattle.squall_delta.specs.Repairs.{count_in, is_same_hash, issue_is_hashed, row_is_hashed, shows_issue, shows_row, IsRepair, NoCollisions}
use Rattle.squall_delta.specs.KeptLaws.{cell_in_row, parts_are}

-- ---- boards that look alike

same_by_looks : (x y : BoardValue) → is_nested x → is_nested y → ((n : ℕ) → opened_count x n ≡ opened_count y n) → ((n : ℕ) → issued x n ≡ issued y n) → ((c : CellPlace) → cell_of x c ≡ cell_of y c) → x ≡ y
same_by_looks x y a b opened issues cells = same_board x y a b (record { facts = facts; issues = issues })
  where
    facts : (f : Fact) → says x f ≡ says y f
    facts (LoadedKey c k) = sym (load_found x c k (cell_of x c) refl) ∙ ap (λ o. found_says (pair_says has flag_says) o (inl k)) (cells c) ∙ load_found y c k (cell_of y c) refl
    facts (DonePart c) = sym (done_found x c (cell_of x c) refl) ∙ ap (λ o. found_says (pair_says has flag_says) o (inr tt)) (cells c) ∙ done_found y c (cell_of y c) refl
    facts (OpenedSub n s) = opened_found x n s ∙ ap (nat_lt s) (opened n) ∙ sym (opened_found y n s)

-- a board and a digest have one repair
pub same_repairs : (b : BoardValue) (d : DigestValue) (r q : BoardValue) → IsBoard r → IsBoard q → IsRepair b d r → IsRepair b d q → r ≡ q
same_repairs b d r q x y f g = same_by_looks r q x.nested y.nested (λ n. f.opened n ∙ sym (g.opened n)) (λ n. f.issues n ∙ sym (g.issues n)) (λ c. f.cells c ∙ sym (g.cells c))

-- ---- hashes compared

number_decides : (x y : ℕ) → Decides (x == y) (x ≡ y)
number_decides x y = (λ e. grind (arith, nat_tests), λ e. grind (arith, nat_tests))

same_hash : (g h : List ℕ) → is_same_hash g h ≡ true → g ≡ h
same_hash g h = (pointwise_decides number_decides g h).0

hash_itself : (h : List ℕ) → is_same_hash h h ≡ true
hash_itself h = (pointwise_decides number_decides h h).1 refl

-- ---- what the digest of a board shows

count_found : (n : ℕ) (es : Openings) → count_in (openings_of_counts es) n ≡ looked 0 (find nat_cmp n es)
count_found n [] = refl
count_found n (e ∷ es) =
    elim (e.0 == n) as (λ b. (if b then e.1 else count_in (openings_of_counts es) n) ≡ looked 0 (cond b (Some e.1) (find nat_cmp n es))) [ true ↦ refl | false ↦ count_found n es ]
    ∙ sym (ap (λ b. looked 0 (cond b (Some e.1) (find nat_cmp n es))) (cmp_eq n e.0))

-- the test of the entry that was found
abbrev tested : {V : Type 0} → (ℕ × V → Bool) → ℕ → Option V → Bool
tested g q None = false
tested g q (Some v) = g (q, v)

any_at : {V : Type 0} (g : ℕ × V → Bool) (q : ℕ) (es : List (ℕ × V)) → KeysRise es → list_any (λ e. (e.0 == q) && g e) es ≡ tested g q (find nat_cmp q es)
any_at g q [] r = refl
any_at g q (e ∷ es) r =
    elim (e.0 == q) as (λ b. (e.0 == q) ≡ b → ((b && g e) || list_any (λ d. (d.0 == q) && g d) es) ≡ tested g q (cond b (Some e.1) (find nat_cmp q es))) [
      | true ↦ λ t. sym (or_none (g e) _ (any_none (λ d. (d.0 == q) && g d) es (all_weaker (λ d. e.0 < d.0) (λ d. ((d.0 == q) && g d) ≡ false) es r.0 (λ d lt. ap (λ b. b && g d) (later e.0 q d.0 t lt)))))
          ∙ ap (λ k. g (k, e.1)) (key_of e.0 q t)
      | false ↦ λ t. any_at g q es r.1
    ] refl
    ∙ sym (ap (λ b. tested g q (cond b (Some e.1) (find nat_cmp q es))) (cmp_eq q e.0))
  where
    key_of : (k q : ℕ) → (k == q) ≡ true → k ≡ q
    key_of k q t = grind (arith, nat_tests)

    later : (k q d : ℕ) → (k == q) ≡ true → k < d → (d == q) ≡ false
    later k q d t lt = grind (arith, nat_tests)

any_guard : {X : Type 0} (a : Bool) (f : X → Bool) (xs : List X) → list_any (λ x. a && f x) xs ≡ (a && list_any f xs)
any_guard true f xs = refl
any_guard false f xs = any_none (λ x. false) xs (all_true (λ x. false ≡ false) (λ x. refl) xs)

module _ (a : BoardValue) (is : IsBoard a) where
  -- the digest of a board shows the hash of each issue, and no other
  pub issue_shown : (n : ℕ) (h : List ℕ) → shows_issue (digest_of a) n h ≡ issue_is_hashed n h (find nat_cmp n (issues_in a))
  issue_shown n h =
      any_map issue_row_of (λ r. (r.number == n) && is_same_hash r.hash h) (issues_of a)
      ∙ any_at (λ e. is_same_hash (issue_hash e.0 e.1) h) n (issues_in a) (keys_rise (issues_in a) is.nested.0.1.sorted)
      ∙ at (find nat_cmp n (issues_in a))
    where
      at : (o : Option (Flat PlanPair)) → tested (λ e. is_same_hash (issue_hash e.0 e.1) h) n o ≡ issue_is_hashed n h o
      at None = refl
      at (Some v) = refl

  abbrev AreSubs : Subs → Type 0
  AreSubs = IsMap nat_cmp parts_are []

  -- and of each row, and no other
  pub row_shown : (n s : ℕ) (h : List ℕ) → shows_row (digest_of a) n s h ≡ row_is_hashed n s h (found_in s (find nat_cmp n (cells_in a)))
  row_shown n s h =
      numbers (cells_in a)
      ∙ any_at (λ e. list_any (λ f. (f.0 == s) && is_same_hash (row_hash e.0 f.0 f.1) h) e.1) n (cells_in a) (keys_rise (cells_in a) is.nested.1.sorted)
      ∙ at (find nat_cmp n (cells_in a)) (find_All nat_cmp (IsKept AreSubs []) n (cells_in a) is.nested.1.kept)
    where
      number : (e : ℕ × Subs) → list_any (λ r. (r.number == n) && ((r.sub == s) && is_same_hash r.hash h)) (map (row_of e.0) e.1) ≡ ((e.0 == n) && list_any (λ f. (f.0 == s) && is_same_hash (row_hash e.0 f.0 f.1) h) e.1)
      number e = any_map (row_of e.0) (λ r. (r.number == n) && ((r.sub == s) && is_same_hash r.hash h)) e.1 ∙ any_guard (e.0 == n) (λ f. (f.0 == s) && is_same_hash (row_hash e.0 f.0 f.1) h) e.1

      numbers : (es : Cells) → list_any (λ r. (r.number == n) && ((r.sub == s) && is_same_hash r.hash h)) (flat_map (λ e. map (row_of e.0) e.1) es) ≡ list_any (λ e. (e.0 == n) && list_any (λ f. (f.0 == s) && is_same_hash (row_hash e.0 f.0 f.1) h) e.1) es
      numbers [] = refl
      numbers (e ∷ es) =
          list_any-append (λ r. (r.number == n) && ((r.sub == s) && is_same_hash r.hash h)) (map (row_of e.0) e.1) (flat_map (λ e. map (row_of e.0) e.1) es)
          ∙ (λ i. number e i || numbers es i)

      row : (o : Option Parts) → tested (λ f. is_same_hash (row_hash n f.0 f.1) h) s o ≡ row_is_hashed n s h o
      row None = refl
      row (Some parts) = refl

      at : (o : Option Subs) → Found (IsKept AreSubs []) o → tested (λ e. list_any (λ f. (f.0 == s) && is_same_hash (row_hash e.0 f.0 f.1) h) e.1) n o ≡ row_is_hashed n s h (found_in s o)
      at None f = refl
      at (Some subs) f = any_at (λ f. is_same_hash (row_hash n f.0 f.1) h) s subs (keys_rise subs f.0.sorted) ∙ row (find nat_cmp s subs)

  -- a row that is found has a cell
  row_kept : (n s : ℕ) → Found (IsKept parts_are []) (found_in s (find nat_cmp n (cells_in a)))
  row_kept n s = at (find nat_cmp n (cells_in a)) (find_All nat_cmp (IsKept AreSubs []) n (cells_in a) is.nested.1.kept)
    where
      at : (o : Option Subs) → Found (IsKept AreSubs []) o → Found (IsKept parts_are []) (found_in s o)
      at None f = tt
      at (Some subs) f = find_All nat_cmp (IsKept parts_are []) s subs f.0.kept

  -- a hash that the digest of a board shows is that of its row, which has a cell
  row_of_shown : (n s : ℕ) (h : List ℕ) → shows_row (digest_of a) n s h ≡ true → (row_in a n s ≢ []) × (row_hash n s (row_in a n s) ≡ h)
  row_of_shown n s h t = at (found_in s (find nat_cmp n (cells_in a))) (row_kept n s) (sym (row_shown n s h) ∙ t)
    where
      at : (o : Option Parts) → Found (IsKept parts_are []) o → row_is_hashed n s h o ≡ true → (looked [] o ≢ []) × (row_hash n s (looked [] o) ≡ h)
      at None f e = absurd (true≢false (sym e))
      at (Some parts) f e = (f.1, same_hash (row_hash n s parts) h e)

  issue_of_shown : (n : ℕ) (h : List ℕ) → shows_issue (digest_of a) n h ≡ true → (issued a n ≢ Unknown) × (issue_hash n (issued a n) ≡ h)
  issue_of_shown n h t = at (find nat_cmp n (issues_in a)) (find_All nat_cmp (IsKept issue_is Unknown) n (issues_in a) is.nested.0.1.kept) (sym (issue_shown n h) ∙ t)
    where
      at : (o : Option (Flat PlanPair)) → Found (IsKept issue_is Unknown) o → issue_is_hashed n h o ≡ true → (looked Unknown o ≢ Unknown) × (issue_hash n (looked Unknown o) ≡ h)
      at None f e = absurd (true≢false (sym e))
      at (Some v) f e = (f.1, same_hash (issue_hash n v) h e)

  -- ---- the repair by a board's own digest

  own_issue : (n : ℕ) → (if shows_issue (digest_of a) n (issue_hash n (issued a n)) then Unknown else issued a n) ≡ Unknown
  own_issue n = ap (λ b. if b then Unknown else issued a n) (issue_shown n (issue_hash n (issued a n))) ∙ at (find nat_cmp n (issues_in a))
    where
      at : (o : Option (Flat PlanPair)) → (if issue_is_hashed n (issue_hash n (looked Unknown o)) o then Unknown else looked Unknown o) ≡ Unknown
      at None = refl
      at (Some v) = ap (λ b. if b then Unknown else v) (hash_itself (issue_hash n v))

  own_cell : (c : CellPlace) → (if shows_row (digest_of a) c.number c.sub (row_hash c.number c.sub (row_in a c.number c.sub)) then None else cell_of a c) ≡ None
  own_cell c =
      ap (λ b. if b then None else cell_of a c) (row_shown c.number c.sub (row_hash c.number c.sub (row_in a c.number c.sub)))
      ∙ ap (λ v. if row_is_hashed c.number c.sub (row_hash c.number c.sub (row_in a c.number c.sub)) (found_in c.sub (find nat_cmp c.number (cells_in a))) then None else v) (cell_in_row a c)
      ∙ at (found_in c.sub (find nat_cmp c.number (cells_in a)))
    where
      at : (o : Option Parts) → (if row_is_hashed c.number c.sub (row_hash c.number c.sub (looked [] o)) o then None else find nat_cmp c.part (looked [] o)) ≡ None
      at None = refl
      at (Some parts) = ap (λ b. if b then None else find nat_cmp c.part parts) (hash_itself (row_hash c.number c.sub parts))

  own_count : (n : ℕ) → (if nat_lt (count_in (openings_of a) n) (opened_count a n) then opened_count a n else 0) ≡ 0
  own_count n = ap (λ k. if nat_lt k (opened_count a n) then opened_count a n else 0) (count_found n (openings_in a)) ∙ ap (λ b. if b then opened_count a n else 0) (not_less (opened_count a n))
    where
      not_less : (k : ℕ) → nat_lt k k ≡ false
      not_less k = grind (arith, nat_tests)

  -- it is empty
  pub own_repair : (r : BoardValue) → IsBoard r → IsRepair a (digest_of a) r → r ≡ empty_board
  own_repair r ris f = same_by_looks r empty_board ris.nested board_laws.bottom_is (λ n. f.opened n ∙ own_count n) (λ n. f.issues n ∙ own_issue n) (λ c. f.cells c ∙ own_cell c)

-- ---- repairs complete

empty_or_not : {X : Type 0} (xs : List X) → (xs ≡ []) ⊎ (xs ≢ [])
empty_or_not [] = inl refl
empty_or_not (x ∷ xs) = inr (λ e. cc)

unknown_or_not : (x : Flat PlanPair) → (x ≡ Unknown) ⊎ (x ≢ Unknown)
unknown_or_not Unknown = inl refl
unknown_or_not (One p) = inr (λ e. cc)
unknown_or_not Clash = inr (λ e. cc)

either_opened : (s a b : ℕ) → (nat_lt s (if nat_lt a b then b else 0) || nat_lt s a) ≡ (nat_lt s a || nat_lt s b)
either_opened s a b = grind (arith, nat_tests)

module _ (a b r : BoardValue) (is : IsBoard a) (too : IsBoard b) (ris : IsBoard r) (none : NoCollisions a b) (f : IsRepair b (digest_of a) r) where
  abbrev fact : BoardValue → CellPlace → ℕ ⊎ Unit {0} → Bool
  fact x c g = found_says (pair_says has flag_says) (cell_of x c) g

  -- what the digest shows of the other board, the board says itself
  shown_fact : (c : CellPlace) (g : ℕ ⊎ Unit {0}) → shows_row (digest_of a) c.number c.sub (row_hash c.number c.sub (row_in b c.number c.sub)) ≡ true → fact a c g ≡ (fact a c g || fact b c g)
  shown_fact c g t =
      let same = row_of_shown a is c.number c.sub (row_hash c.number c.sub (row_in b c.number c.sub)) t in
      ⊎_elim
      (λ e. or_none (fact a c g) (fact b c g) (ap (λ o. found_says (pair_says has flag_says) o g) (cell_in_row b c ∙ ap (find nat_cmp c.part) e)))
      (λ k. let rows = none.rows c.number c.sub same.0 k same.1 in
      sym (ap (λ v. fact a c g || v) (ap (λ o. found_says (pair_says has flag_says) o g) (cell_in_row b c ∙ ap (find nat_cmp c.part) (sym rows) ∙ sym (cell_in_row a c))) ∙ or_self (fact a c g)))
      (empty_or_not (row_in b c.number c.sub))

  cell_facts : (c : CellPlace) (g : ℕ ⊎ Unit {0}) → (fact r c g || fact a c g) ≡ (fact a c g || fact b c g)
  cell_facts c g =
      ap (λ o. found_says (pair_says has flag_says) o g || fact a c g) (f.cells c)
      ∙ elim (shows_row (digest_of a) c.number c.sub (row_hash c.number c.sub (row_in b c.number c.sub))) as (λ k. shows_row (digest_of a) c.number c.sub (row_hash c.number c.sub (row_in b c.number c.sub)) ≡ k → (found_says (pair_says has flag_says) (if k then None else cell_of b c) g || fact a c g) ≡ (fact a c g || fact b c g)) [
        | true ↦ λ t. shown_fact c g t
        | false ↦ λ t. or_comm (fact b c g) (fact a c g)
      ] refl

  shown_issue : (n : ℕ) → shows_issue (digest_of a) n (issue_hash n (issued b n)) ≡ true → issued a n ≡ both_issued (issued a n) (issued b n)
  shown_issue n t =
      let same = issue_of_shown a is n (issue_hash n (issued b n)) t in
      ⊎_elim
      (λ e. sym (ap (both_issued (issued a n)) e ∙ issued_neutral (issued a n)))
      (λ k. sym (ap (both_issued (issued a n)) (sym (none.issues n same.0 k same.1)) ∙ issued_idem (issued a n)))
      (unknown_or_not (issued b n))

  issues_both : (n : ℕ) → both_issued (issued r n) (issued a n) ≡ both_issued (issued a n) (issued b n)
  issues_both n =
      ap (λ v. both_issued v (issued a n)) (f.issues n)
      ∙ elim (shows_issue (digest_of a) n (issue_hash n (issued b n))) as (λ k. shows_issue (digest_of a) n (issue_hash n (issued b n)) ≡ k → both_issued (if k then Unknown else issued b n) (issued a n) ≡ both_issued (issued a n) (issued b n)) [
        | true ↦ λ t. shown_issue n t
        | false ↦ λ t. issued_comm (issued b n) (issued a n)
      ] refl

  openings_both : (n s : ℕ) → (nat_lt s (opened_count r n) || nat_lt s (opened_count a n)) ≡ (nat_lt s (opened_count a n) || nat_lt s (opened_count b n))
  openings_both n s =
      ap (λ k. nat_lt s k || nat_lt s (opened_count a n)) (f.opened n ∙ ap (λ k. if nat_lt k (opened_count b n) then opened_count b n else 0) (count_found n (openings_in a)))
      ∙ either_opened s (opened_count a n) (opened_count b n)

  facts_both : (g : Fact) → (says r g || says a g) ≡ (says a g || says b g)
  facts_both (LoadedKey c k) =
      let r_is = load_found r c k (cell_of r c) refl in
      let a_is = load_found a c k (cell_of a c) refl in
      let b_is = load_found b c k (cell_of b c) refl in
      sym (λ i. r_is i || a_is i) ∙ cell_facts c (inl k) ∙ (λ i. a_is i || b_is i)
  facts_both (DonePart c) =
      let r_is = done_found r c (cell_of r c) refl in
      let a_is = done_found a c (cell_of a c) refl in
      let b_is = done_found b c (cell_of b c) refl in
      sym (λ i. r_is i || a_is i) ∙ cell_facts c (inr tt) ∙ (λ i. a_is i || b_is i)
  facts_both (OpenedSub n s) = (λ i. opened_found r n s i || opened_found a n s i) ∙ openings_both n s ∙ sym (λ i. opened_found a n s i || opened_found b n s i)

  -- a board that takes the repair of another by its own digest has all that the other has
  pub completed : board_join r a ≡ board_join a b
  completed =
      let left : TellsBoth (told (board_join r a)) (told r) (told a) = tells_both r a ris.nested is.nested in
      let right : TellsBoth (told (board_join a b)) (told a) (told b) = tells_both a b is.nested too.nested in
      same_board (board_join r a) (board_join a b) (board_laws.closed r a ris.nested is.nested) (board_laws.closed a b is.nested too.nested) (record {
        facts = λ g. left.facts g ∙ facts_both g ∙ sym (right.facts g);
        issues = λ n. left.issues n ∙ issues_both n ∙ sym (right.issues n);
      })
