-- Laws of boards.
use Rattle.std.specs.Prelude.{◌≡◌, ◌≢◌, ℕ, ◌+◌, ◌<◌, ◌≤◌, ◌==◌, max, Bool, true, false, ◌||◌, ◌&&◌, cond, nat_lt, nat_le, List, [], ◌∷◌, ◌++◌, Option, None, Some, ◌⊎◌, refl}
use Rattle.std.proofs.Common.{sym, ap, subst, ◌∙◌, arith, inl, inr, ⊎_elim}
use Rattle.std.proofs.lemmas.Bool.{true≢false, cases_lt}
use Rattle.std.proofs.lemmas.Bool.Decides.{nat_tests}
use Rattle.std.specs.Ordering.{nat_cmp, is_eq}
use Rattle.std.specs.Cmp.{nat_cmp_total, first_so, second_so}
use Rattle.std.specs.FinMap.Entries.{find}
use Rattle.std.proofs.lemmas.Map.Lookups.{exact_unsigned}
use Rattle.squall_key.specs.Keys.{top, part_limit}
use Rattle.squall_span.specs.Spans.{Interval, has, span_has, IsSet}
use Rattle.squall_span.specs.SpanLaws.{has_ended}
use Rattle.squall_join.specs.declared.flat.Flat.{Flat}
use Rattle.squall_join.specs.declared.flat.Flat.TheVariants.{Unknown, One, Clash}
use Rattle.squall_join.specs.Laws.{JoinLaws}
use Rattle.squall_join.specs.Basic.{is_max}
use Rattle.squall_join.specs.BasicLaws.{max_laws, flag_laws}
use Rattle.squall_join.specs.SetLaws.{set_laws}
use Rattle.squall_join.specs.Pairs.{pair_of}
use Rattle.squall_join.specs.PairLaws.{same_pair, pair_laws}
use Rattle.squall_join.specs.Entries.{merged, IsMap}
use Rattle.squall_join.specs.MapLaws.{map_laws}
use Rattle.squall_join.specs.Looked.{looked}
use Rattle.squall_join.specs.LookedLaws.{looked_merged, same_looked_map}
use Rattle.squall_join.specs.Facts.{Factual, max_says, flag_says, pair_says, map_says, found_says}
use Rattle.squall_join.specs.FactLaws.{max_factual, flag_factual, set_factual, pair_factual, map_factual}
use Rattle.squall_report.specs.declared.report.ReportKind.{ReportKind}
use Rattle.squall_report.specs.declared.report.ReportKind.TheVariants.{Loaded, Done, Opened, Issued}
use Rattle.squall_report.specs.Issues.{PlanPair}
use Rattle.squall_report.specs.Facts.{Fact, LoadedKey, DonePart, OpenedSub, is_fact, is_opening, report_says, reports_say}
use Rattle.squall_report.specs.Cells.{CellPlace, place_at, is_cell_place, is_same_cell}
use Rattle.squall_report.specs.Told.{Told, both_issued, report_issues, reports_issue, told_by_report, told_by, SameTold, TellsBoth}
use Rattle.squall_report.specs.ToldLaws.{issue_laws, any_flat, issued_neutral, told_append}
use Rattle.squall_board.specs.Boards.{CellValue, BoardValue, openings_in, issues_in, cells_in, cell_is, cell_bottom, cell_join, issue_is, is_nested, empty_board, board_join, opened_count, issued, says, told, IsBoard, HasTaken, cell_says, count_says, one_issue, no_fact, told_by_cell, told_by_count, told_by_issue, cell_board, opening_board, issue_board, report_board, found_in, cell_of}

-- ---- the facts of a join, and what tells boards apart

pub cell_laws : JoinLaws cell_is cell_bottom cell_join
cell_laws = pair_laws set_laws flag_laws

pub parts_laws : JoinLaws (IsMap nat_cmp cell_is cell_bottom) [] (merged nat_cmp cell_join)
parts_laws = map_laws nat_cmp_total exact_unsigned cell_laws

pub subs_laws : JoinLaws (IsMap nat_cmp (IsMap nat_cmp cell_is cell_bottom) []) [] (merged nat_cmp (merged nat_cmp cell_join))
subs_laws = map_laws nat_cmp_total exact_unsigned parts_laws

pub cells_laws : JoinLaws (IsMap nat_cmp (IsMap nat_cmp (IsMap nat_cmp cell_is cell_bottom) []) []) [] (merged nat_cmp (merged nat_cmp (merged nat_cmp cell_join)))
cells_laws = map_laws nat_cmp_total exact_unsigned subs_laws

pub board_laws : JoinLaws is_nested empty_board board_join
board_laws = pair_laws (pair_laws (map_laws nat_cmp_total exact_unsigned max_laws) (map_laws nat_cmp_total exact_unsigned issue_laws)) cells_laws

pub cells_factual : Factual (IsMap nat_cmp (IsMap nat_cmp (IsMap nat_cmp cell_is cell_bottom) []) []) [] (merged nat_cmp (merged nat_cmp (merged nat_cmp cell_join))) (map_says nat_cmp (map_says nat_cmp (map_says nat_cmp (pair_says has flag_says))))
cells_factual = map_factual nat_cmp_total exact_unsigned subs_laws (map_factual nat_cmp_total exact_unsigned parts_laws (map_factual nat_cmp_total exact_unsigned cell_laws (pair_factual set_factual flag_factual)))

pub openings_factual : Factual (IsMap nat_cmp is_max 0) [] (merged nat_cmp max) (map_says nat_cmp max_says)
openings_factual = map_factual nat_cmp_total exact_unsigned max_laws max_factual

says_either : (x y : BoardValue) → is_nested x → is_nested y → (f : Fact) → says (board_join x y) f ≡ (says x f || says y f)
says_either x y a b (OpenedSub n t) = openings_factual.at_join (openings_in x) (openings_in y) a.0.0 b.0.0 (n, t)
says_either x y a b (LoadedKey c k) = cells_factual.at_join (cells_in x) (cells_in y) a.1 b.1 (c.number, (c.sub, (c.part, inl k)))
says_either x y a b (DonePart c) = cells_factual.at_join (cells_in x) (cells_in y) a.1 b.1 (c.number, (c.sub, (c.part, inr tt)))

-- a join tells what either tells, and nothing else
pub tells_both : (x y : BoardValue) → is_nested x → is_nested y → TellsBoth (told (board_join x y)) (told x) (told y)
tells_both x y a b = record {
  facts = says_either x y a b;
  issues = λ n. looked_merged nat_cmp_total issue_laws n (issues_in x) (issues_in y) a.0.1 b.0.1;
}

-- boards that tell the same are equal
pub same_board : (x y : BoardValue) → is_nested x → is_nested y → SameTold (told x) (told y) → x ≡ y
same_board x y a b is = same_pair _ _ _ _
    (same_pair _ _ _ _
    (openings_factual.same (openings_in x) (openings_in y) a.0.0 b.0.0 (λ q. is.facts (OpenedSub q.0 q.1)))
    (same_looked_map nat_cmp_total exact_unsigned (issues_in x) (issues_in y) a.0.1 b.0.1 is.issues))
    (cells_factual.same (cells_in x) (cells_in y) a.1 b.1 (λ q. at_cell q.0 q.1.0 q.1.1.0 q.1.1.1))
  where
    at_cell : (n s p : ℕ) (f : ℕ ⊎ Unit {0}) → map_says nat_cmp (map_says nat_cmp (map_says nat_cmp (pair_says has flag_says))) (cells_in x) (n, (s, (p, f))) ≡ map_says nat_cmp (map_says nat_cmp (map_says nat_cmp (pair_says has flag_says))) (cells_in y) (n, (s, (p, f)))
    at_cell n s p (inl k) = is.facts (LoadedKey (place_at n s p) k)
    at_cell n s p (inr u) = is.facts (DonePart (place_at n s p))

-- ---- limits

no_fact_said : (b : BoardValue) → IsBoard b → (f : Fact) → is_fact f ≡ false → says b f ≡ false
no_fact_said b is f out = elim (says b f) as (λ v. says b f ≡ v → says b f ≡ false) [
  | true ↦ λ e. absurd (true≢false (sym (is.facts f e) ∙ out))
  | false ↦ λ e. e
] refl

-- boards that tell the same within the limits of facts and numbers are equal
pub same_within : (x y : BoardValue) → IsBoard x → IsBoard y → ((f : Fact) → is_fact f ≡ true → says x f ≡ says y f) → ((n : ℕ) → 1 ≤ n → issued x n ≡ issued y n) → x ≡ y
same_within x y a b facts issues = same_board x y a.nested b.nested (record {
  facts = λ f. elim (is_fact f) as (λ v. is_fact f ≡ v → says x f ≡ says y f) [
    | true ↦ λ e. facts f e
    | false ↦ λ e. no_fact_said x a f e ∙ sym (no_fact_said y b f e)
  ] refl;
  issues = λ n. ⊎_elim (λ le. issues n le) (λ u. ⊎_elim (λ le. issues n le) (λ v. u ∙ sym v) (b.issues n)) (a.issues n);
})

either_true : (P : Type 0) (a b : Bool) → (a ≡ true → P) → (b ≡ true → P) → (a || b) ≡ true → P
either_true P true b f g e = f refl
either_true P false b f g e = g e

pub join_is : (x y : BoardValue) → IsBoard x → IsBoard y → IsBoard (board_join x y)
join_is x y a b = record {
  nested = board_laws.closed x y a.nested b.nested;
  facts = λ f e. either_true (is_fact f ≡ true) (says x f) (says y f) (a.facts f) (b.facts f) (sym (says_either x y a.nested b.nested f) ∙ e);
  issues = λ n. ⊎_elim (λ le. inl le) (λ u. ⊎_elim (λ le. inl le) (λ v. inr ((tells_both x y a.nested b.nested).issues n ∙ ap (λ z. both_issued z (issued y n)) u ∙ ap (both_issued Unknown) v)) (b.issues n)) (a.issues n);
}

pub empty_is : IsBoard empty_board
empty_is = record {
  nested = board_laws.bottom_is;
  facts = elim [ LoadedKey c k ↦ λ e. absurd (true≢false (sym e)) | DonePart c ↦ λ e. absurd (true≢false (sym e)) | OpenedSub n s ↦ λ e. absurd (true≢false (sym e)) ];
  issues = λ n. inr refl;
}

-- ---- boards of one thing

cmp_eq : (x y : ℕ) → is_eq (nat_cmp x y) ≡ (y == x)
cmp_eq x y = grind (arith, nat_tests)

-- a map of one entry
pub says_single : {V F : Type 0} (p : V → F → Bool) (k : ℕ) (v : V) (q : ℕ) (f : F) → map_says nat_cmp p ((k, v) ∷ []) (q, f) ≡ ((k == q) && p v f)
says_single p k v q f =
    ap (λ b. found_says p (cond b (Some v) None) f) (cmp_eq q k)
    ∙ elim (k == q) as (λ b. found_says p (cond b (Some v) None) f ≡ (b && p v f)) [ true ↦ refl | false ↦ refl ]

and_assoc : (a b c d : Bool) → (a && (b && (c && d))) ≡ ((a && (b && c)) && d)
and_assoc false b c d = refl
and_assoc true false c d = refl
and_assoc true true c d = refl

-- the board of a cell tells what the cell tells
cell_tells_at : (c : CellPlace) (cell : CellValue) (d : CellPlace) (g : ℕ ⊎ Unit {0}) → map_says nat_cmp (map_says nat_cmp (map_says nat_cmp (pair_says has flag_says))) (cells_in (cell_board c cell)) (d.number, (d.sub, (d.part, g))) ≡ (is_same_cell c d && pair_says has flag_says cell g)
cell_tells_at c cell d g =
    says_single (map_says nat_cmp (map_says nat_cmp (pair_says has flag_says))) c.number _ d.number (d.sub, (d.part, g))
    ∙ ap (λ x. (c.number == d.number) && x) (says_single (map_says nat_cmp (pair_says has flag_says)) c.sub _ d.sub (d.part, g) ∙ ap (λ x. (c.sub == d.sub) && x) (says_single (pair_says has flag_says) c.part _ d.part g))
    ∙ and_assoc (c.number == d.number) (c.sub == d.sub) (c.part == d.part) (pair_says has flag_says cell g)

cell_says_it : (c : CellPlace) (cell : CellValue) (f : Fact) → says (cell_board c cell) f ≡ cell_says c cell f
cell_says_it c cell (LoadedKey d k) = cell_tells_at c cell d (inl k)
cell_says_it c cell (DonePart d) = cell_tells_at c cell d (inr tt)
cell_says_it c cell (OpenedSub m t) = refl

pub cell_tells : (c : CellPlace) (cell : CellValue) → SameTold (told (cell_board c cell)) (told_by_cell c cell)
cell_tells c cell = record { facts = cell_says_it c cell; issues = λ m. refl }

count_says_it : (n count : ℕ) (f : Fact) → says (opening_board n count) f ≡ count_says n count f
count_says_it n count (LoadedKey d k) = refl
count_says_it n count (DonePart d) = refl
count_says_it n count (OpenedSub m t) = says_single max_says n count m t

pub count_tells : (n count : ℕ) → SameTold (told (opening_board n count)) (told_by_count n count)
count_tells n count = record { facts = count_says_it n count; issues = λ m. refl }

issue_at : (n : ℕ) (x : Flat PlanPair) (m : ℕ) → looked Unknown (find nat_cmp m ((n, x) ∷ [])) ≡ one_issue n x m
issue_at n x m = ap (λ b. looked Unknown (cond b (Some x) None)) (cmp_eq m n) ∙ elim (n == m) as (λ b. looked Unknown (cond b (Some x) None) ≡ cond b x Unknown) [ true ↦ refl | false ↦ refl ]

abbrev nothing : Flat PlanPair
nothing = Unknown

pub unknown_at : (b : Bool) → nothing ≡ cond b nothing nothing
unknown_at true = refl
unknown_at false = refl

issue_says_none : (n : ℕ) (x : Flat PlanPair) (f : Fact) → says (issue_board n x) f ≡ no_fact f
issue_says_none n Unknown (LoadedKey d k) = refl
issue_says_none n Unknown (DonePart d) = refl
issue_says_none n Unknown (OpenedSub m t) = refl
issue_says_none n (One p) (LoadedKey d k) = refl
issue_says_none n (One p) (DonePart d) = refl
issue_says_none n (One p) (OpenedSub m t) = refl
issue_says_none n Clash (LoadedKey d k) = refl
issue_says_none n Clash (DonePart d) = refl
issue_says_none n Clash (OpenedSub m t) = refl

issue_is_it : (n : ℕ) (x : Flat PlanPair) (m : ℕ) → issued (issue_board n x) m ≡ one_issue n x m
issue_is_it n Unknown m = unknown_at (n == m)
issue_is_it n (One p) m = issue_at n (One p) m
issue_is_it n Clash m = issue_at n Clash m

pub issue_tells : (n : ℕ) (x : Flat PlanPair) → SameTold (told (issue_board n x)) (told_by_issue n x)
issue_tells n x = record { facts = issue_says_none n x; issues = issue_is_it n x }

pub or_false : (a : Bool) → (a || false) ≡ a
or_false true = refl
or_false false = refl

and_true : (a : Bool) → (a && true) ≡ a
and_true true = refl
and_true false = refl

and_false : (a : Bool) → (a && false) ≡ false
and_false true = refl
and_false false = refl

below_next : (t s : ℕ) → nat_lt t (s + 1) ≡ nat_le t s
below_next t s = grind (arith, nat_tests)

report_says_it : (r : ReportKind PlanPair) (f : Fact) → says (report_board r) f ≡ report_says r f
report_says_it (Loaded n s p span) (LoadedKey d k) = cell_says_it (place_at n s p) (pair_of (span ∷ []) false) (LoadedKey d k) ∙ ap (λ x. is_same_cell (place_at n s p) d && x) (or_false (span_has span k))
report_says_it (Loaded n s p span) (DonePart d) = cell_says_it (place_at n s p) (pair_of (span ∷ []) false) (DonePart d) ∙ and_false (is_same_cell (place_at n s p) d)
report_says_it (Loaded n s p span) (OpenedSub m t) = refl
report_says_it (Done n s p) (LoadedKey d k) = cell_says_it (place_at n s p) (pair_of [] true) (LoadedKey d k) ∙ and_false (is_same_cell (place_at n s p) d)
report_says_it (Done n s p) (DonePart d) = cell_says_it (place_at n s p) (pair_of [] true) (DonePart d) ∙ and_true (is_same_cell (place_at n s p) d)
report_says_it (Done n s p) (OpenedSub m t) = refl
report_says_it (Opened n s) (LoadedKey d k) = refl
report_says_it (Opened n s) (DonePart d) = refl
report_says_it (Opened n s) (OpenedSub m t) = count_says_it n (s + 1) (OpenedSub m t) ∙ ap (λ x. (n == m) && x) (below_next t s)
report_says_it (Issued n issue) (LoadedKey d k) = refl
report_says_it (Issued n issue) (DonePart d) = refl
report_says_it (Issued n issue) (OpenedSub m t) = refl

report_issues_it : (r : ReportKind PlanPair) (m : ℕ) → issued (report_board r) m ≡ report_issues r m
report_issues_it (Loaded n s p span) m = refl
report_issues_it (Done n s p) m = refl
report_issues_it (Opened n s) m = refl
report_issues_it (Issued n issue) m = issue_at n (One issue) m

-- the board of a report tells what the report tells
pub report_tells : (r : ReportKind PlanPair) → SameTold (told (report_board r)) (told_by_report r)
report_tells r = record { facts = report_says_it r; issues = report_issues_it r }

-- ---- they are boards

same_number : (n m : ℕ) → (n == m) ≡ true → n ≡ m
same_number n m e = grind (arith, nat_tests)

place_there : (c d : CellPlace) → is_cell_place c ≡ true → is_same_cell c d ≡ true → is_cell_place d ≡ true
place_there c d is e =
    let x : c.number ≡ d.number = same_number c.number d.number (first_so _ _ e) in
    let y : c.sub ≡ d.sub = same_number c.sub d.sub (first_so _ _ (second_so (c.number == d.number) _ e)) in
    let z : c.part ≡ d.part = same_number c.part d.part (second_so (c.sub == d.sub) _ (second_so (c.number == d.number) _ e)) in
    subst (λ v. is_cell_place (place_at v d.sub d.part) ≡ true) x (subst (λ v. is_cell_place (place_at c.number v d.part) ≡ true) y (subst (λ v. is_cell_place (place_at c.number c.sub v) ≡ true) z is))

both_true : (a b : Bool) → a ≡ true → b ≡ true → (a && b) ≡ true
both_true a b p q = ap (λ x. x && b) p ∙ q

-- a key of a set lies below the top
pub key_below : (ss : List Interval) (k : ℕ) → IsSet ss → has ss k ≡ true → nat_lt k top ≡ true
key_below ss k is e = elim (cases_lt k top) [
  | inl lt ↦ grind (arith, nat_tests)
  | inr ge ↦ absurd (true≢false (sym e ∙ has_ended top k ss is.1 ge))
]

cell_within : (c : CellPlace) (cell : CellValue) → is_cell_place c ≡ true → cell_is cell → (f : Fact) → cell_says c cell f ≡ true → is_fact f ≡ true
cell_within c cell is set (LoadedKey d k) e = both_true (is_cell_place d) (nat_lt k top) (place_there c d is (first_so _ _ e)) (key_below cell.first k set.0 (second_so (is_same_cell c d) _ e))
cell_within c cell is set (DonePart d) e = place_there c d is (first_so _ _ e)
cell_within c cell is set (OpenedSub m t) e = absurd (true≢false (sym e))

pub cell_board_is : (c : CellPlace) (cell : CellValue) → is_cell_place c ≡ true → cell_is cell → cell ≢ cell_bottom → IsBoard (cell_board c cell)
cell_board_is c cell place is kept = record {
  nested = ((record { sorted = tt; kept = tt }, record { sorted = tt; kept = tt }), record { sorted = tt; kept = ((record { sorted = tt; kept = ((record { sorted = tt; kept = ((is, kept), tt) }, λ e. cc), tt) }, λ e. cc), tt) });
  facts = λ f e. cell_within c cell place is f (sym (cell_says_it c cell f) ∙ e);
  issues = λ m. inr refl;
}

count_within : (n count : ℕ) → 1 ≤ n → count ≤ part_limit → (f : Fact) → count_says n count f ≡ true → is_fact f ≡ true
count_within n count a b (LoadedKey d k) e = absurd (true≢false (sym e))
count_within n count a b (DonePart d) e = absurd (true≢false (sym e))
count_within n count a b (OpenedSub m t) e =
    let s : n ≡ m = same_number n m (first_so _ _ e) in
    let h : nat_lt t count ≡ true = second_so (n == m) _ e in
    subst (λ z. is_opening z t ≡ true) s (grind (arith, nat_tests))

pub opening_board_is : (n count : ℕ) → 1 ≤ n → 0 < count → count ≤ part_limit → IsBoard (opening_board n count)
opening_board_is n count a b c = record {
  nested = ((record { sorted = tt; kept = ((omega (arith, c), λ e. omega (arith, b, e)), tt) }, record { sorted = tt; kept = tt }), record { sorted = tt; kept = tt });
  facts = λ f e. count_within n count a c f (sym (count_says_it n count f) ∙ e);
  issues = λ m. inr refl;
}

issue_within : (n : ℕ) (x : Flat PlanPair) (m : ℕ) → 1 ≤ n → (1 ≤ m) ⊎ (one_issue n x m ≡ Unknown)
issue_within n x m a = elim (n == m) as (λ b. (n == m) ≡ b → (1 ≤ m) ⊎ (cond b x Unknown ≡ Unknown)) [
  | true ↦ λ e. inl (subst (λ z. 1 ≤ z) (same_number n m e) a)
  | false ↦ λ e. inr refl
] refl

kept_issue : (n : ℕ) (x : Flat PlanPair) → x ≢ Unknown → IsMap nat_cmp issue_is Unknown ((n, x) ∷ [])
kept_issue n x kept = record { sorted = tt; kept = ((any_flat x, kept), tt) }

issue_nested : (n : ℕ) (x : Flat PlanPair) → is_nested (issue_board n x)
issue_nested n Unknown = board_laws.bottom_is
issue_nested n (One p) = ((record { sorted = tt; kept = tt }, kept_issue n (One p) (λ e. cc)), record { sorted = tt; kept = tt })
issue_nested n Clash = ((record { sorted = tt; kept = tt }, kept_issue n Clash (λ e. cc)), record { sorted = tt; kept = tt })

pub issue_board_is : (n : ℕ) (x : Flat PlanPair) → 1 ≤ n → IsBoard (issue_board n x)
issue_board_is n x a = record {
  nested = issue_nested n x;
  facts = λ f e. absurd (true≢false (sym e ∙ issue_says_none n x f));
  issues = λ m. ⊎_elim (λ le. inl le) (λ u. inr (issue_is_it n x m ∙ u)) (issue_within n x m a);
}

-- ---- what was taken

pub tells_as : (d b c : BoardValue) (t : Told) → TellsBoth (told d) (told b) (told c) → SameTold (told c) t → TellsBoth (told d) (told b) t
tells_as d b c t both same = record {
  facts = λ f. both.facts f ∙ ap (λ x. says b f || x) (same.facts f);
  issues = λ n. both.issues n ∙ ap (both_issued (issued b n)) (same.issues n);
}

-- a board joined with one that tells what t does
pub joined_tells : (b c : BoardValue) (t : Told) → IsBoard b → IsBoard c → SameTold (told c) t → TellsBoth (told (board_join b c)) (told b) t
joined_tells b c t x y same = tells_as (board_join b c) b c t (tells_both b c x.nested y.nested) same

pub has_none : HasTaken empty_board []
has_none = record {
  facts = elim [ LoadedKey c k ↦ refl | DonePart c ↦ refl | OpenedSub n s ↦ refl ];
  issues = λ n. refl;
}

-- a board that tells what two tell has taken the lists of both
pub has_both : (d b c : Told) (rs qs : List (ReportKind PlanPair)) → TellsBoth d b c → SameTold b (told_by rs) → SameTold c (told_by qs) → SameTold d (told_by (rs ++ qs))
has_both d b c rs qs both x y = record {
  facts = λ f. both.facts f ∙ ap (λ z. z || c.says f) (x.facts f) ∙ ap (λ z. reports_say rs f || z) (y.facts f) ∙ sym ((told_append rs qs).facts f);
  issues = λ n. both.issues n ∙ ap (λ z. both_issued z (c.issues n)) (x.issues n) ∙ ap (both_issued (reports_issue rs n)) (y.issues n) ∙ sym ((told_append rs qs).issues n);
}

-- a list of one report tells what the report tells
pub one_tells : (r : ReportKind PlanPair) → SameTold (told_by_report r) (told_by (r ∷ []))
one_tells r = record {
  facts = λ f. sym (or_false (report_says r f));
  issues = λ n. sym (issued_neutral (report_issues r n));
}

pub same_taken : (x y : BoardValue) (rs qs : List (ReportKind PlanPair)) → IsBoard x → IsBoard y → HasTaken x rs → HasTaken y qs → SameTold (told_by rs) (told_by qs) → x ≡ y
same_taken x y rs qs a b h g same = same_board x y a.nested b.nested (record {
  facts = λ f. h.facts f ∙ same.facts f ∙ sym (g.facts f);
  issues = λ n. h.issues n ∙ same.issues n ∙ sym (g.issues n);
})

-- ---- cells

found_says_in : {V F : Type 0} (p : V → F → Bool) (q : ℕ) (o : Option (List (ℕ × V))) (f : F) → found_says (map_says nat_cmp p) o (q, f) ≡ found_says p (found_in q o) f
found_says_in p q None f = refl
found_says_in p q (Some es) f = refl

cell_of_says : (b : BoardValue) (c : CellPlace) (f : ℕ ⊎ Unit {0}) → found_says (pair_says has flag_says) (cell_of b c) f ≡ map_says nat_cmp (map_says nat_cmp (map_says nat_cmp (pair_says has flag_says))) (cells_in b) (c.number, (c.sub, (c.part, f)))
cell_of_says b c f =
    sym (found_says_in (map_says nat_cmp (pair_says has flag_says)) c.sub (find nat_cmp c.number (cells_in b)) (c.part, f)
    ∙ found_says_in (pair_says has flag_says) c.part (found_in c.sub (find nat_cmp c.number (cells_in b))) f)

-- what the found cell says of a key, and of its partition
pub load_found : (b : BoardValue) (c : CellPlace) (k : ℕ) (o : Option CellValue) → o ≡ cell_of b c → found_says (pair_says has flag_says) o (inl k) ≡ says b (LoadedKey c k)
load_found b c k o e = ap (λ v. found_says (pair_says has flag_says) v (inl k)) e ∙ cell_of_says b c (inl k)

pub done_found : (b : BoardValue) (c : CellPlace) (o : Option CellValue) → o ≡ cell_of b c → found_says (pair_says has flag_says) o (inr tt) ≡ says b (DonePart c)
done_found b c o e = ap (λ v. found_says (pair_says has flag_says) v (inr tt)) e ∙ cell_of_says b c (inr tt)

-- whether the found cell has the key or is done
pub come_found : (b : BoardValue) (c : CellPlace) (k : ℕ) (o : Option CellValue) → o ≡ cell_of b c → (found_says (pair_says has flag_says) o (inl k) || found_says (pair_says has flag_says) o (inr tt)) ≡ (says b (LoadedKey c k) || says b (DonePart c))
come_found b c k o e = ap (λ x. x || found_says (pair_says has flag_says) o (inr tt)) (load_found b c k o e) ∙ ap (λ x. says b (LoadedKey c k) || x) (done_found b c o e)

-- the opened count says which sub-plans are opened
pub opened_found : (b : BoardValue) (n t : ℕ) → says b (OpenedSub n t) ≡ nat_lt t (opened_count b n)
opened_found b n t = at (find nat_cmp n (openings_in b))
  where
    at : (o : Option ℕ) → found_says max_says o t ≡ nat_lt t (looked 0 o)
    at None = grind (arith, nat_tests)
    at (Some m) = refl
