-- What a board tells already.
use Rattle.std.specs.Prelude.{◌≡◌, ◌↔◌, ℕ, ◌<◌, ◌≤◌, ◌==◌, ◌&&◌, ◌||◌, Bool, true, false, cond, nat_lt, nat_le, IsTrue, List, [], ◌∷◌, Some, None, refl}
use Rattle.std.proofs.Common.{sym, ap, subst, ◌∙◌, arith, inl, inr}
use Rattle.std.proofs.lemmas.Bool.{true≢false, cases_lt}
use Rattle.std.proofs.lemmas.Bool.Decides.{nat_tests}
use Rattle.std.specs.Cmp.{first_so, second_so}
use Rattle.squall_span.specs.Spans.{Interval, span_has, has, IsCanonical, first_span, spans_beyond}
use Rattle.squall_span.specs.SpanLaws.{inside, has_in, has_below, has_after}
use Rattle.squall_span.specs.BeyondLaws.{canonical_beyond, has_beyond, has_none_beyond, has_first_beyond, first_cons}
use Rattle.squall_join.specs.declared.flat.Flat.{Flat}
use Rattle.squall_join.specs.declared.flat.Flat.TheVariants.{Unknown, One, Clash}
use Rattle.squall_report.specs.declared.report.ReportKind.{ReportKind}
use Rattle.squall_report.specs.declared.report.ReportKind.TheVariants.{Loaded, Done, Opened, Issued}
use Rattle.squall_report.specs.Issues.{PlanPair, is_same_pair}
use Rattle.squall_report.specs.Cells.{CellPlace, place_at, place_of, is_cell_place, is_same_cell}
use Rattle.squall_report.specs.Facts.{Fact, LoadedKey, DonePart, OpenedSub, is_report}
use Rattle.squall_report.specs.Told.{TellsAll, both_issued, told_by_report}
use Rattle.squall_report.specs.ToldLaws.{issued_neutral}
use Rattle.squall_board.specs.Boards.{BoardValue, Cells, CellValue, IsBoard, board_join, board_of, cell_of, cell_says, cells_in, issued, says, told, report_board}
use Rattle.squall_board.specs.BoardLaws.{board_laws, cell_tells, done_found, load_found, report_tells, same_board, tells_both}
use Rattle.squall_board.specs.Takes.{TakesReport, TakesBoard}
use Rattle.squall_board.specs.TakesLaws.{takes, same_told, report_board_is}

le_of : (a b : ℕ) → nat_le a b ≡ true → a ≤ b
le_of a b e = grind (arith, nat_tests)

lt_of : (a b : ℕ) → nat_lt a b ≡ true → a < b
lt_of a b e = grind (arith, nat_tests)

below_too : (u s count : ℕ) → s < count → nat_le u s ≡ true → nat_lt u count ≡ true
below_too u s count lt e = grind (arith, nat_tests)

le_itself : (n : ℕ) → nat_le n n ≡ true
le_itself n = grind (arith, nat_tests)

-- ---- a span in a set

-- all keys of a span are in a set exactly if they are in its first span that ends beyond the first of them
pub within_first : (ss : List Interval) (s t : Interval) → t.lo < t.hi → IsCanonical ss → first_span (spans_beyond t.lo ss) ≡ Some s → ((s.lo ≤ t.lo) × (t.hi ≤ s.hi)) ↔ ((k : ℕ) → span_has t k ≡ true → has ss k ≡ true)
within_first ss s t some c e =
    let l = first_cons (spans_beyond t.lo ss) s e in
    let d : IsCanonical (s ∷ l.0) = subst IsCanonical l.1 (canonical_beyond t.lo ss c) in
    let same : (k : ℕ) → t.lo ≤ k → has ss k ≡ has (s ∷ l.0) k = λ k from. sym (has_beyond t.lo k ss from) ∙ ap (λ (xs : List Interval). has xs k) l.1 in (
      (λ h k is.
          let low = le_of t.lo k (first_so _ _ is) in
          let high = lt_of k t.hi (second_so (nat_le t.lo k) _ is) in
          same k low ∙ has_in s l.0 k (omega (arith, h.0, low)) (omega (arith, h.1, high))),
      (λ all.
          let first : span_has s t.lo ≡ true = sym (has_first_beyond t.lo ss s c e) ∙ all t.lo (inside t t.lo (omega arith) some) in
          let low = le_of s.lo t.lo (first_so _ _ first) in
          let beyond = lt_of t.lo s.hi (second_so (nat_le s.lo t.lo) _ first) in (
            low,
            elim (cases_lt s.hi t.hi) [
              | inl lt ↦ absurd (true≢false (sym (all s.hi (inside t s.hi (omega (arith, beyond)) lt)) ∙ same s.hi (omega (arith, beyond)) ∙ has_after s l.0 s.hi (omega arith) ∙ has_below s.hi s.hi l.0 d.1 d.2 (omega arith)))
              | inr ge ↦ ge
            ],
          )),
    )

-- no set without a span beyond a key has a span from that key on
pub none_within : (ss : List Interval) (t : Interval) → t.lo < t.hi → first_span (spans_beyond t.lo ss) ≡ None → IsTrue false ↔ ((k : ℕ) → span_has t k ≡ true → has ss k ≡ true)
none_within ss t some e = (
  (λ (bad : IsTrue false). absurd (true≢false (sym bad))),
  (λ (all : (k : ℕ) → span_has t k ≡ true → has ss k ≡ true). absurd (true≢false (sym (all t.lo (inside t t.lo (omega arith) some)) ∙ has_none_beyond t.lo ss e))),
)

-- ---- what a report tells

same_number : (n m : ℕ) → (n == m) ≡ true → n ≡ m
same_number n m e = grind (arith, nat_tests)

number_itself : (n : ℕ) → (n == n) ≡ true
number_itself n = grind (arith, nat_tests)

all_three : (a b c : Bool) → a ≡ true → b ≡ true → c ≡ true → (a && (b && c)) ≡ true
all_three a b c p q r = ap (λ x. x && (b && c)) p ∙ ap (λ x. x && c) q ∙ r

both_true : (a b : Bool) → a ≡ true → b ≡ true → (a && b) ≡ true
both_true a b p q = ap (λ x. x && b) p ∙ q

cell_itself : (c : CellPlace) → is_same_cell c c ≡ true
cell_itself c = all_three (c.number == c.number) (c.sub == c.sub) (c.part == c.part) (number_itself c.number) (number_itself c.sub) (number_itself c.part)

same_place : (c d : CellPlace) → is_same_cell c d ≡ true → c ≡ d
same_place c d e =
    let x : c.number ≡ d.number = same_number c.number d.number (first_so _ _ e) in
    let y : c.sub ≡ d.sub = same_number c.sub d.sub (first_so _ _ (second_so (c.number == d.number) _ e)) in
    let z : c.part ≡ d.part = same_number c.part d.part (second_so (c.sub == d.sub) _ (second_so (c.number == d.number) _ e)) in
    λ i. place_at (x i) (y i) (z i)

nothing_issued : (b : BoardValue) (n : ℕ) → both_issued (issued b n) Unknown ≡ issued b n
nothing_issued b n = issued_neutral (issued b n)

pub tells_loaded : (b : BoardValue) (n s p : ℕ) (t : Interval) → ((k : ℕ) → span_has t k ≡ true → says b (LoadedKey (place_at n s p) k) ≡ true) ↔ TellsAll (told b) (told_by_report (Loaded n s p t))
tells_loaded b n s p t = (
  (λ all. record {
    facts = elim [
      | LoadedKey c k ↦ λ e. subst (λ d. says b (LoadedKey d k) ≡ true) (same_place (place_at n s p) c (first_so _ _ e)) (all k (second_so (is_same_cell (place_at n s p) c) _ e))
      | DonePart c ↦ λ e. absurd (true≢false (sym e))
      | OpenedSub m u ↦ λ e. absurd (true≢false (sym e))
    ];
    issues = nothing_issued b;
  }),
  (λ tells k is. tells.facts (LoadedKey (place_at n s p) k) (both_true (is_same_cell (place_at n s p) (place_at n s p)) (span_has t k) (cell_itself (place_at n s p)) is)),
)

pub tells_done : (b : BoardValue) (n s p : ℕ) → (says b (DonePart (place_at n s p)) ≡ true) ↔ TellsAll (told b) (told_by_report (Done n s p))
tells_done b n s p = (
  (λ is. record {
    facts = elim [
      | LoadedKey c k ↦ λ e. absurd (true≢false (sym e))
      | DonePart c ↦ λ e. subst (λ d. says b (DonePart d) ≡ true) (same_place (place_at n s p) c e) is
      | OpenedSub m u ↦ λ e. absurd (true≢false (sym e))
    ];
    issues = nothing_issued b;
  }),
  (λ tells. tells.facts (DonePart (place_at n s p)) (cell_itself (place_at n s p))),
)

pub tells_opened : (b : BoardValue) (n s count : ℕ) → ((u : ℕ) → says b (OpenedSub n u) ≡ nat_lt u count) → IsTrue (nat_lt s count) ↔ TellsAll (told b) (told_by_report (Opened n s))
tells_opened b n s count counts = (
  (λ lt. record {
    facts = elim [
      | LoadedKey c k ↦ λ e. absurd (true≢false (sym e))
      | DonePart c ↦ λ e. absurd (true≢false (sym e))
      | OpenedSub m u ↦ λ e. subst (λ x. says b (OpenedSub x u) ≡ true) (same_number n m (first_so _ _ e)) (counts u ∙ below_too u s count (lt_of s count lt) (second_so (n == m) _ e))
    ];
    issues = nothing_issued b;
  }),
  (λ tells. sym (counts s) ∙ tells.facts (OpenedSub n s) (both_true (n == n) (nat_le s s) (number_itself n) (le_itself s))),
)

pub tells_issued : (b : BoardValue) (n : ℕ) (q : PlanPair) → (both_issued (issued b n) (One q) ≡ issued b n) ↔ TellsAll (told b) (told_by_report (Issued n q))
tells_issued b n q = (
  (λ is. record {
    facts = elim [ LoadedKey c k ↦ λ e. absurd (true≢false (sym e)) | DonePart c ↦ λ e. absurd (true≢false (sym e)) | OpenedSub m u ↦ λ e. absurd (true≢false (sym e)) ];
    issues = λ m. elim (n == m) as (λ v. (n == m) ≡ v → both_issued (issued b m) (cond v (One q) Unknown) ≡ issued b m) [
      | true ↦ λ e. subst (λ x. both_issued (issued b x) (One q) ≡ issued b x) (same_number n m e) is
      | false ↦ λ e. nothing_issued b m
    ] refl;
  }),
  (λ tells. ap (λ v. both_issued (issued b n) (cond v (One q) Unknown)) (sym (number_itself n)) ∙ tells.issues n),
)

-- ---- one issue and what is issued

abbrev one_pair : PlanPair → Flat PlanPair
one_pair q = One q

pub unknown_lacks : (q : PlanPair) → IsTrue false ↔ (both_issued Unknown (One q) ≡ Unknown)
unknown_lacks q = ((λ (bad : IsTrue false). absurd (true≢false (sym bad))), (λ (e : both_issued Unknown (One q) ≡ Unknown). cc))

pub one_has : (p q : PlanPair) → IsTrue (is_same_pair p q) ↔ (both_issued (One p) (One q) ≡ One p)
one_has p q = at (is_same_pair p q)
  where
    at : (t : Bool) → IsTrue t ↔ (cond t (one_pair p) Clash ≡ One p)
    at true = ((λ is. refl), (λ e. refl))
    at false = ((λ (bad : IsTrue false). absurd (true≢false (sym bad))), (λ (e : cond false (one_pair p) Clash ≡ One p). cc))

-- ---- a board that takes what it tells already

or_same : (a b : Bool) → (b ≡ true → a ≡ true) → (a || b) ≡ a
or_same true b f = refl
or_same false true f = sym (f refl)
or_same false false f = refl

all_covered : (x y : BoardValue) → IsBoard x → IsBoard y → TellsAll (told x) (told y) → board_join x y ≡ x
all_covered x y a b t =
    let both = tells_both x y a.nested b.nested in
    same_board (board_join x y) x (board_laws.closed x y a.nested b.nested) a.nested (record {
      facts = λ f. both.facts f ∙ or_same (says x f) (says y f) (t.facts f);
      issues = λ n. both.issues n ∙ t.issues n;
    })

pub known_stays : (b : BoardValue) (r : ReportKind PlanPair) → IsBoard b → is_report r ≡ true → TellsAll (told b) (told_by_report r) → TakesReport b r b
known_stays b r is_b is_r tells =
    let d = report_board r in
    let is_d : IsBoard d = report_board_is r is_r in
    let same = report_tells r in
    let covers : TellsAll (told b) (told d) = record {
      facts = λ f e. tells.facts f (sym (same.facts f) ∙ e);
      issues = λ n. ap (both_issued (issued b n)) (same.issues n) ∙ tells.issues n;
    } in
    subst (λ v. TakesReport b r v) (all_covered b d is_b is_d covers) (takes b d (told_by_report r) is_b is_d same)

pub known_board_stays : (b d : BoardValue) → IsBoard b → IsBoard d → TellsAll (told b) (told d) → TakesBoard b d b
known_board_stays b d is_b is_d tells = subst (λ v. TakesBoard b d v) (all_covered b d is_b is_d tells) (takes b d (told d) is_b is_d (same_told (told d)))

pub iff_then : {P Q R : Type 0} → (P ↔ Q) → (Q ↔ R) → (P ↔ R)
iff_then f g = ((λ p. g.0 (f.0 p)), (λ r. f.1 (g.1 r)))

-- ---- a cell in a board

-- what the board has of the cell says each key of a span loaded exactly if the board does
pub loads_in : (b : BoardValue) (c : CellPlace) (there : CellValue) (t : Interval) → Some there ≡ cell_of b c
    → ((k : ℕ) → span_has t k ≡ true → has there.first k ≡ true) ↔ ((k : ℕ) → span_has t k ≡ true → says b (LoadedKey c k) ≡ true)
loads_in b c there t e = (
  (λ all k is. sym (load_found b c k (Some there) e) ∙ all k is),
  (λ all k is. load_found b c k (Some there) e ∙ all k is),
)

-- a board without the cell says none of its keys loaded
pub none_loaded : (b : BoardValue) (c : CellPlace) (t : Interval) → t.lo < t.hi → None ≡ cell_of b c → IsTrue false ↔ ((k : ℕ) → span_has t k ≡ true → says b (LoadedKey c k) ≡ true)
none_loaded b c t some e = (
  (λ (bad : IsTrue false). absurd (true≢false (sym bad))),
  (λ (all : (k : ℕ) → span_has t k ≡ true → says b (LoadedKey c k) ≡ true). absurd (true≢false (sym (all t.lo (inside t t.lo (omega arith) some)) ∙ sym (load_found b c t.lo None e)))),
)

pub placed_at : (c : CellPlace) (n s p : ℕ) → Some c ≡ place_of n s p → c ≡ place_at n s p
placed_at c n s p e = by (is_cell_place (place_at n s p)) e
  where
    by : (t : Bool) → Some c ≡ cond t (Some (place_at n s p)) None → c ≡ place_at n s p
    by true same = cc
    by false same = cc

-- the board says what a cell says, if its own cell has all keys, and is complete if the other one is
pub cell_told : (b : BoardValue) (c : CellPlace) (there cell : CellValue) → Some there ≡ cell_of b c → ((k : ℕ) → has cell.first k ≡ true → has there.first k ≡ true) → (cell.second ≡ true → there.second ≡ true)
    → (f : Fact) → cell_says c cell f ≡ true → says b f ≡ true
cell_told b c there cell e keys done (LoadedKey d k) is =
    subst (λ x. says b (LoadedKey x k) ≡ true) (same_place c d (first_so _ _ is)) (sym (load_found b c k (Some there) e) ∙ keys k (second_so (is_same_cell c d) _ is))
cell_told b c there cell e keys done (DonePart d) is =
    subst (λ x. says b (DonePart x) ≡ true) (same_place c d (first_so _ _ is)) (sym (done_found b c (Some there) e) ∙ done (second_so (is_same_cell c d) _ is))
cell_told b c there cell e keys done (OpenedSub n s) is = absurd (true≢false (sym is))

-- a board of one cell tells what that cell says
pub small_told : (b d : BoardValue) (n s p : ℕ) (cell : CellValue) → cells_in d ≡ (n, (s, (p, cell) ∷ []) ∷ []) ∷ [] → ((f : Fact) → cell_says (place_at n s p) cell f ≡ true → says b f ≡ true)
    → ((m u : ℕ) → says d (OpenedSub m u) ≡ false) → ((m : ℕ) → issued d m ≡ Unknown) → TellsAll (told b) (told d)
small_told b d n s p cell is tells closed silent = record {
  facts = elim [
    | LoadedKey c k ↦ λ e. tells (LoadedKey c k) (sym ((cell_tells (place_at n s p) cell).facts (LoadedKey c k)) ∙ sym (ap (λ (cs : Cells). says (board_of [] [] cs) (LoadedKey c k)) is) ∙ e)
    | DonePart c ↦ λ e. tells (DonePart c) (sym ((cell_tells (place_at n s p) cell).facts (DonePart c)) ∙ sym (ap (λ (cs : Cells). says (board_of [] [] cs) (DonePart c)) is) ∙ e)
    | OpenedSub m u ↦ λ e. absurd (true≢false (sym e ∙ closed m u))
  ];
  issues = λ m. ap (both_issued (issued b m)) (silent m) ∙ issued_neutral (issued b m);
}

either : (a b : Bool) (P : Type 0) → (a || b) ≡ true → (a ≡ true → P) → (b ≡ true → P) → P
either true b P e f g = f refl
either false b P e f g = g e

-- one more span whose keys are in the set
pub one_more_in : (set wanted now next : List Interval) (t : Interval) → now ≡ t ∷ next → ((k : ℕ) → span_has t k ≡ true → has set k ≡ true) → ((k : ℕ) → has wanted k ≡ true → (has now k ≡ true → has set k ≡ true) → has set k ≡ true)
    → (k : ℕ) → has wanted k ≡ true → (has next k ≡ true → has set k ≡ true) → has set k ≡ true
one_more_in set wanted now next t is here before k h rest = before k h (λ e. either (span_has t k) (has next k) (has set k ≡ true) (sym (ap (λ (l : List Interval). has l k) is) ∙ e) (here k) rest)
