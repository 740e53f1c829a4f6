-- The lists of a board fit into a frame if their bytes are few.
use Rattle.std.specs.Prelude.{◌≡◌, ◌≢◌, ℕ, zero, suc, ◌<◌, ◌≤◌, ◌+◌, ◌*◌, ◌==◌, ◌&&◌, ◌||◌, not, nat_lt, nat_le, Bool, true, cond, List, [], ◌∷◌, ◌++◌, length, Option, None, Some, refl}
use Rattle.std.proofs.Common.{ap, subst, ◌∙◌, arith, length-append, Less, Equal, Greater}
use Rattle.std.proofs.lemmas.Bool.Decides.{nat_tests}
use Rattle.std.specs.List.{flat_map, AllByRecursion}
use Rattle.std.specs.Cmp.{first_so}
use Rattle.std.specs.Ordering.{nat_cmp, is_lt, ordering_then}
use Rattle.squall_key.specs.Keys.{top, part_limit}
use Rattle.squall_span.specs.Spans.{Interval, Beyond, IsCanonical, EndsBy}
use Rattle.squall_join.specs.declared.flat.Flat.{Flat}
use Rattle.squall_join.specs.declared.flat.Flat.TheVariants.{Unknown, One, Clash}
use Rattle.squall_plan.specs.declared.range.PlanRange.{PlanRange}
use Rattle.squall_plan.specs.Arranged.{range_limit}
use Rattle.squall_plan.specs.Ranges.{IsTiling, DifferFrom, Differ, AreRanges, IsCanonical as IsPlanList}
use Rattle.squall_report.specs.Issues.{PlanPair}
use Rattle.squall_report.specs.Cells.{CellPlace, is_cell_place}
use Rattle.squall_board.specs.declared.opening.Opening.{Opening}
use Rattle.squall_board.specs.Boards.{BoardValue, IsBoard}
use Rattle.squall_board.specs.Listed.{CellEntry, IsCell, CellsRise, cells_of, IsOpening, OpeningsRise, openings_of, IssuesRise, issues_of}
use Rattle.squall_board.specs.ListedLaws.{all_weaker, openings_listed, issues_listed, cells_listed}
use Rattle.squall_wire.specs.Limits.{body_limit, word_limit, AreInTurn, FitsOpening, after_opening, FitsSpan, after_span, no_place, is_later, FitsCell, after_cell, PlanPoint, plan_start, is_other_part, FitsRange, after_range, FitsPlan, FitsIssued, FitsIssue, after_issue}
use Rattle.squall_wire.specs.Messages.{lists_of, spell_lists, AreLists}
use Rattle.squall_wire.specs.Spelling.{spell_list, spell_some, spell_opening, spell_span, spell_issue, spell_cell}
use Rattle.squall_wire.specs.Fits.{ArePlans, IsWordOpening, IsWordIssue, IsWordCell}

-- ---- openings

opening_fits : (last : ℕ) (o : Opening) → last < o.number → IsOpening o → IsWordOpening o → FitsOpening last o
opening_fits last o lt (a, b, c) word = record { word = word; range = grind (arith, nat_tests); order = grind (arith, nat_tests) }

pub openings_turn : (last : ℕ) (os : List Opening) → AllByRecursion (λ o. last < o.number) os → OpeningsRise os → AllByRecursion IsOpening os → AllByRecursion IsWordOpening os → AreInTurn FitsOpening after_opening last os
openings_turn last [] above rise within words = tt
openings_turn last (o ∷ os) above rise within words = (opening_fits last o above.0 within.0 words.0, openings_turn o.number os rise.0 rise.1 within.1 words.1)

-- ---- issues

issued_fits : (f : Flat PlanPair) → f ≢ Unknown → ArePlans f → FitsIssued f
issued_fits Unknown known plans = known refl
issued_fits (One pair) known plans = plans
issued_fits Clash known plans = tt

issue_fits : (last : ℕ) (e : ℕ × Flat PlanPair) → last < e.0 → 1 ≤ e.0 → e.1 ≢ Unknown → IsWordIssue e → FitsIssue last e
issue_fits last e lt some known word = record { word = word.word; range = grind (arith, nat_tests); order = grind (arith, nat_tests); issued = issued_fits e.1 known word.plans }

issues_turn : (last : ℕ) (es : List (ℕ × Flat PlanPair)) → AllByRecursion (λ e. last < e.0) es → IssuesRise es → AllByRecursion (λ e. 1 ≤ e.0) es → AllByRecursion (λ e. e.1 ≢ Unknown) es → AllByRecursion IsWordIssue es → AreInTurn FitsIssue after_issue last es
issues_turn last [] above rise within known words = tt
issues_turn last (e ∷ es) above rise within known words = (issue_fits last e above.0 within.0 known.0 words.0, issues_turn e.0 es rise.0 rise.1 within.1 known.1 words.1)

-- ---- spans

abbrev StartsFrom : ℕ → List Interval → Type 0
StartsFrom floor [] = Unit {0}
StartsFrom floor (s ∷ ss) = floor ≤ s.lo

starts_beyond : (h : ℕ) (ss : List Interval) → Beyond h ss → StartsFrom (h + 1) ss
starts_beyond h [] b = tt
starts_beyond h (s ∷ ss) b = omega arith

starts_somewhere : (ss : List Interval) → StartsFrom 0 ss
starts_somewhere [] = tt
starts_somewhere (s ∷ ss) = omega arith

span_fits : (floor : ℕ) (s : Interval) → floor ≤ s.lo → s.lo < s.hi → s.hi ≤ top → FitsSpan floor s
span_fits floor s from some ends = record { range = grind (arith, nat_tests); order = grind (arith, nat_tests) }

spans_turn : (floor : ℕ) (ss : List Interval) → StartsFrom floor ss → IsCanonical ss → EndsBy top ss → AreInTurn FitsSpan after_span floor ss
spans_turn floor [] from canonical ends = tt
spans_turn floor (s ∷ ss) from canonical ends = (span_fits floor s from canonical.0 ends.0, spans_turn (s.hi + 1) ss (starts_beyond s.hi ss canonical.1) canonical.2 ends.1)

-- ---- cells

first_later : (n : ℕ) → 1 ≤ n → nat_cmp 0 n ≡ Less
first_later zero some = absurd (omega arith)
first_later (suc n) some = ap (λ b. cond b Less (cond (0 == suc n) Equal Greater)) (below n)
  where
    below : (n : ℕ) → nat_lt 0 (suc n) ≡ true
    below n = grind (arith, nat_tests)

later_than_none : (c : CellPlace) → is_cell_place c ≡ true → is_later no_place c ≡ true
later_than_none c is = ap (λ o. is_lt (ordering_then o (ordering_then (nat_cmp 0 c.sub) (nat_cmp 0 c.part)))) (first_later c.number (grind (arith, nat_tests)))

abbrev FewSpans : CellEntry → Type 0
FewSpans c = length c.spans < word_limit

cell_fits : (last : CellPlace) (c : CellEntry) → is_later last c.cell ≡ true → IsCell c → IsWordCell c → FewSpans c → FitsCell last c
cell_fits last c later is word few = record {
  word = word;
  range = is.entry;
  order = later;
  spans = record { count = few; turn = spans_turn 0 c.spans (starts_somewhere c.spans) is.spans.0 is.spans.1 };
}

cells_turn : (last : CellPlace) (cs : List CellEntry) → AllByRecursion (λ c. is_later last c.cell ≡ true) cs → CellsRise cs → AllByRecursion IsCell cs → AllByRecursion IsWordCell cs → AllByRecursion FewSpans cs → AreInTurn FitsCell after_cell last cs
cells_turn last [] later rise within words few = tt
cells_turn last (c ∷ cs) later rise within words few = (cell_fits last c later.0 within.0 words.0 few.0, cells_turn c.cell cs rise.0 rise.1 within.1 words.1 few.1)

-- ---- plans

abbrev BeginsOther : Option ℕ → List PlanRange → Type 0
BeginsOther before [] = Unit {0}
BeginsOther before (r ∷ rs) = is_other_part before r.part ≡ true

next_other : (r : PlanRange) (rs : List PlanRange) → DifferFrom r rs → BeginsOther (Some r.part) rs × Differ rs
next_other r [] d = (tt, tt)
next_other r (s ∷ ss) d = (other r.part s.part d.0, d.1)
  where
    other : (a b : ℕ) → a ≢ b → not (a == b) ≡ true
    other a b n = grind (arith, nat_tests)

last_at_top : (hi : ℕ) (rs : List PlanRange) (left : ℕ) → IsTiling hi top rs → left ≡ suc (length rs) → ((hi == top) || not (left == 1)) ≡ true
last_at_top hi [] left tiles is = grind (arith, nat_tests)
last_at_top hi (r ∷ rs) left tiles is = grind (arith, nat_tests)

range_fits : (p : PlanPoint) (r : PlanRange) → r.span.lo ≡ p.from → r.span.lo < r.span.hi → r.span.hi ≤ top → r.part < part_limit → ((r.span.hi == top) || not (p.left == 1)) ≡ true → is_other_part p.before r.part ≡ true → FitsRange p r
range_fits p r from some ends part last other = record { from = from; range = both3 _ _ _ (le ends) last (lt part); order = both _ _ (lt (subst (λ n. n < r.span.hi) from some)) other }
  where
    le : {a b : ℕ} → a ≤ b → nat_le a b ≡ true
    le {a} {b} h = grind (arith, nat_tests)

    lt : {a b : ℕ} → a < b → nat_lt a b ≡ true
    lt {a} {b} h = grind (arith, nat_tests)

    both : (a b : Bool) → a ≡ true → b ≡ true → (a && b) ≡ true
    both a b x y = ap (λ v. v && b) x ∙ y

    both3 : (a b c : Bool) → a ≡ true → b ≡ true → c ≡ true → (a && (b && c)) ≡ true
    both3 a b c x y z = both a (b && c) x (both b c y z)

ranges_turn : (p : PlanPoint) (rs : List PlanRange) → p.left ≡ length rs → IsTiling p.from top rs → BeginsOther p.before rs → Differ rs → AreRanges rs → AreInTurn FitsRange after_range p rs
ranges_turn p [] left tiles other differ are = tt
ranges_turn p (r ∷ rs) left tiles other differ are =
    let next = next_other r rs differ in
    (range_fits p r tiles.0 tiles.1 are.0.1 are.0.2 (last_at_top r.span.hi rs p.left tiles.2 left) other, ranges_turn (after_range p r) rs (omega arith) tiles.2 next.0 next.1 are.1)

some_ranges : (rs : List PlanRange) → IsTiling 0 top rs → 1 ≤ length rs
some_ranges [] tiles = absurd (omega arith)
some_ranges (r ∷ rs) tiles = omega arith

begins_other : (rs : List PlanRange) → BeginsOther None rs
begins_other [] = tt
begins_other (r ∷ rs) = refl

-- the list of a plan fits
pub plan_fits : (rs : List PlanRange) → IsPlanList rs → AreRanges rs → length rs ≤ range_limit → FitsPlan rs
plan_fits rs is are few =
    let some : 1 ≤ length rs = some_ranges rs is.tiles in
    record { count = grind (arith, nat_tests); turn = ranges_turn (plan_start (length rs)) rs refl is.tiles (begins_other rs) is.differ are }

-- ---- how many

fewer_items : {X : Type 0} (f : X → List ℕ) (xs : List X) → ((x : X) → 1 ≤ length (f x)) → length xs ≤ length (flat_map f xs)
fewer_items f [] some = omega arith
fewer_items f (x ∷ xs) some = omega (arith, fewer_items f xs some, some x, length-append (f x) (flat_map f xs))

longer_list : {X : Type 0} (f : X → List ℕ) (xs : List X) → length (flat_map f xs) ≤ length (spell_list f xs)
longer_list f xs = omega arith

few_listed : {X : Type 0} (f : X → List ℕ) (xs : List X) → ((x : X) → 1 ≤ length (f x)) → length (spell_list f xs) ≤ body_limit → length xs < word_limit
few_listed f xs some short = omega (arith, fewer_items f xs some, longer_list f xs)

few_some : {X : Type 0} (f : X → List ℕ) (xs : List X) → ((x : X) → 1 ≤ length (f x)) → length (spell_some f xs) ≤ body_limit → length xs < word_limit
few_some f [] some short = omega arith
few_some f (x ∷ xs) some short = few_listed f (x ∷ xs) some short

spans_length : (ss : List Interval) → length ss ≤ length (flat_map spell_span ss)
spans_length ss = fewer_items spell_span ss (λ s. omega arith)

cell_length : (c : CellEntry) → length c.spans ≤ length (spell_cell c)
cell_length c = omega (arith, spans_length c.spans)

spans_bytes : (ss : List Interval) → length (flat_map spell_span ss) ≡ 16 * length ss
spans_bytes [] = refl
spans_bytes (s ∷ ss) = omega (arith, spans_bytes ss)

-- a cell of too many spans is too long
pub many_spans : (old : List ℕ) (c : CellEntry) → 65536 < length c.spans → body_limit < length (old ++ spell_cell c)
many_spans old c many = omega (arith, spans_bytes c.spans, length-append old (spell_cell c))

few_spans : (cs : List CellEntry) (n : ℕ) → n < word_limit → length (flat_map spell_cell cs) ≤ n → AllByRecursion FewSpans cs
few_spans [] n lt short = tt
few_spans (c ∷ cs) n lt short =
    let parts = length-append (spell_cell c) (flat_map spell_cell cs) in
    (omega (arith, cell_length c), few_spans cs n lt (omega arith))

-- the lists of a board whose bytes are few are in order and within their limits
pub board_lists_fit : (b : BoardValue) → IsBoard b → AllByRecursion IsWordOpening (openings_of b) → AllByRecursion IsWordIssue (issues_of b) → AllByRecursion IsWordCell (cells_of b) → length (spell_lists (lists_of b)) ≤ body_limit → AreLists (lists_of b)
board_lists_fit b is openings issues cells short =
    let os = openings_listed b is in
    let es = issues_listed b is in
    let cs = cells_listed b is in
    let a = length-append (spell_list spell_opening (openings_of b)) (spell_some spell_issue (issues_of b) ++ spell_list spell_cell (cells_of b)) in
    let z = length-append (spell_some spell_issue (issues_of b)) (spell_list spell_cell (cells_of b)) in
    record {
      openings = record {
        count = few_listed spell_opening (openings_of b) (λ o. omega arith) (omega arith);
        turn = openings_turn 0 (openings_of b) (all_weaker IsOpening (λ o. 0 < o.number) (openings_of b) os.within (λ o w. omega (arith, w.0))) os.rise os.within openings;
      };
      issues = record {
        count = few_some spell_issue (issues_of b) (λ e. omega arith) (omega arith);
        turn = issues_turn 0 (issues_of b) (all_weaker (λ e. 1 ≤ e.0) (λ e. 0 < e.0) (issues_of b) es.within (λ e w. omega arith)) es.rise es.within es.known issues;
      };
      cells = record {
        count = few_listed spell_cell (cells_of b) (λ c. omega arith) (omega arith);
        turn = cells_turn no_place (cells_of b) (all_weaker IsCell (λ c. is_later no_place c.cell ≡ true) (cells_of b) cs.within (λ c w. later_than_none c.cell (first_so _ _ w.entry))) cs.rise cs.within cells (few_spans (cells_of b) body_limit (omega arith) (omega (arith, longer_list spell_cell (cells_of b))));
      };
    }
