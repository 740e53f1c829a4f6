-- Lists of a frame are lists as a board has them: they rise, and each item lies within its limits.
use Rattle.std.specs.Prelude.{◌≡◌, ◌≢◌, ℕ, ◌<◌, ◌≤◌, ◌+◌, true, List, [], ◌∷◌, refl}
use Rattle.std.proofs.Common.{sym, ap, subst, arith, Less, Equal, Greater}
use Rattle.std.proofs.lemmas.Bool.{true≢false}
use Rattle.std.proofs.lemmas.Bool.Decides.{nat_tests}
use Rattle.std.specs.List.{AllByRecursion}
use Rattle.std.specs.Cmp.{IsTotalOrder, nat_cmp_total, on_total, then_total}
use Rattle.std.specs.declared.cmp.Ordering.{Ordering}
use Rattle.std.specs.Ordering.{is_lt}
use Rattle.squall_key.specs.Keys.{top}
use Rattle.squall_span.specs.Spans.{Interval, Beyond, IsCanonical, EndsBy}
use Rattle.squall_join.specs.declared.flat.Flat.{Flat}
use Rattle.squall_join.specs.declared.flat.Flat.TheVariants.{Unknown}
use Rattle.squall_report.specs.Issues.{PlanPair}
use Rattle.squall_report.specs.Cells.{CellPlace, cell_cmp}
use Rattle.squall_board.specs.declared.opening.Opening.{Opening}
use Rattle.squall_board.specs.Listed.{CellEntry, IsCell, CellsRise, IsOpening, OpeningsRise, IssuesRise}
use Rattle.squall_board.specs.ListedLaws.{all_weaker}
use Rattle.squall_wire.specs.Limits.{AreInTurn, FitsOpening, after_opening, FitsSpan, after_span, is_later, FitsCell, after_cell, FitsIssued, FitsIssue, after_issue}

-- ---- openings

pub record AreRisenOpenings (last : ℕ) (os : List Opening) : Type 0 where
  pub above : AllByRecursion (λ o. last < o.number) os
  pub rise : OpeningsRise os
  pub within : AllByRecursion IsOpening os

opening_is : (last : ℕ) (o : Opening) → FitsOpening last o → IsOpening o
opening_is last o fits = let h = fits.range in (grind (arith, nat_tests), grind (arith, nat_tests), grind (arith, nat_tests))

opening_above : (last : ℕ) (o : Opening) → FitsOpening last o → last < o.number
opening_above last o fits = let h = fits.order in grind (arith, nat_tests)

pub openings_rise : (last : ℕ) (os : List Opening) → AreInTurn FitsOpening after_opening last os → AreRisenOpenings last os
openings_rise last [] turn = record { above = tt; rise = tt; within = tt }
openings_rise last (o ∷ os) turn =
    let rest = openings_rise o.number os turn.1 in
    let lt : last < o.number = opening_above last o turn.0 in
    record {
      above = (lt, all_weaker (λ q. o.number < q.number) (λ q. last < q.number) os rest.above (λ q h. omega arith));
      rise = (rest.above, rest.rise);
      within = (opening_is last o turn.0, rest.within);
    }

-- ---- issues

pub record AreRisenIssues (last : ℕ) (es : List (ℕ × Flat PlanPair)) : Type 0 where
  pub above : AllByRecursion (λ e. last < e.0) es
  pub rise : IssuesRise es
  pub within : AllByRecursion (λ e. 1 ≤ e.0) es
  pub known : AllByRecursion (λ e. e.1 ≢ Unknown) es

issue_above : (last : ℕ) (e : ℕ × Flat PlanPair) → FitsIssue last e → last < e.0
issue_above last e fits = let h = fits.order in grind (arith, nat_tests)

issue_some : (last : ℕ) (e : ℕ × Flat PlanPair) → FitsIssue last e → 1 ≤ e.0
issue_some last e fits = let h = fits.range in grind (arith, nat_tests)

pub issues_rise : (last : ℕ) (es : List (ℕ × Flat PlanPair)) → AreInTurn FitsIssue after_issue last es → AreRisenIssues last es
issues_rise last [] turn = record { above = tt; rise = tt; within = tt; known = tt }
issues_rise last (e ∷ es) turn =
    let rest = issues_rise e.0 es turn.1 in
    let lt : last < e.0 = issue_above last e turn.0 in
    record {
      above = (lt, all_weaker (λ d. e.0 < d.0) (λ d. last < d.0) es rest.above (λ d h. omega arith));
      rise = (rest.above, rest.rise);
      within = (issue_some last e turn.0, rest.within);
      known = (λ same. subst FitsIssued same turn.0.issued, rest.known);
    }

-- ---- spans

pub record AreRisenSpans (floor : ℕ) (ss : List Interval) : Type 0 where
  pub canonical : IsCanonical ss
  pub ends : EndsBy top ss
  pub beyond : (h : ℕ) → h < floor → Beyond h ss

pub spans_rise : (floor : ℕ) (ss : List Interval) → AreInTurn FitsSpan after_span floor ss → AreRisenSpans floor ss
spans_rise floor [] turn = record { canonical = tt; ends = tt; beyond = λ h lt. tt }
spans_rise floor (s ∷ ss) turn =
    let rest = spans_rise (s.hi + 1) ss turn.1 in
    record {
      canonical = (some floor s turn.0, rest.beyond s.hi (omega arith), rest.canonical);
      ends = (ends floor s turn.0, rest.ends);
      beyond = λ h lt. from floor s turn.0 h lt;
    }
  where
    some : (floor : ℕ) (s : Interval) → FitsSpan floor s → s.lo < s.hi
    some floor s fits = let h = fits.order in grind (arith, nat_tests)

    ends : (floor : ℕ) (s : Interval) → FitsSpan floor s → s.hi ≤ top
    ends floor s fits = let h = fits.range in grind (arith, nat_tests)

    from : (floor : ℕ) (s : Interval) → FitsSpan floor s → (h : ℕ) → h < floor → h < s.lo
    from floor s fits h lt = let o = fits.order in grind (arith, nat_tests)

-- ---- cells

cell_total : IsTotalOrder cell_cmp
cell_total = then_total (on_total (λ (c : CellPlace). c.number) nat_cmp_total) (then_total (on_total (λ (c : CellPlace). c.sub) nat_cmp_total) (on_total (λ (c : CellPlace). c.part) nat_cmp_total))

less : (o : Ordering) → is_lt o ≡ true → o ≡ Less
less Less e = refl
less Equal e = absurd (true≢false (sym e))
less Greater e = absurd (true≢false (sym e))

later_still : (a b c : CellPlace) → is_later a b ≡ true → is_later b c ≡ true → is_later a c ≡ true
later_still a b c x y = ap is_lt (cell_total.trans a b c (less (cell_cmp a b) x) (less (cell_cmp b c) y))

pub record AreRisenCells (last : CellPlace) (cs : List CellEntry) : Type 0 where
  pub above : AllByRecursion (λ c. is_later last c.cell ≡ true) cs
  pub rise : CellsRise cs
  pub within : AllByRecursion IsCell cs

cell_is : (last : CellPlace) (c : CellEntry) → FitsCell last c → IsCell c
cell_is last c fits =
    let spans = spans_rise 0 c.spans fits.spans.turn in
    record { entry = fits.range; spans = (spans.canonical, spans.ends) }

pub cells_rise : (last : CellPlace) (cs : List CellEntry) → AreInTurn FitsCell after_cell last cs → AreRisenCells last cs
cells_rise last [] turn = record { above = tt; rise = tt; within = tt }
cells_rise last (c ∷ cs) turn =
    let rest = cells_rise c.cell cs turn.1 in
    record {
      above = (turn.0.order, all_weaker (λ d. is_later c.cell d.cell ≡ true) (λ d. is_later last d.cell ≡ true) cs rest.above (λ d h. later_still last c.cell d.cell turn.0.order h));
      rise = (rest.above, rest.rise);
      within = (cell_is last c turn.0, rest.within);
    }
