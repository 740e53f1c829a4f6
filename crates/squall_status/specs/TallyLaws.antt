-- A join of boards tells at most as much as both, in numbers.
use Rattle.std.specs.Prelude.{◌≡◌, ℕ, ◌+◌, ◌≤◌, max, nat_lt, true, false, length, List, [], ◌∷◌, ◌++◌, refl, if◌then◌else◌}
use Rattle.std.proofs.Common.{◌∙◌, arith, length-append}
use Rattle.std.proofs.lemmas.List.Sums.{sum_by-cons, sum_by-append}
use Rattle.std.specs.declared.cmp.Ordering.TheVariants.{Less, Equal, Greater}
use Rattle.std.specs.Ordering.{nat_cmp}
use Rattle.std.specs.List.{sum_by}
use Rattle.std.specs.FinMap.Entries.{by_order}
use Rattle.squall_span.specs.Spans.{Interval, hull, insert_span, union}
use Rattle.squall_join.specs.declared.flat.Flat.{Flat}
use Rattle.squall_join.specs.Entries.{merge_step, merged}
use Rattle.squall_report.specs.Issues.{PlanPair}
use Rattle.squall_report.specs.Cells.{place_at}
use Rattle.squall_report.specs.Told.{both_issued}
use Rattle.squall_board.specs.Boards.{CellValue, Parts, Subs, Cells, Openings, BoardValue, openings_in, issues_in, cells_in, cell_join, board_join}
use Rattle.squall_board.specs.Listed.{CellEntry, cell_entry, cells_of_parts, cells_of_subs, cells_of_numbers, cells_of, openings_of_counts, openings_of, issues_of}
use Rattle.squall_status.specs.Tallies.{at_most_64_bits, spans_of, sub_plans_of, tally_of, tally_sum, IsWithin}

-- ---- weights of maps

-- the sum of the weights of the values of a map
abbrev weight : {K V : Type 0} → (V → ℕ) → List (K × V) → ℕ
weight w [] = 0
weight w (e ∷ es) = w e.1 + weight w es

-- no join weighs more than both
abbrev IsLight : {V : Type 0} → (V → ℕ) → (V → V → V) → Type 0
IsLight {V} w join = (x y : V) → w (join x y) ≤ w x + w y

module _ {V : Type 0} (w : V → ℕ) (join : V → V → V) (light : IsLight w join) where
  step_light : (e : ℕ × V) (es : List (ℕ × V)) → ((fs : List (ℕ × V)) → weight w (merged nat_cmp join es fs) ≤ weight w es + weight w fs)
      → (fs : List (ℕ × V)) → weight w (merge_step nat_cmp join e es (merged nat_cmp join es) fs) ≤ weight w (e ∷ es) + weight w fs
  step_light e es on [] = omega arith
  step_light e es on (f ∷ fs) =
      elim (nat_cmp e.0 f.0) as (λ r. weight w (by_order r (e ∷ merged nat_cmp join es (f ∷ fs)) ((e.0, join e.1 f.1) ∷ merged nat_cmp join es fs) (f ∷ merge_step nat_cmp join e es (merged nat_cmp join es) fs)) ≤ weight w (e ∷ es) + weight w (f ∷ fs)) [
        | Less ↦ omega (arith, on (f ∷ fs))
        | Equal ↦ omega (arith, on fs, light e.1 f.1)
        | Greater ↦ omega (arith, step_light e es on fs)
      ]

  -- a joined map weighs no more than both
  merged_light : IsLight (weight w) (merged nat_cmp join)
  merged_light [] fs = omega arith
  merged_light (e ∷ es) fs = step_light e es (merged_light es) fs

-- ---- spans

insert_length : (s : Interval) (ss : List Interval) → length (insert_span s ss) ≤ length ss + 1
insert_length s [] = omega arith
insert_length s (t ∷ ts) =
    elim (nat_lt s.hi t.lo) as (λ b. length (if b then s ∷ t ∷ ts else if nat_lt t.hi s.lo then t ∷ insert_span s ts else insert_span (hull s t) ts) ≤ length (t ∷ ts) + 1) [
      | true ↦ omega arith
      | false ↦ elim (nat_lt t.hi s.lo) as (λ b. length (if b then t ∷ insert_span s ts else insert_span (hull s t) ts) ≤ length (t ∷ ts) + 1) [
        | true ↦ omega (arith, insert_length s ts)
        | false ↦ omega (arith, insert_length (hull s t) ts)
      ]
    ]

union_length : (ss ts : List Interval) → length (union ss ts) ≤ length ss + length ts
union_length ss [] = omega arith
union_length ss (t ∷ ts) = omega (arith, insert_length t (union ss ts), union_length ss ts)

-- ---- cells

-- what a list of cells weighs: so much for each cell
module _ (F : List CellEntry → ℕ) (u : CellValue → ℕ) (none : F [] ≡ 0) (all : (xs ys : List CellEntry) → F (xs ++ ys) ≡ F xs + F ys)
    (one : (n s p : ℕ) (v : CellValue) → F (cell_entry (place_at n s p) v ∷ []) ≡ u v) where
  parts_weigh : (n s : ℕ) (parts : Parts) → F (cells_of_parts n s parts) ≡ weight u parts
  parts_weigh n s [] = none
  parts_weigh n s (e ∷ es) =
      omega (arith, all (cell_entry (place_at n s e.0) e.1 ∷ []) (cells_of_parts n s es), one n s e.0 e.1, parts_weigh n s es)

  subs_weigh : (n : ℕ) (subs : Subs) → F (cells_of_subs n subs) ≡ weight (weight u) subs
  subs_weigh n [] = none
  subs_weigh n (e ∷ es) = omega (arith, all (cells_of_parts n e.0 e.1) (cells_of_subs n es), parts_weigh n e.0 e.1, subs_weigh n es)

  cells_weigh : (cells : Cells) → F (cells_of_numbers cells) ≡ weight (weight (weight u)) cells
  cells_weigh [] = none
  cells_weigh (e ∷ es) = omega (arith, all (cells_of_subs e.0 e.1) (cells_of_numbers es), subs_weigh e.0 e.1, cells_weigh es)

  joined_cells_weigh : IsLight u cell_join → (a b : BoardValue) → F (cells_of (board_join a b)) ≤ F (cells_of a) + F (cells_of b)
  joined_cells_weigh light a b =
      let joined = merged_light (weight (weight u)) (merged nat_cmp (merged nat_cmp cell_join)) (merged_light (weight u) (merged nat_cmp cell_join) (merged_light u cell_join light)) (cells_in a) (cells_in b) in
      omega (arith, joined, cells_weigh (cells_in a), cells_weigh (cells_in b), cells_weigh (cells_in (board_join a b)))

cells_light : IsLight (λ (c : CellValue). 1) cell_join
cells_light x y = omega arith

spans_light : IsLight (λ (c : CellValue). length c.first) cell_join
spans_light x y = union_length x.first y.first

fewer_cells : (a b : BoardValue) → length (cells_of (board_join a b)) ≤ length (cells_of a) + length (cells_of b)
fewer_cells = joined_cells_weigh length (λ c. 1) refl length-append (λ n s p v. refl) cells_light

fewer_spans : (a b : BoardValue) → sum_by spans_of (cells_of (board_join a b)) ≤ sum_by spans_of (cells_of a) + sum_by spans_of (cells_of b)
fewer_spans = joined_cells_weigh (sum_by spans_of) (λ c. length c.first) refl (sum_by-append spans_of) (λ n s p v. sum_by-cons spans_of (cell_entry (place_at n s p) v) [] ∙ omega arith) spans_light

-- ---- openings and issues

opened_weigh : (counts : Openings) → sum_by sub_plans_of (openings_of_counts counts) ≡ weight (λ c. c) counts
opened_weigh [] = refl
opened_weigh (e ∷ es) = omega (arith, sum_by-cons sub_plans_of (record { number = e.0; count = e.1 }) (openings_of_counts es), opened_weigh es)

counts_light : IsLight (λ (c : ℕ). c) max
counts_light x y = omega arith

fewer_opened : (a b : BoardValue) → sum_by sub_plans_of (openings_of (board_join a b)) ≤ sum_by sub_plans_of (openings_of a) + sum_by sub_plans_of (openings_of b)
fewer_opened a b =
    omega (arith, merged_light (λ c. c) max counts_light (openings_in a) (openings_in b), opened_weigh (openings_in a), opened_weigh (openings_in b), opened_weigh (openings_in (board_join a b)))

issues_weigh : (es : List (ℕ × Flat PlanPair)) → length es ≡ weight (λ i. 1) es
issues_weigh [] = refl
issues_weigh (e ∷ es) = omega (arith, issues_weigh es)

issues_light : IsLight (λ (i : Flat PlanPair). 1) both_issued
issues_light x y = omega arith

fewer_issues : (a b : BoardValue) → length (issues_of (board_join a b)) ≤ length (issues_of a) + length (issues_of b)
fewer_issues a b =
    omega (arith, merged_light (λ i. 1) both_issued issues_light (issues_in a) (issues_in b), issues_weigh (issues_in a), issues_weigh (issues_in b), issues_weigh (issues_in (board_join a b)))

-- ---- tallies

fewer_at_most : (n a b : ℕ) → n ≤ a + b → at_most_64_bits n ≤ at_most_64_bits a + at_most_64_bits b
fewer_at_most n a b le = omega arith

-- a join of two boards tells at most as much as both
pub join_within_sum : (a b : BoardValue) → IsWithin (tally_of (board_join a b)) (tally_sum (tally_of a) (tally_of b))
join_within_sum a b = record {
  cells = fewer_cells a b;
  spans = fewer_at_most _ _ _ (fewer_spans a b);
  opened = fewer_at_most _ _ _ (fewer_opened a b);
  issues = fewer_issues a b;
}
