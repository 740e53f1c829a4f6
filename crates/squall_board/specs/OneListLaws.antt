-- A list of the openings, the issues or the cells of a board is the board's own list of them.
use Rattle.std.specs.Prelude.{◌≡◌, ◌≢◌, ℕ, ◌<◌, ◌==◌, Bool, true, false, cond, ◌||◌, ◌&&◌, T, map, List, [], ◌∷◌, Some, refl}
use Rattle.std.proofs.Common.{sym, ap, subst, ◌∙◌, arith, inl, inr, Less, Equal, Greater}
use Rattle.std.proofs.lemmas.Bool.{true≢false}
use Rattle.std.proofs.lemmas.Bool.Decides.{nat_tests}
use Rattle.std.proofs.lemmas.Map.Lookups.{exact_unsigned, CmpEqualImpliesEq}
use Rattle.std.specs.List.{list_any, AllByRecursion}
use Rattle.std.specs.declared.cmp.Ordering.{Ordering}
use Rattle.std.specs.Ordering.{nat_cmp, is_eq, is_lt, ordering_then}
use Rattle.std.specs.Cmp.{IsTotalOrder, nat_cmp_total, on_total, then_total, first_so, second_so}
use Rattle.std.specs.FinMap.Entries.{find, is_sorted, below_all}
use Rattle.squall_join.specs.declared.flat.Flat.{Flat}
use Rattle.squall_join.specs.declared.flat.Flat.TheVariants.{Unknown}
use Rattle.squall_join.specs.Basic.{is_max}
use Rattle.squall_join.specs.Entries.{IsKept, IsMap, merged}
use Rattle.squall_join.specs.LookedLaws.{same_looked_map}
use Rattle.squall_join.specs.Facts.{Factual, max_says, map_says, found_says}
use Rattle.squall_join.specs.FactLaws.{flag_factual, set_factual, pair_factual, map_factual}
use Rattle.squall_report.specs.Issues.{PlanPair}
use Rattle.squall_report.specs.Cells.{CellPlace, place_at, is_same_cell, cell_cmp}
use Rattle.squall_report.specs.ToldLaws.{any_flat}
use Rattle.squall_board.specs.declared.opening.Opening.{Opening}
use Rattle.squall_board.specs.Boards.{CellValue, BoardValue, openings_in, issues_in, cell_is, cell_bottom, cell_join, issue_is, IsBoard}
use Rattle.squall_board.specs.BoardLaws.{openings_factual, cell_laws}
use Rattle.squall_board.specs.Listed.{CellEntry, IsCell, cell_entry, entry_value, has_spans, cells_of, ComesBefore, CellsRise, AreCells, openings_of, openings_of_counts, IsOpening, OpeningsRise, AreOpenings, issues_of, IssuesRise, AreIssues}
use Rattle.squall_board.specs.ListedLaws.{or_none, all_weaker, all_map, any_none, any_map, cmp_eq, KeysRise, says_some, issue_some, CellFact, says_cell, cells_listed}

-- ---- lists that rise are maps

true_T : (b : Bool) → b ≡ true → T b
true_T b e = subst T (sym e) tt

both_T : (a b : Bool) → T a → T b → T (a && b)
both_T true b p q = q
both_T false b p q = absurd p

lt_below : (x y : ℕ) → x < y → is_lt (nat_cmp x y) ≡ true
lt_below x y lt = grind (arith, nat_tests)

keys_below : {V : Type 0} (k : ℕ) (es : List (ℕ × V)) → AllByRecursion (λ e. k < e.0) es → T (below_all nat_cmp k es)
keys_below k [] h = tt
keys_below k (e ∷ es) h = both_T _ _ (true_T _ (lt_below k e.0 h.0)) (keys_below k es h.1)

keys_sorted : {V : Type 0} (es : List (ℕ × V)) → KeysRise es → T (is_sorted nat_cmp es)
keys_sorted [] h = tt
keys_sorted (e ∷ es) h = both_T _ _ (keys_below e.0 es h.0) (keys_sorted es h.1)

-- ---- openings

abbrev as_count : Opening → ℕ × ℕ
as_count o = (o.number, o.count)

counts_back : (os : List Opening) → openings_of_counts (map as_count os) ≡ os
counts_back [] = refl
counts_back (o ∷ os) = ap (λ qs. o ∷ qs) (counts_back os)

counts_rise : (os : List Opening) → OpeningsRise os → KeysRise (map as_count os)
counts_rise [] h = tt
counts_rise (o ∷ os) h = (all_map as_count (λ d. o.number < d.0) os h.0, counts_rise os h.1)

kept_count : (o : Opening) → IsOpening o → IsKept is_max 0 o.count
kept_count o (a, b, c) = (grind arith, λ e. omega (arith, b, e))

pub one_openings : (b : BoardValue) (os : List Opening) → IsBoard b → AreOpenings b os → os ≡ openings_of b
one_openings b os is x =
    sym (counts_back os)
    ∙ ap openings_of_counts (openings_factual.same (map as_count os) (openings_in b)
    (record { sorted = keys_sorted (map as_count os) (counts_rise os x.rise); kept = all_map as_count (λ d. IsKept is_max 0 d.1) os (all_weaker IsOpening (λ o. IsKept is_max 0 o.count) os x.within kept_count) })
    is.nested.0.0
    (λ q. says_some max_says (map as_count os) (counts_rise os x.rise) q.0 q.1
    ∙ any_map as_count (λ e. (e.0 == q.0) && max_says e.1 q.1) os
    ∙ sym (x.opened q.0 q.1)))

-- ---- issues

issues_rise : (es : List (ℕ × Flat PlanPair)) → IssuesRise es → KeysRise es
issues_rise [] h = tt
issues_rise (e ∷ es) h = (h.0, issues_rise es h.1)

pub one_issues : (b : BoardValue) (es : List (ℕ × Flat PlanPair)) → IsBoard b → AreIssues b es → es ≡ issues_of b
one_issues b es is x = same_looked_map nat_cmp_total exact_unsigned es (issues_in b)
    (record { sorted = keys_sorted es (issues_rise es x.rise); kept = all_weaker (λ e. e.1 ≢ Unknown) (λ e. IsKept issue_is Unknown e.1) es x.known (λ e k. (any_flat e.1, k)) })
    is.nested.0.1
    (λ n. issue_some es (issues_rise es x.rise) n ∙ sym (x.issued n))

-- ---- the order of cells

eq_then : (o p : Ordering) → is_eq (ordering_then o p) ≡ (is_eq o && is_eq p)
eq_then Less p = refl
eq_then Equal p = refl
eq_then Greater p = refl

less_not_eq : (o : Ordering) → is_lt o ≡ true → is_eq o ≡ false
less_not_eq Less e = refl
less_not_eq Equal e = absurd (true≢false (sym e))
less_not_eq Greater e = refl

same_by_order : (q c : CellPlace) → is_eq (cell_cmp q c) ≡ is_same_cell c q
same_by_order q c =
    eq_then (nat_cmp q.number c.number) (ordering_then (nat_cmp q.sub c.sub) (nat_cmp q.part c.part))
    ∙ ap (λ b. is_eq (nat_cmp q.number c.number) && b) (eq_then (nat_cmp q.sub c.sub) (nat_cmp q.part c.part))
    ∙ ap (λ a. a && (is_eq (nat_cmp q.sub c.sub) && is_eq (nat_cmp q.part c.part))) (cmp_eq q.number c.number)
    ∙ ap (λ a. (c.number == q.number) && (a && is_eq (nat_cmp q.part c.part))) (cmp_eq q.sub c.sub)
    ∙ ap (λ a. (c.number == q.number) && ((c.sub == q.sub) && a)) (cmp_eq q.part c.part)

same_number : (n m : ℕ) → (n == m) ≡ true → n ≡ m
same_number n m e = grind (arith, nat_tests)

same_place : (c d : CellPlace) → is_same_cell c d ≡ true → c ≡ d
same_place c d e =
    let x : c.number ≡ d.number = same_number c.number d.number (first_so _ _ e) in
    let y : c.sub ≡ d.sub = same_number c.sub d.sub (first_so _ _ (second_so (c.number == d.number) _ e)) in
    let z : c.part ≡ d.part = same_number c.part d.part (second_so (c.sub == d.sub) _ (second_so (c.number == d.number) _ e)) in
    λ i. place_at (x i) (y i) (z i)

cell_total : IsTotalOrder cell_cmp
cell_total = then_total (on_total (λ (c : CellPlace). c.number) nat_cmp_total) (then_total (on_total (λ (c : CellPlace). c.sub) nat_cmp_total) (on_total (λ (c : CellPlace). c.part) nat_cmp_total))

cell_exact : CmpEqualImpliesEq cell_cmp
cell_exact c d e = sym (same_place d c (sym (same_by_order c d) ∙ ap is_eq e))

-- ---- cells that rise are a map by their places

abbrev by_place : CellEntry → CellPlace × CellValue
by_place c = (c.cell, entry_value c)

abbrev entries_of : List (CellPlace × CellValue) → List CellEntry
entries_of es = map (λ e. cell_entry e.0 e.1) es

places_back : (cs : List CellEntry) → entries_of (map by_place cs) ≡ cs
places_back [] = refl
places_back (c ∷ cs) = ap (λ ds. c ∷ ds) (places_back cs)

places_below : (c : CellEntry) (cs : List CellEntry) → AllByRecursion (ComesBefore c) cs → T (below_all cell_cmp c.cell (map by_place cs))
places_below c [] h = tt
places_below c (d ∷ cs) h = both_T _ _ (true_T _ h.0) (places_below c cs h.1)

places_sorted : (cs : List CellEntry) → CellsRise cs → T (is_sorted cell_cmp (map by_place cs))
places_sorted [] h = tt
places_sorted (c ∷ cs) h = both_T _ _ (places_below c cs h.0) (places_sorted cs h.1)

kept_cell : (c : CellEntry) → IsCell c → IsKept cell_is cell_bottom (entry_value c)
kept_cell c is = ((is.spans, tt), λ e. true≢false (sym (second_so _ _ is.entry) ∙ ap (λ (v : CellValue). v.second || has_spans v.first) e))

places_map : (cs : List CellEntry) → CellsRise cs → AllByRecursion IsCell cs → IsMap cell_cmp cell_is cell_bottom (map by_place cs)
places_map cs rise within = record { sorted = places_sorted cs rise; kept = all_map by_place (λ e. IsKept cell_is cell_bottom e.1) cs (all_weaker IsCell (λ c. IsKept cell_is cell_bottom (entry_value c)) cs within kept_cell) }

-- no later cell is the same
none_after : (q : CellPlace) (f : CellFact) (c : CellEntry) (cs : List CellEntry) → c.cell ≡ q → AllByRecursion (ComesBefore c) cs → list_any (λ d. is_same_cell d.cell q && says_cell (entry_value d) f) cs ≡ false
none_after q f c cs e h = any_none (λ d. is_same_cell d.cell q && says_cell (entry_value d) f) cs (all_weaker (ComesBefore c) (λ d. (is_same_cell d.cell q && says_cell (entry_value d) f) ≡ false) cs h
    (λ d lt. ap (λ b. b && says_cell (entry_value d) f) (sym (same_by_order q d.cell) ∙ ap (λ x. is_eq (cell_cmp x d.cell)) (sym e) ∙ less_not_eq (cell_cmp c.cell d.cell) lt)))

-- the map says what some cell says
places_say : (cs : List CellEntry) → CellsRise cs → (q : CellPlace) (f : CellFact) → map_says cell_cmp says_cell (map by_place cs) (q, f) ≡ list_any (λ d. is_same_cell d.cell q && says_cell (entry_value d) f) cs
places_say [] h q f = refl
places_say (c ∷ cs) h q f =
    ap (λ b. found_says says_cell (cond b (Some (entry_value c)) (find cell_cmp q (map by_place cs))) f) (same_by_order q c.cell)
    ∙ elim (is_same_cell c.cell q) as (λ b. is_same_cell c.cell q ≡ b → found_says says_cell (cond b (Some (entry_value c)) (find cell_cmp q (map by_place cs))) f ≡ ((b && says_cell (entry_value c) f) || list_any (λ d. is_same_cell d.cell q && says_cell (entry_value d) f) cs)) [
      | true ↦ λ t. or_none (says_cell (entry_value c) f) _ (none_after q f c cs (same_place c.cell q t) h.0)
      | false ↦ λ t. places_say cs h.1 q f
    ] refl

places_factual : Factual (IsMap cell_cmp cell_is cell_bottom) [] (merged cell_cmp cell_join) (map_says cell_cmp says_cell)
places_factual = map_factual cell_total cell_exact cell_laws (pair_factual set_factual flag_factual)

same_cells : (b : BoardValue) (cs ds : List CellEntry) → AreCells b cs → AreCells b ds → cs ≡ ds
same_cells b cs ds x y = sym (places_back cs) ∙ ap entries_of (places_factual.same (map by_place cs) (map by_place ds) (places_map cs x.rise x.within) (places_map ds y.rise y.within) (λ q. at q.0 q.1)) ∙ places_back ds
  where
    at : (q : CellPlace) (f : CellFact) → map_says cell_cmp says_cell (map by_place cs) (q, f) ≡ map_says cell_cmp says_cell (map by_place ds) (q, f)
    at q (inl k) = places_say cs x.rise q (inl k) ∙ sym (x.loaded q k) ∙ y.loaded q k ∙ sym (places_say ds y.rise q (inl k))
    at q (inr u) = places_say cs x.rise q (inr u) ∙ sym (x.done q) ∙ y.done q ∙ sym (places_say ds y.rise q (inr u))

pub one_cells : (b : BoardValue) (cs : List CellEntry) → IsBoard b → AreCells b cs → cs ≡ cells_of b
one_cells b cs is x = same_cells b cs (cells_of b) x (cells_listed b is)
