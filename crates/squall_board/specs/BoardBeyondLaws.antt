-- The laws of what one board tells beyond another (this project).
use Rattle.std.specs.Prelude.{◌≡◌, ℕ, ◌≤◌, nat_lt, Bool, true, false, not, ◌&&◌, ◌||◌, cond, T, List, [], ◌∷◌, Option, None, Some, ◌⊎◌, refl}
use Rattle.std.proofs.Common.{sym, ap, ◌∙◌, inl, inr, ⊎_elim}
use Rattle.std.proofs.Math.Bool.{and-true}
use Rattle.std.specs.Ordering.{nat_cmp}
use Rattle.std.specs.Cmp.{nat_cmp_total}
use Rattle.std.specs.FinMap.Entries.{find}
use Rattle.std.proofs.lemmas.Map.Lookups.{exact_unsigned}
use Rattle.squall_span.specs.Spans.{has}
use Rattle.squall_span.specs.SpanLaws.{has-minus}
use Rattle.squall_join.specs.declared.flat.Flat.{Flat}
use Rattle.squall_join.specs.declared.flat.Flat.TheVariants.{Unknown}
use Rattle.squall_join.specs.Laws.{JoinLaws, Covers}
use Rattle.squall_join.specs.BasicLaws.{max_laws, flag_laws}
use Rattle.squall_join.specs.SetLaws.{set_laws}
use Rattle.squall_join.specs.Pairs.{pair_of}
use Rattle.squall_join.specs.PairLaws.{pair_laws}
use Rattle.squall_join.specs.Units.{whole_unit, key_unit, pair_unit, entry_unit}
use Rattle.squall_join.specs.Entries.{merged, IsKept, IsMap}
use Rattle.squall_join.specs.MapLaws.{find_All, Found, values_of_kept, map_laws}
use Rattle.squall_join.specs.Facts.{Factual, flag_says, pair_says, found_says, map_says}
use Rattle.squall_join.specs.FactLaws.{flag_factual, set_factual, pair_factual, map_factual}
use Rattle.squall_join.specs.Rests.{BeyondLaws, flat_covered, found_beyond, map_beyond}
use Rattle.squall_join.specs.BeyondLaws.{max_beyond_laws, flag_beyond_laws, set_beyond_laws, flat_beyond_laws, pair_beyond_laws}
use Rattle.squall_join.specs.MapBeyondLaws.{find_beyond, looked_map_beyond, map_beyond_laws}
use Rattle.squall_report.specs.Issues.{PlanPair, is_same_pair}
use Rattle.squall_report.specs.IssueLaws.{same_pairs_are_equal}
use Rattle.squall_report.specs.Cells.{CellPlace}
use Rattle.squall_report.specs.Facts.{Fact, LoadedKey, DonePart, OpenedSub}
use Rattle.squall_report.specs.Told.{both_issued, SameTold}
use Rattle.squall_report.specs.ToldLaws.{issue_laws}
use Rattle.squall_board.specs.Boards.{CellValue, Parts, Subs, BoardValue, openings_in, issues_in, cells_in, cell_is, cell_bottom, cell_join, issue_is, is_nested, empty_board, board_join, issued, says, IsBoard}
use Rattle.squall_board.specs.BoardLaws.{cell_laws, parts_laws, subs_laws, cells_laws, tells_both, same_board, opened_found}
use Rattle.squall_board.specs.BoardBeyond.{issue_beyond, TellsBeyond, cell_beyond, cell_covered, parts_beyond, parts_covered, subs_beyond, subs_covered, cells_beyond, board_beyond, board_covered}

-- ---- the units of its parts, and their laws

abbrev cell_unit : CellValue → CellValue → Type 0
cell_unit = pair_unit key_unit whole_unit [] false

abbrev parts_unit : Parts → Parts → Type 0
parts_unit = entry_unit nat_cmp cell_bottom cell_unit

abbrev subs_unit : Subs → Subs → Type 0
subs_unit = entry_unit nat_cmp [] parts_unit

-- the units of a board: one count of openings, what is issued under one number, one key loaded in one cell, or one cell done
abbrev board_unit : BoardValue → BoardValue → Type 0
board_unit = pair_unit (pair_unit (entry_unit nat_cmp 0 whole_unit) (entry_unit nat_cmp Unknown whole_unit) [] []) (entry_unit nat_cmp [] subs_unit) (pair_of [] []) []

cell_beyond_laws : BeyondLaws cell_is cell_bottom cell_join cell_covered cell_unit cell_beyond
cell_beyond_laws = pair_beyond_laws set_laws flag_laws set_beyond_laws flag_beyond_laws

parts_beyond_laws : BeyondLaws (IsMap nat_cmp cell_is cell_bottom) [] (merged nat_cmp cell_join) parts_covered parts_unit parts_beyond
parts_beyond_laws = map_beyond_laws nat_cmp_total exact_unsigned cell_laws cell_beyond_laws

subs_beyond_laws : BeyondLaws (IsMap nat_cmp (IsMap nat_cmp cell_is cell_bottom) []) [] (merged nat_cmp (merged nat_cmp cell_join)) subs_covered subs_unit subs_beyond
subs_beyond_laws = map_beyond_laws nat_cmp_total exact_unsigned parts_laws parts_beyond_laws

issue_beyond_laws : BeyondLaws issue_is Unknown both_issued (flat_covered is_same_pair) whole_unit issue_beyond
issue_beyond_laws = flat_beyond_laws same_pairs_are_equal

pub board_beyond_laws : BeyondLaws is_nested empty_board board_join board_covered board_unit board_beyond
board_beyond_laws = pair_beyond_laws
    (pair_laws (map_laws nat_cmp_total exact_unsigned max_laws) (map_laws nat_cmp_total exact_unsigned issue_laws))
    cells_laws
    (pair_beyond_laws (map_laws nat_cmp_total exact_unsigned max_laws) (map_laws nat_cmp_total exact_unsigned issue_laws) (map_beyond_laws nat_cmp_total exact_unsigned max_laws max_beyond_laws) (map_beyond_laws nat_cmp_total exact_unsigned issue_laws issue_beyond_laws))
    (map_beyond_laws nat_cmp_total exact_unsigned subs_laws subs_beyond_laws)

-- ---- its facts

-- what is left has the facts that the other lacks
abbrev Leaves : {X F : Type 0} → (X → Type 0) → (X → X → X) → (X → F → Bool) → Type 0
Leaves {X} {F} P beyond says = (x y : X) → P x → P y → (f : F) → says (beyond x y) f ≡ (says x f && not (says y f))

module _ {V F : Type 0} {is_value : V → Type 0} {bottom : V} {join : V → V → V} {covered : V → V → Bool} {unit : V → V → Type 0} {beyond : V → V → V} {says : V → F → Bool} (m : BeyondLaws is_value bottom join covered unit beyond) (facts : Factual is_value bottom join says) (leaves : Leaves is_value beyond says) where
  found_leaves : (x y : Option V) → Found is_value x → Found is_value y → (f : F) → found_says says (found_beyond covered beyond x y) f ≡ (found_says says x f && not (found_says says y f))
  found_leaves None y a b f = refl
  found_leaves (Some x) None a b f = sym (and-true (says x f))
  found_leaves (Some x) (Some y) a b f = elim (covered x y) as (λ t. covered x y ≡ t → found_says says (cond t None (Some (beyond x y))) f ≡ (says x f && not (says y f))) [
    | true ↦ λ t. sym (facts.at_bottom f) ∙ ap (λ z. says z f) (sym (m.nothing x y a b t)) ∙ leaves x y a b f
    | false ↦ λ t. leaves x y a b f
  ] refl

  map_leaves : Leaves (IsMap nat_cmp is_value bottom) (map_beyond nat_cmp covered beyond) (map_says nat_cmp says)
  map_leaves x y a b q =
      ap (λ o. found_says says o q.1) (find_beyond nat_cmp covered beyond nat_cmp_total exact_unsigned q.0 x y a.sorted)
      ∙ found_leaves (find nat_cmp q.0 x) (find nat_cmp q.0 y) (find_All nat_cmp is_value q.0 x (values_of_kept is_value bottom x a.kept)) (find_All nat_cmp is_value q.0 y (values_of_kept is_value bottom y b.kept)) q.1

cell_leaves : Leaves cell_is cell_beyond (pair_says has flag_says)
cell_leaves x y a b (inl k) = has-minus x.first y.first k
cell_leaves x y a b (inr u) = refl

cell_factual : Factual cell_is cell_bottom cell_join (pair_says has flag_says)
cell_factual = pair_factual set_factual flag_factual

parts_factual : Factual (IsMap nat_cmp cell_is cell_bottom) [] (merged nat_cmp cell_join) (map_says nat_cmp (pair_says has flag_says))
parts_factual = map_factual nat_cmp_total exact_unsigned cell_laws cell_factual

subs_factual : Factual (IsMap nat_cmp (IsMap nat_cmp cell_is cell_bottom) []) [] (merged nat_cmp (merged nat_cmp cell_join)) (map_says nat_cmp (map_says nat_cmp (pair_says has flag_says)))
subs_factual = map_factual nat_cmp_total exact_unsigned parts_laws parts_factual

cells_leave : Leaves (IsMap nat_cmp (IsMap nat_cmp (IsMap nat_cmp cell_is cell_bottom) []) []) cells_beyond (map_says nat_cmp (map_says nat_cmp (map_says nat_cmp (pair_says has flag_says))))
cells_leave = map_leaves subs_beyond_laws subs_factual (map_leaves parts_beyond_laws parts_factual (map_leaves cell_beyond_laws cell_factual cell_leaves))

-- what is left of a board tells what the board tells beyond the other
pub beyond_tells : (a b : BoardValue) → is_nested a → is_nested b → TellsBeyond a b (board_beyond a b)
beyond_tells a b x y = record {
  loaded = λ p k. cells_leave (cells_in a) (cells_in b) x.1 y.1 (p.number, (p.sub, (p.part, inl k)));
  done = λ p. cells_leave (cells_in a) (cells_in b) x.1 y.1 (p.number, (p.sub, (p.part, inr tt)));
  opened = λ n. looked_map_beyond nat_cmp_total exact_unsigned max_laws max_beyond_laws n (openings_in a) (openings_in b) x.0.0 y.0.0;
  issues = λ n. looked_map_beyond nat_cmp_total exact_unsigned issue_laws issue_beyond_laws n (issues_in a) (issues_in b) x.0.1 y.0.1;
}

or_whole : (a b : Bool) → (a || b) ≡ a → b ≡ true → a ≡ true
or_whole true b e h = refl
or_whole false b e h = sym e ∙ h

-- it is a board
pub beyond_is : (a b : BoardValue) → IsBoard a → IsBoard b → IsBoard (board_beyond a b)
beyond_is a b x y =
    let rest : is_nested (board_beyond a b) = board_beyond_laws.closed a b x.nested y.nested in
    let both = tells_both a (board_beyond a b) x.nested rest in
    record {
      nested = rest;
      facts = λ f e. x.facts f (or_whole (says a f) (says (board_beyond a b) f) (sym (both.facts f) ∙ ap (λ v. says v f) (board_beyond_laws.at_most a b x.nested y.nested)) e);
      issues = λ n. ⊎_elim (λ le. inl le) (λ u. inr ((beyond_tells a b x.nested y.nested).issues n ∙ ap (λ v. issue_beyond v (issued b n)) u)) (x.issues n);
    }

says_same : (a b c d : BoardValue) → TellsBeyond a b c → TellsBeyond a b d → (f : Fact) → says c f ≡ says d f
says_same a b c d p q (LoadedKey e k) = p.loaded e k ∙ sym (q.loaded e k)
says_same a b c d p q (DonePart e) = p.done e ∙ sym (q.done e)
says_same a b c d p q (OpenedSub n s) = opened_found c n s ∙ ap (nat_lt s) (p.opened n ∙ sym (q.opened n)) ∙ sym (opened_found d n s)

-- what a board tells beyond another is one board
pub one_rest : (a b c d : BoardValue) → IsBoard c → IsBoard d → TellsBeyond a b c → TellsBeyond a b d → c ≡ d
one_rest a b c d x y p q = same_board c d x.nested y.nested (record { facts = says_same a b c d p q; issues = λ n. p.issues n ∙ sym (q.issues n) })

-- a board tells nothing beyond a board that covers it
pub rest_of_covered : (a b c : BoardValue) → IsBoard a → IsBoard b → IsBoard c → board_join b a ≡ b → TellsBeyond a b c → c ≡ empty_board
rest_of_covered a b c x y z covers p =
    one_rest a b c (board_beyond a b) z (beyond_is a b x y) p (beyond_tells a b x.nested y.nested)
    ∙ board_beyond_laws.nothing a b x.nested y.nested ((board_beyond_laws.tested a b x.nested y.nested).1 covers)
