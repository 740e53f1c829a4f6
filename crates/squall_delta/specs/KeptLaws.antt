-- What a digest lacks of a board is a repair.
use Rattle.std.specs.Prelude.{◌≡◌, ℕ, ◌<◌, ◌≤◌, ◌==◌, max, Bool, true, false, not, cond, nat_lt, if◌then◌else◌, map, List, [], ◌∷◌, Option, None, Some, refl}
use Rattle.std.proofs.Common.{sym, ap, subst, ◌∙◌, arith}
use Rattle.std.proofs.lemmas.Bool.Decides.{nat_tests}
use Rattle.std.proofs.lemmas.Map.Lookups.{exact_unsigned}
use Rattle.std.specs.List.{AllByRecursion}
use Rattle.std.specs.Cmp.{nat_cmp_total}
use Rattle.std.specs.Ordering.{nat_cmp}
use Rattle.std.specs.FinMap.Entries.{find}
use Rattle.squall_join.specs.declared.flat.Flat.{Flat}
use Rattle.squall_join.specs.declared.flat.Flat.TheVariants.{Unknown, One, Clash}
use Rattle.squall_join.specs.Laws.{JoinLaws}
use Rattle.squall_join.specs.Basic.{is_max}
use Rattle.squall_join.specs.BasicLaws.{max_laws}
use Rattle.squall_join.specs.Entries.{merged, IsMap, IsKept}
use Rattle.squall_join.specs.MapLaws.{map_laws, find_All, Found, values_of_kept}
use Rattle.squall_join.specs.Looked.{looked}
use Rattle.squall_join.specs.LookedLaws.{looked_merged}
use Rattle.squall_report.specs.Issues.{PlanPair}
use Rattle.squall_report.specs.Cells.{CellPlace}
use Rattle.squall_report.specs.Told.{both_issued}
use Rattle.squall_report.specs.ToldLaws.{issue_laws}
use Rattle.squall_board.specs.Boards.{Parts, Subs, Cells, BoardValue, openings_in, issues_in, cells_in, cell_is, cell_bottom, cell_join, issue_is, is_nested, empty_board, board_join, opened_count, issued, found_in, cell_of, opening_board, issue_board, row_board, IsBoard}
use Rattle.squall_board.specs.BoardLaws.{board_laws, cell_laws, opening_board_is, issue_board_is, issue_tells}
use Rattle.squall_board.specs.Listed.{IsOpening, openings_of, issues_of}
use Rattle.squall_board.specs.ListedLaws.{KeysRise, keys_rise, all_weaker, cmp_eq, same_key, openings_within, issues_within}
use Rattle.squall_board.specs.RowLaws.{row_nested}
use Rattle.squall_wire.specs.DigestValue.{DigestValue}
use Rattle.squall_delta.specs.Hashes.{row_hash, issue_hash, row_in}
use Rattle.squall_delta.specs.HashLaws.{all_true}
use Rattle.squall_delta.specs.Repairs.{count_in, shows_issue, shows_row, IsRepair}
use Rattle.squall_delta.specs.Kept.{with_kept, is_newer, lacks_issue, lacks_row, with_newer_openings, with_lacking_issues, with_lacking_rows, with_lacking_cells, lacking}

-- ---- looks at a board

abbrev pub parts_are : Parts → Type 0
parts_are = IsMap nat_cmp cell_is cell_bottom

abbrev pub parts_join : Parts → Parts → Parts
parts_join = merged nat_cmp cell_join

parts_laws : JoinLaws parts_are [] parts_join
parts_laws = map_laws nat_cmp_total exact_unsigned cell_laws

subs_laws : JoinLaws (IsMap nat_cmp parts_are []) [] (merged nat_cmp parts_join)
subs_laws = map_laws nat_cmp_total exact_unsigned parts_laws

-- what is looked up on a board, and is joined if boards are
pub record IsLook {A : Type 0} (is_value : A → Type 0) (bottom : A) (join : A → A → A) (look : BoardValue → A) : Type 0 where
  pub laws : JoinLaws is_value bottom join
  pub none : look empty_board ≡ bottom
  pub value : (b : BoardValue) → is_nested b → is_value (look b)
  pub joined : (x y : BoardValue) → is_nested x → is_nested y → look (board_join x y) ≡ join (look x) (look y)

looked_value : {V : Type 0} (P : V → Type 0) (bottom : V) (o : Option V) → P bottom → Found P o → P (looked bottom o)
looked_value P bottom None b f = b
looked_value P bottom (Some v) b f = f

value_at : {V : Type 0} (is_value : V → Type 0) (bottom : V) (q : ℕ) (es : List (ℕ × V)) → is_value bottom → IsMap nat_cmp is_value bottom es → is_value (looked bottom (find nat_cmp q es))
value_at is_value bottom q es b m = looked_value is_value bottom (find nat_cmp q es) b (find_All nat_cmp is_value q es (values_of_kept is_value bottom es m.kept))

opened_look : (n : ℕ) → IsLook is_max 0 max (λ b. opened_count b n)
opened_look n = record {
  laws = max_laws;
  none = refl;
  value = λ b is. value_at is_max 0 n (openings_in b) max_laws.bottom_is is.0.0;
  joined = λ x y a b. looked_merged nat_cmp_total max_laws n (openings_in x) (openings_in y) a.0.0 b.0.0;
}

issued_look : (n : ℕ) → IsLook issue_is Unknown both_issued (λ b. issued b n)
issued_look n = record {
  laws = issue_laws;
  none = refl;
  value = λ b is. value_at issue_is Unknown n (issues_in b) issue_laws.bottom_is is.0.1;
  joined = λ x y a b. looked_merged nat_cmp_total issue_laws n (issues_in x) (issues_in y) a.0.1 b.0.1;
}

-- no map has what the empty map has
found_there : {V : Type 0} (q : ℕ) (o : Option (List (ℕ × V))) → found_in q o ≡ find nat_cmp q (looked [] o)
found_there q None = refl
found_there q (Some es) = refl

row_twice : (b : BoardValue) (n s : ℕ) → row_in b n s ≡ looked [] (find nat_cmp s (looked [] (find nat_cmp n (cells_in b))))
row_twice b n s = ap (looked []) (found_there s (find nat_cmp n (cells_in b)))

-- a cell is found in its row
pub cell_in_row : (b : BoardValue) (c : CellPlace) → cell_of b c ≡ find nat_cmp c.part (row_in b c.number c.sub)
cell_in_row b c = found_there c.part (found_in c.sub (find nat_cmp c.number (cells_in b)))

subs_at : (b : BoardValue) (n : ℕ) → is_nested b → IsMap nat_cmp parts_are [] (looked [] (find nat_cmp n (cells_in b)))
subs_at b n is = value_at (IsMap nat_cmp parts_are []) [] n (cells_in b) subs_laws.bottom_is is.1

pub row_look : (n s : ℕ) → IsLook parts_are [] parts_join (λ b. row_in b n s)
row_look n s = record {
  laws = parts_laws;
  none = refl;
  value = λ b is. subst parts_are (sym (row_twice b n s)) (value_at parts_are [] s (looked [] (find nat_cmp n (cells_in b))) parts_laws.bottom_is (subs_at b n is));
  joined = λ x y a b.
      row_twice (board_join x y) n s
      ∙ ap (λ es. looked [] (find nat_cmp s es)) (looked_merged nat_cmp_total subs_laws n (cells_in x) (cells_in y) a.1 b.1)
      ∙ looked_merged nat_cmp_total parts_laws s (looked [] (find nat_cmp n (cells_in x))) (looked [] (find nat_cmp n (cells_in y))) (subs_at x n a) (subs_at y n b)
      ∙ sym (λ i. parts_join (row_twice x n s i) (row_twice y n s i));
}

-- ---- what is seen of items

-- the join of the kept items' values
abbrev pub seen : {X A : Type 0} → (X → Bool) → (X → A) → A → (A → A → A) → List X → A
seen keep at bottom join [] = bottom
seen keep at bottom join (x ∷ xs) = join (if keep x then at x else bottom) (seen keep at bottom join xs)

either : {A : Type 0} (P : A → Type 0) (k : Bool) (a b : A) → P a → P b → P (if k then a else b)
either P true a b p q = p
either P false a b p q = q

seen_map : {X Y A : Type 0} (f : X → Y) (keep : Y → Bool) (at : Y → A) (bottom : A) (join : A → A → A) (xs : List X) → seen keep at bottom join (map f xs) ≡ seen (λ x. keep (f x)) (λ x. at (f x)) bottom join xs
seen_map f keep at bottom join [] = refl
seen_map f keep at bottom join (x ∷ xs) = ap (join (if keep (f x) then at (f x) else bottom)) (seen_map f keep at bottom join xs)

-- the item of a key, if it is kept
abbrev pub at_found : {V A : Type 0} → (ℕ × V → Bool) → (ℕ × V → A) → A → ℕ → Option V → A
at_found keep at bottom q None = bottom
at_found keep at bottom q (Some v) = if keep (q, v) then at (q, v) else bottom

module _ {A : Type 0} (is_value : A → Type 0) (bottom : A) (join : A → A → A) (l : JoinLaws is_value bottom join) where
  left_neutral : (x : A) → is_value x → join bottom x ≡ x
  left_neutral x v = l.comm bottom x l.bottom_is v ∙ l.neutral x v

  seen_value : {X : Type 0} (keep : X → Bool) (at : X → A) (xs : List X) → AllByRecursion (λ x. is_value (at x)) xs → is_value (seen keep at bottom join xs)
  seen_value keep at [] v = l.bottom_is
  seen_value keep at (x ∷ xs) v = l.closed _ _ (either is_value (keep x) (at x) bottom v.0 l.bottom_is) (seen_value keep at xs v.1)

  -- nothing is seen of items without a value
  seen_none : {X : Type 0} (keep : X → Bool) (at : X → A) (xs : List X) → AllByRecursion (λ x. at x ≡ bottom) xs → seen keep at bottom join xs ≡ bottom
  seen_none keep at [] n = refl
  seen_none keep at (x ∷ xs) n =
      ap (λ v. join v (seen keep at bottom join xs)) (either (λ v. v ≡ bottom) (keep x) (at x) bottom n.0 refl)
      ∙ ap (join bottom) (seen_none keep at xs n.1)
      ∙ l.neutral bottom l.bottom_is

  -- of items by rising keys only that of the key is seen
  seen_found : {V : Type 0} (keep : ℕ × V → Bool) (at : ℕ × V → A) (q : ℕ) → ((e : ℕ × V) → (e.0 == q) ≡ false → at e ≡ bottom) → (es : List (ℕ × V)) → KeysRise es → AllByRecursion (λ e. is_value (at e)) es
      → seen keep at bottom join es ≡ at_found keep at bottom q (find nat_cmp q es)
  seen_found keep at q other [] r v = refl
  seen_found {V} keep at q other (e ∷ es) r v =
      elim (e.0 == q) as (λ b. (e.0 == q) ≡ b → join (if keep e then at e else bottom) (seen keep at bottom join es) ≡ at_found keep at bottom q (cond b (Some e.1) (find nat_cmp q es))) [
        | true ↦ λ t. ap (join (if keep e then at e else bottom)) (seen_none keep at es (all_weaker (λ d. e.0 < d.0) (λ d. at d ≡ bottom) es r.0 (λ d lt. other d (later e.0 q d.0 t lt))))
            ∙ l.neutral _ (either is_value (keep e) (at e) bottom v.0 l.bottom_is)
            ∙ ap (λ k. if keep (k, e.1) then at (k, e.1) else bottom) (key_of e.0 q t)
        | false ↦ λ t. ap (λ x. join x (seen keep at bottom join es)) (either (λ x. x ≡ bottom) (keep e) (at e) bottom (other e t) refl)
            ∙ left_neutral _ (seen_value keep at es v.1)
            ∙ seen_found keep at q other es r.1 v.1
      ] refl
      ∙ sym (ap (λ b. at_found keep at bottom q (cond b (Some e.1) (find nat_cmp q es))) (cmp_eq q e.0))
    where
      key_of : (k q : ℕ) → (k == q) ≡ true → k ≡ q
      key_of k q t = grind (arith, nat_tests)

      later : (k q d : ℕ) → (k == q) ≡ true → k < d → (d == q) ≡ false
      later k q d t lt = grind (arith, nat_tests)

-- ---- boards with kept items

nested_kept : {X : Type 0} (keep : X → Bool) (make : X → BoardValue) (b : BoardValue) (xs : List X) → is_nested b → AllByRecursion (λ x. is_nested (make x)) xs → is_nested (with_kept keep make b xs)
nested_kept keep make b [] n a = n
nested_kept keep make b (x ∷ xs) n a = nested_kept keep make (if keep x then board_join b (make x) else b) xs (either is_nested (keep x) (board_join b (make x)) b (board_laws.closed b (make x) n a.0) n) a.1

module _ {A : Type 0} (is_value : A → Type 0) (bottom : A) (join : A → A → A) (look : BoardValue → A) (l : IsLook is_value bottom join look) where
  values : {X : Type 0} (make : X → BoardValue) (xs : List X) → AllByRecursion (λ x. is_nested (make x)) xs → AllByRecursion (λ x. is_value (look (make x))) xs
  values make xs a = all_weaker (λ x. is_nested (make x)) (λ x. is_value (look (make x))) xs a (λ x n. l.value (make x) n)

  -- what is looked up is joined with what is seen of the items
  look_kept : {X : Type 0} (keep : X → Bool) (make : X → BoardValue) (b : BoardValue) (xs : List X) → is_nested b → AllByRecursion (λ x. is_nested (make x)) xs
      → look (with_kept keep make b xs) ≡ join (look b) (seen keep (λ x. look (make x)) bottom join xs)
  look_kept keep make b [] n a = sym (l.laws.neutral (look b) (l.value b n))
  look_kept keep make b (x ∷ xs) n a =
      let rest = seen keep (λ x. look (make x)) bottom join xs in
      let value : is_value rest = seen_value is_value bottom join l.laws keep (λ x. look (make x)) xs (values make xs a.1) in
      elim (keep x) as (λ k. look (with_kept keep make (if k then board_join b (make x) else b) xs) ≡ join (look b) (join (if k then look (make x) else bottom) rest)) [
        | true ↦ look_kept keep make (board_join b (make x)) xs (board_laws.closed b (make x) n a.0) a.1
            ∙ ap (λ v. join v rest) (l.joined b (make x) n a.0)
            ∙ l.laws.assoc (look b) (look (make x)) rest (l.value b n) (l.value (make x) a.0) value
        | false ↦ look_kept keep make b xs n a.1
            ∙ ap (join (look b)) (sym (left_neutral is_value bottom join l.laws rest value))
      ]

  -- a board shows the same as before if the items show nothing
  look_same : {X : Type 0} (keep : X → Bool) (make : X → BoardValue) (b : BoardValue) (xs : List X) → is_nested b → AllByRecursion (λ x. is_nested (make x)) xs → ((x : X) → look (make x) ≡ bottom) → look (with_kept keep make b xs) ≡ look b
  look_same keep make b xs n a none = look_kept keep make b xs n a ∙ ap (join (look b)) (seen_none is_value bottom join l.laws keep (λ x. look (make x)) xs (all_true (λ x. look (make x) ≡ bottom) none xs)) ∙ l.laws.neutral (look b) (l.value b n)

-- ---- boards with rows of cells

abbrev AreRowsNested : Cells → Type 0
AreRowsNested numbers = AllByRecursion (λ e. AllByRecursion (λ f. is_nested (row_board e.0 f.0 f.1)) e.1) numbers

nested_cells : (d : DigestValue) (b : BoardValue) (es : Cells) → is_nested b → AreRowsNested es → is_nested (with_lacking_cells d b es)
nested_cells d b [] n a = n
nested_cells d b (e ∷ es) n a = nested_cells d (with_lacking_rows d e.0 b e.1) es (nested_kept (lacks_row d e.0) (λ f. row_board e.0 f.0 f.1) b e.1 n a.0) a.1

module _ {A : Type 0} (is_value : A → Type 0) (bottom : A) (join : A → A → A) (look : BoardValue → A) (l : IsLook is_value bottom join look) (d : DigestValue) where
  -- what is seen of the rows of a number
  abbrev seen_rows : ℕ × Subs → A
  seen_rows e = seen (lacks_row d e.0) (λ f. look (row_board e.0 f.0 f.1)) bottom join e.1

  rows_value : (es : Cells) → AreRowsNested es → AllByRecursion (λ e. is_value (seen_rows e)) es
  rows_value es a = all_weaker (λ e. AllByRecursion (λ f. is_nested (row_board e.0 f.0 f.1)) e.1) (λ e. is_value (seen_rows e)) es a
      (λ e n. seen_value is_value bottom join l.laws (lacks_row d e.0) (λ f. look (row_board e.0 f.0 f.1)) e.1 (values is_value bottom join look l (λ f. row_board e.0 f.0 f.1) e.1 n))

  look_cells : (b : BoardValue) (es : Cells) → is_nested b → AreRowsNested es → look (with_lacking_cells d b es) ≡ join (look b) (seen (λ e. true) seen_rows bottom join es)
  look_cells b [] n a = sym (l.laws.neutral (look b) (l.value b n))
  look_cells b (e ∷ es) n a =
      let rest = seen (λ e. true) seen_rows bottom join es in
      let made = nested_kept (lacks_row d e.0) (λ f. row_board e.0 f.0 f.1) b e.1 n a.0 in
      look_cells (with_lacking_rows d e.0 b e.1) es made a.1
      ∙ ap (λ v. join v rest) (look_kept is_value bottom join look l (lacks_row d e.0) (λ f. row_board e.0 f.0 f.1) b e.1 n a.0)
      ∙ l.laws.assoc (look b) (seen_rows e) rest (l.value b n) (rows_value (e ∷ es) a).0 (seen_value is_value bottom join l.laws (λ e. true) seen_rows es (rows_value es a.1))

  same_cells : (b : BoardValue) (es : Cells) → is_nested b → AreRowsNested es → ((n s : ℕ) (parts : Parts) → look (row_board n s parts) ≡ bottom) → look (with_lacking_cells d b es) ≡ look b
  same_cells b es n a none =
      look_cells b es n a
      ∙ ap (join (look b)) (seen_none is_value bottom join l.laws (λ e. true) seen_rows es (all_true (λ e. seen_rows e ≡ bottom) (λ e. seen_none is_value bottom join l.laws (lacks_row d e.0) (λ f. look (row_board e.0 f.0 f.1)) e.1 (all_true (λ f. look (row_board e.0 f.0 f.1) ≡ bottom) (λ f. none e.0 f.0 f.1) e.1)) es))
      ∙ l.laws.neutral (look b) (l.value b n)

-- ---- boards of one thing

found_one : {V : Type 0} (bottom : V) (k : ℕ) (v : V) (q : ℕ) → looked bottom (find nat_cmp q ((k, v) ∷ [])) ≡ (if k == q then v else bottom)
found_one bottom k v q = ap (λ b. looked bottom (cond b (Some v) None)) (cmp_eq q k) ∙ elim (k == q) as (λ b. looked bottom (cond b (Some v) None) ≡ cond b v bottom) [ true ↦ refl | false ↦ refl ]

row_one : (k t : ℕ) (parts : Parts) (n s : ℕ) → row_in (row_board k t parts) n s ≡ (if k == n then (if t == s then parts else []) else [])
row_one k t parts n s =
    row_twice (row_board k t parts) n s
    ∙ ap (λ es. looked [] (find nat_cmp s es)) (found_one [] k ((t, parts) ∷ []) n)
    ∙ elim (k == n) as (λ b. looked [] (find nat_cmp s (if b then (t, parts) ∷ [] else [])) ≡ (if b then (if t == s then parts else []) else [])) [ true ↦ found_one [] t parts s | false ↦ refl ]

row_itself : (n s : ℕ) (parts : Parts) → row_in (row_board n s parts) n s ≡ parts
row_itself n s parts = row_one n s parts n s ∙ ap (λ b. if b then (if s == s then parts else []) else []) (same_key n) ∙ ap (λ b. if b then parts else []) (same_key s)

row_other : (k t : ℕ) (parts : Parts) (n s : ℕ) → (k == n) ≡ false → row_in (row_board k t parts) n s ≡ []
row_other k t parts n s e = row_one k t parts n s ∙ ap (λ b. if b then (if t == s then parts else []) else []) e

row_other_sub : (k t : ℕ) (parts : Parts) (s : ℕ) → (t == s) ≡ false → row_in (row_board k t parts) k s ≡ []
row_other_sub k t parts s e = row_one k t parts k s ∙ ap (λ b. if b then (if t == s then parts else []) else []) (same_key k) ∙ ap (λ b. if b then parts else []) e

no_row : (m : ℕ) (x : Flat PlanPair) (n s : ℕ) → row_in (issue_board m x) n s ≡ []
no_row m Unknown n s = refl
no_row m (One p) n s = refl
no_row m Clash n s = refl

no_count : (m : ℕ) (x : Flat PlanPair) (n : ℕ) → opened_count (issue_board m x) n ≡ 0
no_count m Unknown n = refl
no_count m (One p) n = refl
no_count m Clash n = refl

-- ---- the board of what a digest lacks

same_either : {A : Type 0} (k : Bool) (a : A) → a ≡ (if k then a else a)
same_either true a = refl
same_either false a = refl

turned : {A : Type 0} (k : Bool) (a b : A) → (if not k then a else b) ≡ (if k then b else a)
turned true a b = refl
turned false a b = refl

module _ (b : BoardValue) (d : DigestValue) (is : IsBoard b) where
  openings_nested : AllByRecursion (λ o. is_nested (opening_board o.number o.count)) (openings_of b)
  openings_nested = all_weaker IsOpening (λ o. is_nested (opening_board o.number o.count)) (openings_of b) (openings_within b is) (λ o w. (opening_board_is o.number o.count w.0 w.1 w.2).nested)

  issues_nested : AllByRecursion (λ e. is_nested (issue_board e.0 e.1)) (issues_of b)
  issues_nested = all_weaker (λ e. 1 ≤ e.0) (λ e. is_nested (issue_board e.0 e.1)) (issues_of b) (issues_within b is) (λ e w. (issue_board_is e.0 e.1 w).nested)

  rows_nested : AreRowsNested (cells_in b)
  rows_nested = all_weaker (λ e. IsKept (IsMap nat_cmp parts_are []) [] e.1) (λ e. AllByRecursion (λ f. is_nested (row_board e.0 f.0 f.1)) e.1) (cells_in b) is.nested.1.kept
      (λ e k. all_weaker (λ f. IsKept parts_are [] f.1) (λ f. is_nested (row_board e.0 f.0 f.1)) e.1 k.0.kept (λ f j. row_nested e.0 f.0 f.1 j.0 j.1))

  abbrev opened_part : BoardValue
  opened_part = with_newer_openings d.openings empty_board (openings_of b)

  abbrev issued_part : BoardValue
  issued_part = with_lacking_issues d opened_part (issues_of b)

  opened_nested : is_nested opened_part
  opened_nested = nested_kept (is_newer d.openings) (λ o. opening_board o.number o.count) empty_board (openings_of b) board_laws.bottom_is openings_nested

  issued_nested : is_nested issued_part
  issued_nested = nested_kept (lacks_issue d) (λ e. issue_board e.0 e.1) opened_part (issues_of b) opened_nested issues_nested

  -- ---- how many sub-plans are opened

  abbrev count_at : ℕ → ℕ × ℕ → ℕ
  count_at n e = opened_count (opening_board e.0 e.1) n

  count_found : (n : ℕ) (o : Option ℕ) → at_found (λ e. nat_lt (count_in d.openings e.0) e.1) (count_at n) 0 n o ≡ (if nat_lt (count_in d.openings n) (looked 0 o) then looked 0 o else 0)
  count_found n None = same_either (nat_lt (count_in d.openings n) 0) 0
  count_found n (Some v) = ap (λ x. if nat_lt (count_in d.openings n) v then x else 0) (found_one 0 n v n ∙ ap (λ k. if k then v else 0) (same_key n))

  lacking_opened : (n : ℕ) → opened_count (lacking b d) n ≡ (if nat_lt (count_in d.openings n) (opened_count b n) then opened_count b n else 0)
  lacking_opened n =
      same_cells is_max 0 max (λ b. opened_count b n) (opened_look n) d issued_part (cells_in b) issued_nested rows_nested (λ m s parts. refl)
      ∙ look_same is_max 0 max (λ b. opened_count b n) (opened_look n) (lacks_issue d) (λ e. issue_board e.0 e.1) opened_part (issues_of b) opened_nested issues_nested (λ e. no_count e.0 e.1 n)
      ∙ look_kept is_max 0 max (λ b. opened_count b n) (opened_look n) (is_newer d.openings) (λ o. opening_board o.number o.count) empty_board (openings_of b) board_laws.bottom_is openings_nested
      ∙ left_neutral is_max 0 max max_laws _ (seen_value is_max 0 max max_laws (is_newer d.openings) (λ o. opened_count (opening_board o.number o.count) n) (openings_of b) (values is_max 0 max (λ b. opened_count b n) (opened_look n) (λ o. opening_board o.number o.count) (openings_of b) openings_nested))
      ∙ seen_map (λ e. record { number = e.0; count = e.1 }) (is_newer d.openings) (λ o. opened_count (opening_board o.number o.count) n) 0 max (openings_in b)
      ∙ seen_found is_max 0 max max_laws (λ e. nat_lt (count_in d.openings e.0) e.1) (count_at n) n (λ e t. found_one 0 e.0 e.1 n ∙ ap (λ k. if k then e.1 else 0) t) (openings_in b) (keys_rise (openings_in b) is.nested.0.0.sorted)
      (all_weaker (λ e. IsKept is_max 0 e.1) (λ e. is_max (count_at n e)) (openings_in b) is.nested.0.0.kept (λ e k. subst is_max (sym (found_one 0 e.0 e.1 n)) (either is_max (e.0 == n) e.1 0 k.0 max_laws.bottom_is)))
      ∙ count_found n (find nat_cmp n (openings_in b))

  -- ---- what is issued

  abbrev issue_at : ℕ → ℕ × Flat PlanPair → Flat PlanPair
  issue_at n e = issued (issue_board e.0 e.1) n

  issue_one : (n : ℕ) (e : ℕ × Flat PlanPair) → issue_at n e ≡ (if e.0 == n then e.1 else Unknown)
  issue_one n e = (issue_tells e.0 e.1).issues n

  issue_found : (n : ℕ) (o : Option (Flat PlanPair)) → at_found (lacks_issue d) (issue_at n) Unknown n o ≡ (if shows_issue d n (issue_hash n (looked Unknown o)) then Unknown else looked Unknown o)
  issue_found n None = same_either (shows_issue d n (issue_hash n Unknown)) Unknown
  issue_found n (Some x) =
      turned (shows_issue d n (issue_hash n x)) (issue_at n (n, x)) Unknown
      ∙ ap (λ v. if shows_issue d n (issue_hash n x) then Unknown else v) (issue_one n (n, x) ∙ ap (λ k. if k then x else Unknown) (same_key n))

  lacking_issued : (n : ℕ) → issued (lacking b d) n ≡ (if shows_issue d n (issue_hash n (issued b n)) then Unknown else issued b n)
  lacking_issued n =
      same_cells issue_is Unknown both_issued (λ b. issued b n) (issued_look n) d issued_part (cells_in b) issued_nested rows_nested (λ m s parts. refl)
      ∙ look_kept issue_is Unknown both_issued (λ b. issued b n) (issued_look n) (lacks_issue d) (λ e. issue_board e.0 e.1) opened_part (issues_of b) opened_nested issues_nested
      ∙ ap (λ v. both_issued v (seen (lacks_issue d) (issue_at n) Unknown both_issued (issues_of b))) (look_same issue_is Unknown both_issued (λ b. issued b n) (issued_look n) (is_newer d.openings) (λ o. opening_board o.number o.count) empty_board (openings_of b) board_laws.bottom_is openings_nested (λ o. refl))
      ∙ seen_found issue_is Unknown both_issued issue_laws (lacks_issue d) (issue_at n) n (λ e t. issue_one n e ∙ ap (λ k. if k then e.1 else Unknown) t) (issues_in b) (keys_rise (issues_in b) is.nested.0.1.sorted)
      (values issue_is Unknown both_issued (λ b. issued b n) (issued_look n) (λ e. issue_board e.0 e.1) (issues_of b) issues_nested)
      ∙ issue_found n (find nat_cmp n (issues_in b))

  -- ---- rows

  abbrev row_at : ℕ → ℕ → ℕ × Subs → Parts
  row_at n s = seen_rows parts_are [] parts_join (λ b. row_in b n s) (row_look n s) d

  row_found : (n s : ℕ) (o : Option Parts) → at_found (lacks_row d n) (λ f. row_in (row_board n f.0 f.1) n s) [] s o ≡ (if shows_row d n s (row_hash n s (looked [] o)) then [] else looked [] o)
  row_found n s None = same_either (shows_row d n s (row_hash n s [])) []
  row_found n s (Some parts) =
      turned (shows_row d n s (row_hash n s parts)) (row_in (row_board n s parts) n s) []
      ∙ ap (λ v. if shows_row d n s (row_hash n s parts) then [] else v) (row_itself n s parts)

  abbrev AreSubs : Subs → Type 0
  AreSubs subs = IsMap nat_cmp parts_are [] subs

  subs_found : (n s : ℕ) (o : Option Subs) → Found AreSubs o → at_found (λ e. true) (row_at n s) [] n o ≡ (if shows_row d n s (row_hash n s (looked [] (found_in s o))) then [] else looked [] (found_in s o))
  subs_found n s None f = same_either (shows_row d n s (row_hash n s [])) []
  subs_found n s (Some subs) f =
      seen_found parts_are [] parts_join parts_laws (lacks_row d n) (λ e. row_in (row_board n e.0 e.1) n s) s (λ e t. row_other_sub n e.0 e.1 s t) subs (keys_rise subs f.sorted)
      (all_weaker (λ e. IsKept parts_are [] e.1) (λ e. parts_are (row_in (row_board n e.0 e.1) n s)) subs f.kept (λ e k. (row_look n s).value (row_board n e.0 e.1) (row_nested n e.0 e.1 k.0 k.1)))
      ∙ row_found n s (find nat_cmp s subs)

  pub lacking_row : (n s : ℕ) → row_in (lacking b d) n s ≡ (if shows_row d n s (row_hash n s (row_in b n s)) then [] else row_in b n s)
  lacking_row n s =
      look_cells parts_are [] parts_join (λ b. row_in b n s) (row_look n s) d issued_part (cells_in b) issued_nested rows_nested
      ∙ ap (λ v. parts_join v (seen (λ e. true) (row_at n s) [] parts_join (cells_in b)))
      (look_same parts_are [] parts_join (λ b. row_in b n s) (row_look n s) (lacks_issue d) (λ e. issue_board e.0 e.1) opened_part (issues_of b) opened_nested issues_nested (λ e. no_row e.0 e.1 n s)
      ∙ look_same parts_are [] parts_join (λ b. row_in b n s) (row_look n s) (is_newer d.openings) (λ o. opening_board o.number o.count) empty_board (openings_of b) board_laws.bottom_is openings_nested (λ o. refl))
      ∙ seen_found parts_are [] parts_join parts_laws (λ e. true) (row_at n s) n (λ e t. seen_none parts_are [] parts_join parts_laws (lacks_row d e.0) (λ f. row_in (row_board e.0 f.0 f.1) n s) e.1 (all_true (λ f. row_in (row_board e.0 f.0 f.1) n s ≡ []) (λ f. row_other e.0 f.0 f.1 n s t) e.1)) (cells_in b) (keys_rise (cells_in b) is.nested.1.sorted)
      (rows_value parts_are [] parts_join (λ b. row_in b n s) (row_look n s) d (cells_in b) rows_nested)
      ∙ subs_found n s (find nat_cmp n (cells_in b)) (find_All nat_cmp AreSubs n (cells_in b) (values_of_kept AreSubs [] (cells_in b) is.nested.1.kept))

  lacking_cell : (c : CellPlace) → cell_of (lacking b d) c ≡ (if shows_row d c.number c.sub (row_hash c.number c.sub (row_in b c.number c.sub)) then None else cell_of b c)
  lacking_cell c =
      cell_in_row (lacking b d) c
      ∙ ap (find nat_cmp c.part) (lacking_row c.number c.sub)
      ∙ at (shows_row d c.number c.sub (row_hash c.number c.sub (row_in b c.number c.sub)))
    where
      at : (k : Bool) → find nat_cmp c.part (if k then [] else row_in b c.number c.sub) ≡ (if k then None else cell_of b c)
      at true = refl
      at false = sym (cell_in_row b c)

  -- what a digest lacks of a board is its repair
  pub lacking_repairs : IsRepair b d (lacking b d)
  lacking_repairs = record { opened = lacking_opened; issues = lacking_issued; cells = lacking_cell }
