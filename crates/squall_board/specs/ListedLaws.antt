-- Laws of the lists of a board.
use Rattle.std.specs.Prelude.{◌≡◌, ◌≢◌, ℕ, suc, zero, ◌<◌, ◌≤◌, ◌==◌, Bool, true, false, cond, ◌||◌, ◌&&◌, T, map, List, [], ◌∷◌, ◌++◌, Some, ◌⊎◌, refl}
use Rattle.std.proofs.Common.{sym, ap, subst, ◌∙◌, arith, inl, inr, ⊎_elim, Less, Equal}
use Rattle.std.proofs.lemmas.Bool.{and_from, or_left, or_right}
use Rattle.std.proofs.lemmas.Bool.Decides.{nat_tests}
use Rattle.std.proofs.lemmas.List.Folds.{list_any-append}
use Rattle.std.specs.List.{flat_map, list_any, AllByRecursion}
use Rattle.std.specs.Cmp.{first_so}
use Rattle.std.specs.Ordering.{nat_cmp, is_eq, is_lt, ordering_then}
use Rattle.std.specs.FinMap.Entries.{find, is_sorted, below_all}
use Rattle.squall_span.specs.Spans.{Interval, has, span_has}
use Rattle.squall_join.specs.declared.flat.Flat.{Flat}
use Rattle.squall_join.specs.declared.flat.Flat.TheVariants.{Unknown}
use Rattle.squall_join.specs.Basic.{is_max}
use Rattle.squall_join.specs.Pairs.{pair_of}
use Rattle.squall_join.specs.Entries.{IsKept, IsMap}
use Rattle.squall_join.specs.MapLaws.{first, second}
use Rattle.squall_join.specs.Looked.{looked}
use Rattle.squall_join.specs.Facts.{max_says, flag_says, pair_says, map_says, found_says}
use Rattle.squall_report.specs.Issues.{PlanPair}
use Rattle.squall_report.specs.Cells.{place_at, is_cell_place}
use Rattle.squall_report.specs.Facts.{Fact, LoadedKey, DonePart, OpenedSub, is_opening}
use Rattle.squall_report.specs.Told.{both_issued}
use Rattle.squall_report.specs.ToldLaws.{issued_neutral}
use Rattle.squall_board.specs.declared.opening.Opening.{Opening}
use Rattle.squall_board.specs.Boards.{CellValue, Parts, Subs, Cells, Openings, BoardValue, openings_in, issues_in, cells_in, cell_is, cell_bottom, issue_is, says, count_says, one_issue, IsBoard}
use Rattle.squall_board.specs.Listed.{CellEntry, entry_with, cell_entry, IsCell, cells_of_parts, cells_of_subs, cells_of_numbers, cells_of, AreCellsOfParts, AreCellsOfSubs, AreCellsOfNumbers, entry_says, entries_say, ComesBefore, CellsRise, AreCells, openings_of_counts, openings_of, IsOpening, OpeningsRise, AreOpenings, issues_of, entries_issue, IssuesRise, AreIssues}

-- ---- queries

pub or_none : (a b : Bool) → b ≡ false → a ≡ (a || b)
or_none true b e = refl
or_none false b e = sym e

pub same_key : (k : ℕ) → (k == k) ≡ true
same_key k = grind (arith, nat_tests)

other_key : (k q : ℕ) → q < k → (k == q) ≡ false
other_key k q lt = grind (arith, nat_tests)

key_of : (k q : ℕ) → (k == q) ≡ true → k ≡ q
key_of k q e = grind (arith, nat_tests)

pub cmp_eq : (x y : ℕ) → is_eq (nat_cmp x y) ≡ (y == x)
cmp_eq x y = grind (arith, nat_tests)

cmp_lt : (x y : ℕ) → is_lt (nat_cmp x y) ≡ true → x < y
cmp_lt x y h = grind (arith, nat_tests)

pub T_true : (b : Bool) → T b → b ≡ true
T_true true t = refl
T_true false t = absurd t

-- ---- lists

pub all_both : {X : Type 0} (P Q R : X → Type 0) (xs : List X) → AllByRecursion P xs → AllByRecursion Q xs → ((x : X) → P x → Q x → R x) → AllByRecursion R xs
all_both P Q R [] p q f = tt
all_both P Q R (x ∷ xs) p q f = (f x p.0 q.0, all_both P Q R xs p.1 q.1 f)

pub all_weaker : {X : Type 0} (P Q : X → Type 0) (xs : List X) → AllByRecursion P xs → ((x : X) → P x → Q x) → AllByRecursion Q xs
all_weaker P Q [] p f = tt
all_weaker P Q (x ∷ xs) p f = (f x p.0, all_weaker P Q xs p.1 f)

pub all_map : {X Y : Type 0} (g : X → Y) (P : Y → Type 0) (xs : List X) → AllByRecursion (λ x. P (g x)) xs → AllByRecursion P (map g xs)
all_map g P [] p = tt
all_map g P (x ∷ xs) p = (p.0, all_map g P xs p.1)

all_append : {X : Type 0} (P : X → Type 0) (xs ys : List X) → AllByRecursion P xs → AllByRecursion P ys → AllByRecursion P (xs ++ ys)
all_append P [] ys p q = q
all_append P (x ∷ xs) ys p q = (p.0, all_append P xs ys p.1 q)

pub all_flat : {X Y : Type 0} (g : X → List Y) (P : Y → Type 0) (xs : List X) → AllByRecursion (λ x. AllByRecursion P (g x)) xs → AllByRecursion P (flat_map g xs)
all_flat g P [] p = tt
all_flat g P (x ∷ xs) p = all_append P (g x) (flat_map g xs) p.0 (all_flat g P xs p.1)

pub all_true : {X : Type 0} (P : X → Type 0) → ((x : X) → P x) → (xs : List X) → AllByRecursion P xs
all_true P f [] = tt
all_true P f (x ∷ xs) = (f x, all_true P f xs)

pub any_none : {X : Type 0} (g : X → Bool) (xs : List X) → AllByRecursion (λ x. g x ≡ false) xs → list_any g xs ≡ false
any_none g [] p = refl
any_none g (x ∷ xs) p = ap (λ b. b || list_any g xs) p.0 ∙ any_none g xs p.1

pub any_same : {X : Type 0} (g h : X → Bool) (xs : List X) → AllByRecursion (λ x. g x ≡ h x) xs → list_any g xs ≡ list_any h xs
any_same g h [] p = refl
any_same g h (x ∷ xs) p = ap (λ b. b || list_any g xs) p.0 ∙ ap (λ b. h x || b) (any_same g h xs p.1)

pub any_and : {X : Type 0} (a : Bool) (g : X → Bool) (xs : List X) → list_any (λ x. a && g x) xs ≡ (a && list_any g xs)
any_and true g xs = refl
any_and false g xs = any_none (λ x. false) xs (all_true (λ x. false ≡ false) (λ x. refl) xs)

pub any_map : {X Y : Type 0} (f : X → Y) (g : Y → Bool) (xs : List X) → list_any g (map f xs) ≡ list_any (λ x. g (f x)) xs
any_map f g [] = refl
any_map f g (x ∷ xs) = ap (λ b. g (f x) || b) (any_map f g xs)

any_flat : {X Y : Type 0} (f : X → List Y) (g : Y → Bool) (xs : List X) → list_any g (flat_map f xs) ≡ list_any (λ x. list_any g (f x)) xs
any_flat f g [] = refl
any_flat f g (x ∷ xs) = list_any-append g (f x) (flat_map f xs) ∙ ap (λ b. list_any g (f x) || b) (any_flat f g xs)

-- ---- maps

below_keys : {V : Type 0} (k : ℕ) (es : List (ℕ × V)) → T (below_all nat_cmp k es) → AllByRecursion (λ e. k < e.0) es
below_keys k [] t = tt
below_keys k (e ∷ es) t = (cmp_lt k e.0 (T_true _ (first _ _ t)), below_keys k es (second _ _ t))

-- each key is below those after it
abbrev pub KeysRise : {V : Type 0} → List (ℕ × V) → Type 0
KeysRise [] = Unit {0}
KeysRise (e ∷ es) = AllByRecursion (λ d. e.0 < d.0) es × KeysRise es

pub keys_rise : {V : Type 0} (es : List (ℕ × V)) → T (is_sorted nat_cmp es) → KeysRise es
keys_rise [] t = tt
keys_rise (e ∷ es) t = (below_keys e.0 es (first _ _ t), keys_rise es (second _ _ t))

module _ {V F : Type 0} (p : V → F → Bool) where
  says_below : (q : ℕ) (f : F) (es : List (ℕ × V)) → AllByRecursion (λ e. q < e.0) es → list_any (λ e. (e.0 == q) && p e.1 f) es ≡ false
  says_below q f es h = any_none (λ e. (e.0 == q) && p e.1 f) es (all_weaker (λ e. q < e.0) (λ e. ((e.0 == q) && p e.1 f) ≡ false) es h (λ e lt. ap (λ b. b && p e.1 f) (other_key e.0 q lt)))

  -- a map says what some entry of that key says
  pub says_some : (es : List (ℕ × V)) → KeysRise es → (q : ℕ) (f : F) → map_says nat_cmp p es (q, f) ≡ list_any (λ e. (e.0 == q) && p e.1 f) es
  says_some [] r q f = refl
  says_some (e ∷ es) r q f =
      ap (λ b. found_says p (cond b (Some e.1) (find nat_cmp q es)) f) (cmp_eq q e.0)
      ∙ elim (e.0 == q) as (λ b. (e.0 == q) ≡ b → found_says p (cond b (Some e.1) (find nat_cmp q es)) f ≡ ((b && p e.1 f) || list_any (λ e. (e.0 == q) && p e.1 f) es)) [
        | true ↦ λ t. or_none (p e.1 f) _ (says_below q f es (subst (λ k. AllByRecursion (λ d. k < d.0) es) (key_of e.0 q t) r.0))
        | false ↦ λ t. says_some es r.1 q f
      ] refl

  within_some : (L : ℕ → F → Type 0) (es : List (ℕ × V)) → ((q : ℕ) (f : F) → list_any (λ e. (e.0 == q) && p e.1 f) es ≡ true → L q f) → AllByRecursion (λ e. (f : F) → p e.1 f ≡ true → L e.0 f) es
  within_some L [] h = tt
  within_some L (e ∷ es) h = (λ f t. h e.0 f (or_left _ _ (and_from _ _ (same_key e.0) t)), within_some L es (λ q f t. h q f (or_right _ _ t)))

  -- what each value says, the map says under its key
  within : (L : ℕ → F → Type 0) (es : List (ℕ × V)) → KeysRise es → ((q : ℕ) (f : F) → map_says nat_cmp p es (q, f) ≡ true → L q f) → AllByRecursion (λ e. (f : F) → p e.1 f ≡ true → L e.0 f) es
  within L es r h = within_some L es (λ q f t. h q f (says_some es r q f ∙ t))

-- ---- limits

abbrev pub CellFact : Type 0
CellFact = ℕ ⊎ Unit {0}

abbrev pub says_cell : CellValue → CellFact → Bool
says_cell = pair_says has flag_says

abbrev says_parts : Parts → ℕ × CellFact → Bool
says_parts = map_says nat_cmp says_cell

abbrev says_subs : Subs → ℕ × (ℕ × CellFact) → Bool
says_subs = map_says nat_cmp says_parts

abbrev says_numbers : Cells → ℕ × (ℕ × (ℕ × CellFact)) → Bool
says_numbers = map_says nat_cmp says_subs

abbrev parts_are : Parts → Type 0
parts_are = IsMap nat_cmp cell_is cell_bottom

abbrev subs_are : Subs → Type 0
subs_are = IsMap nat_cmp parts_are []

abbrev numbers_are : Cells → Type 0
numbers_are = IsMap nat_cmp subs_are []

first_key : (s : Interval) (ss : List Interval) → s.lo < s.hi → has (s ∷ ss) s.lo ≡ true
first_key s ss lt = or_left (span_has s s.lo) (has ss s.lo) (grind (arith, nat_tests))

-- a kept cell is complete or has a span
kept_cell : (n s p : ℕ) (spans : List Interval) (complete : Bool) → IsKept cell_is cell_bottom (pair_of spans complete) → ((f : CellFact) → says_cell (pair_of spans complete) f ≡ true → is_cell_place (place_at n s p) ≡ true) → IsCell (entry_with (place_at n s p) complete spans)
kept_cell n s p spans true k h = record { entry = and_from _ _ (h (inr tt) refl) refl; spans = k.0.0 }
kept_cell n s p [] false k h = absurd (k.1 refl)
kept_cell n s p (x ∷ xs) false k h = record { entry = and_from _ _ (h (inl x.lo) (first_key x xs k.0.0.0.0)) refl; spans = k.0.0 }

parts_within : (n s : ℕ) (parts : Parts) → parts_are parts → ((f : ℕ × CellFact) → says_parts parts f ≡ true → is_cell_place (place_at n s f.0) ≡ true) → AreCellsOfParts n s parts
parts_within n s parts m h =
    all_both (λ e. (f : CellFact) → says_cell e.1 f ≡ true → is_cell_place (place_at n s e.0) ≡ true) (λ e. IsKept cell_is cell_bottom e.1) (λ e. IsCell (cell_entry (place_at n s e.0) e.1)) parts
    (within says_cell (λ p f. is_cell_place (place_at n s p) ≡ true) parts (keys_rise parts m.sorted) (λ p f t. h (p, f) t))
    m.kept
    (λ e said kept. kept_cell n s e.0 e.1.first e.1.second kept said)

subs_within : (n : ℕ) (subs : Subs) → subs_are subs → ((f : ℕ × (ℕ × CellFact)) → says_subs subs f ≡ true → is_cell_place (place_at n f.0 f.1.0) ≡ true) → AreCellsOfSubs n subs
subs_within n subs m h =
    all_both (λ e. (f : ℕ × CellFact) → says_parts e.1 f ≡ true → is_cell_place (place_at n e.0 f.0) ≡ true) (λ e. IsKept parts_are [] e.1) (λ e. AreCellsOfParts n e.0 e.1) subs
    (within says_parts (λ s f. is_cell_place (place_at n s f.0) ≡ true) subs (keys_rise subs m.sorted) (λ s f t. h (s, f) t))
    m.kept
    (λ e said kept. parts_within n e.0 e.1 kept.0 said)

numbers_within : (numbers : Cells) → numbers_are numbers → ((f : ℕ × (ℕ × (ℕ × CellFact))) → says_numbers numbers f ≡ true → is_cell_place (place_at f.0 f.1.0 f.1.1.0) ≡ true) → AreCellsOfNumbers numbers
numbers_within numbers m h =
    all_both (λ e. (f : ℕ × (ℕ × CellFact)) → says_subs e.1 f ≡ true → is_cell_place (place_at e.0 f.0 f.1.0) ≡ true) (λ e. IsKept subs_are [] e.1) (λ e. AreCellsOfSubs e.0 e.1) numbers
    (within says_subs (λ n f. is_cell_place (place_at n f.0 f.1.0) ≡ true) numbers (keys_rise numbers m.sorted) (λ n f t. h (n, f) t))
    m.kept
    (λ e said kept. subs_within e.0 e.1 kept.0 said)

-- each entry of a board is a cell
pub board_cells : (b : BoardValue) → IsBoard b → AreCellsOfNumbers (cells_in b)
board_cells b is = numbers_within (cells_in b) is.nested.1 (λ f. at f.0 f.1.0 f.1.1.0 f.1.1.1)
  where
    at : (n s p : ℕ) (f : CellFact) → says_numbers (cells_in b) (n, (s, (p, f))) ≡ true → is_cell_place (place_at n s p) ≡ true
    at n s p (inl k) t = first_so _ _ (is.facts (LoadedKey (place_at n s p) k) t)
    at n s p (inr u) t = is.facts (DonePart (place_at n s p)) t

cells_within : (numbers : Cells) → AreCellsOfNumbers numbers → AllByRecursion IsCell (cells_of_numbers numbers)
cells_within numbers h = all_flat (λ e. cells_of_subs e.0 e.1) IsCell numbers (all_weaker (λ e. AreCellsOfSubs e.0 e.1) (λ e. AllByRecursion IsCell (cells_of_subs e.0 e.1)) numbers h
    (λ e k. all_flat (λ d. cells_of_parts e.0 d.0 d.1) IsCell e.1 (all_weaker (λ d. AreCellsOfParts e.0 d.0 d.1) (λ d. AllByRecursion IsCell (cells_of_parts e.0 d.0 d.1)) e.1 k
    (λ d j. all_map (λ x. cell_entry (place_at e.0 d.0 x.0) x.1) IsCell d.1 j))))

-- ---- cells rise

lt_less : (x y : ℕ) → x < y → nat_cmp x y ≡ Less
lt_less x y lt = grind (arith, nat_tests)

eq_equal : (x y : ℕ) → x ≡ y → nat_cmp x y ≡ Equal
eq_equal x y e = grind (arith, nat_tests)

-- the first number that differs decides
before_number : (c d : CellEntry) → c.cell.number < d.cell.number → ComesBefore c d
before_number c d lt = ap (λ o. is_lt (ordering_then o (ordering_then (nat_cmp c.cell.sub d.cell.sub) (nat_cmp c.cell.part d.cell.part)))) (lt_less c.cell.number d.cell.number lt)

before_sub : (c d : CellEntry) → c.cell.number ≡ d.cell.number → c.cell.sub < d.cell.sub → ComesBefore c d
before_sub c d n lt =
    ap (λ o. is_lt (ordering_then o (ordering_then (nat_cmp c.cell.sub d.cell.sub) (nat_cmp c.cell.part d.cell.part)))) (eq_equal c.cell.number d.cell.number n)
    ∙ ap (λ o. is_lt (ordering_then o (nat_cmp c.cell.part d.cell.part))) (lt_less c.cell.sub d.cell.sub lt)

before_part : (c d : CellEntry) → c.cell.number ≡ d.cell.number → c.cell.sub ≡ d.cell.sub → c.cell.part < d.cell.part → ComesBefore c d
before_part c d n s lt =
    ap (λ o. is_lt (ordering_then o (ordering_then (nat_cmp c.cell.sub d.cell.sub) (nat_cmp c.cell.part d.cell.part)))) (eq_equal c.cell.number d.cell.number n)
    ∙ ap (λ o. is_lt (ordering_then o (nat_cmp c.cell.part d.cell.part))) (eq_equal c.cell.sub d.cell.sub s)
    ∙ ap is_lt (lt_less c.cell.part d.cell.part lt)

rise_append : (P Q : CellEntry → Type 0) (xs ys : List CellEntry) → ((c d : CellEntry) → P c → Q d → ComesBefore c d) → AllByRecursion P xs → AllByRecursion Q ys → CellsRise xs → CellsRise ys → CellsRise (xs ++ ys)
rise_append P Q [] ys f p q r t = t
rise_append P Q (x ∷ xs) ys f p q r t = (all_append (ComesBefore x) xs ys r.0 (all_weaker Q (ComesBefore x) ys q (λ d. f x d p.0)), rise_append P Q xs ys f p.1 q r.1 t)

parts_rise : (n s : ℕ) (parts : Parts) → KeysRise parts → CellsRise (cells_of_parts n s parts)
parts_rise n s [] r = tt
parts_rise n s (e ∷ es) r = (
  all_map (λ d. cell_entry (place_at n s d.0) d.1) (ComesBefore (cell_entry (place_at n s e.0) e.1)) es (all_weaker (λ d. e.0 < d.0) (λ d. ComesBefore (cell_entry (place_at n s e.0) e.1) (cell_entry (place_at n s d.0) d.1)) es r.0 (λ d lt. before_part (cell_entry (place_at n s e.0) e.1) (cell_entry (place_at n s d.0) d.1) refl refl lt)),
  parts_rise n s es r.1,
)

abbrev InSub : ℕ → ℕ → CellEntry → Type 0
InSub n s c = (c.cell.number ≡ n) × (c.cell.sub ≡ s)

abbrev AfterSub : ℕ → ℕ → CellEntry → Type 0
AfterSub n s c = (c.cell.number ≡ n) × (s < c.cell.sub)

in_parts : (n s : ℕ) (parts : Parts) → AllByRecursion (InSub n s) (cells_of_parts n s parts)
in_parts n s parts = all_map (λ d. cell_entry (place_at n s d.0) d.1) (InSub n s) parts (all_true (λ d. InSub n s (cell_entry (place_at n s d.0) d.1)) (λ d. (refl, refl)) parts)

after_sub : (n s : ℕ) (subs : Subs) → AllByRecursion (λ e. s < e.0) subs → AllByRecursion (AfterSub n s) (cells_of_subs n subs)
after_sub n s subs h = all_flat (λ e. cells_of_parts n e.0 e.1) (AfterSub n s) subs (all_weaker (λ e. s < e.0) (λ e. AllByRecursion (AfterSub n s) (cells_of_parts n e.0 e.1)) subs h (λ e lt. all_weaker (InSub n e.0) (AfterSub n s) (cells_of_parts n e.0 e.1) (in_parts n e.0 e.1) (λ c is. (is.0, subst (λ t. s < t) (sym is.1) lt))))

subs_rise : (n : ℕ) (subs : Subs) → KeysRise subs → AllByRecursion (λ e. KeysRise e.1) subs → CellsRise (cells_of_subs n subs)
subs_rise n [] r t = tt
subs_rise n (e ∷ es) r t = rise_append (InSub n e.0) (AfterSub n e.0) (cells_of_parts n e.0 e.1) (cells_of_subs n es) (λ c d p q. before_sub c d (p.0 ∙ sym q.0) (subst (λ u. u < d.cell.sub) (sym p.1) q.1)) (in_parts n e.0 e.1) (after_sub n e.0 es r.0) (parts_rise n e.0 e.1 t.0) (subs_rise n es r.1 t.1)

in_subs : (n : ℕ) (subs : Subs) → AllByRecursion (λ c. c.cell.number ≡ n) (cells_of_subs n subs)
in_subs n subs = all_flat (λ e. cells_of_parts n e.0 e.1) (λ c. c.cell.number ≡ n) subs (all_true (λ e. AllByRecursion (λ c. c.cell.number ≡ n) (cells_of_parts n e.0 e.1)) (λ e. all_weaker (InSub n e.0) (λ c. c.cell.number ≡ n) (cells_of_parts n e.0 e.1) (in_parts n e.0 e.1) (λ c is. is.0)) subs)

after_number : (n : ℕ) (numbers : Cells) → AllByRecursion (λ e. n < e.0) numbers → AllByRecursion (λ c. n < c.cell.number) (cells_of_numbers numbers)
after_number n numbers h = all_flat (λ e. cells_of_subs e.0 e.1) (λ c. n < c.cell.number) numbers (all_weaker (λ e. n < e.0) (λ e. AllByRecursion (λ c. n < c.cell.number) (cells_of_subs e.0 e.1)) numbers h (λ e lt. all_weaker (λ c. c.cell.number ≡ e.0) (λ c. n < c.cell.number) (cells_of_subs e.0 e.1) (in_subs e.0 e.1) (λ c is. subst (λ m. n < m) (sym is) lt)))

abbrev pub SubsRise : Subs → Type 0
SubsRise subs = KeysRise subs × AllByRecursion (λ e. KeysRise e.1) subs

numbers_rise : (numbers : Cells) → KeysRise numbers → AllByRecursion (λ e. SubsRise e.1) numbers → CellsRise (cells_of_numbers numbers)
numbers_rise [] r t = tt
numbers_rise (e ∷ es) r t = rise_append (λ c. c.cell.number ≡ e.0) (λ c. e.0 < c.cell.number) (cells_of_subs e.0 e.1) (cells_of_numbers es) (λ c d p q. before_number c d (subst (λ m. m < d.cell.number) (sym p) q)) (in_subs e.0 e.1) (after_number e.0 es r.0) (subs_rise e.0 e.1 t.0.0 t.0.1) (numbers_rise es r.1 t.1)

subs_keys : (subs : Subs) → subs_are subs → SubsRise subs
subs_keys subs m = (keys_rise subs m.sorted, all_weaker (λ e. IsKept parts_are [] e.1) (λ e. KeysRise e.1) subs m.kept (λ e k. keys_rise e.1 k.0.sorted))

pub numbers_keys : (numbers : Cells) → numbers_are numbers → AllByRecursion (λ e. SubsRise e.1) numbers
numbers_keys numbers m = all_weaker (λ e. IsKept subs_are [] e.1) (λ e. SubsRise e.1) numbers m.kept (λ e k. subs_keys e.1 k.0)

-- ---- what cells say

abbrev fact_of : ℕ → ℕ → ℕ → CellFact → Fact
fact_of n s p (inl k) = LoadedKey (place_at n s p) k
fact_of n s p (inr u) = DonePart (place_at n s p)

and_assoc : (a b c d : Bool) → ((a && (b && c)) && d) ≡ (a && (b && (c && d)))
and_assoc false b c d = refl
and_assoc true false c d = refl
and_assoc true true c d = refl

entry_at : (n s p : ℕ) (v : CellValue) (m t q : ℕ) (f : CellFact) → entry_says (cell_entry (place_at n s p) v) (fact_of m t q f) ≡ ((n == m) && ((s == t) && ((p == q) && says_cell v f)))
entry_at n s p v m t q (inl k) = and_assoc (n == m) (s == t) (p == q) (has v.first k)
entry_at n s p v m t q (inr u) = and_assoc (n == m) (s == t) (p == q) v.second

parts_say : (n s : ℕ) (parts : Parts) → KeysRise parts → (m t q : ℕ) (f : CellFact) → entries_say (cells_of_parts n s parts) (fact_of m t q f) ≡ ((n == m) && ((s == t) && says_parts parts (q, f)))
parts_say n s parts r m t q f =
    any_map (λ e. cell_entry (place_at n s e.0) e.1) (λ c. entry_says c (fact_of m t q f)) parts
    ∙ any_same (λ e. entry_says (cell_entry (place_at n s e.0) e.1) (fact_of m t q f)) (λ e. (n == m) && ((s == t) && ((e.0 == q) && says_cell e.1 f))) parts (all_true _ (λ e. entry_at n s e.0 e.1 m t q f) parts)
    ∙ any_and (n == m) (λ e. (s == t) && ((e.0 == q) && says_cell e.1 f)) parts
    ∙ ap (λ b. (n == m) && b) (any_and (s == t) (λ e. (e.0 == q) && says_cell e.1 f) parts ∙ ap (λ b. (s == t) && b) (sym (says_some says_cell parts r q f)))

subs_say : (n : ℕ) (subs : Subs) → SubsRise subs → (m t q : ℕ) (f : CellFact) → entries_say (cells_of_subs n subs) (fact_of m t q f) ≡ ((n == m) && says_subs subs (t, (q, f)))
subs_say n subs r m t q f =
    any_flat (λ e. cells_of_parts n e.0 e.1) (λ c. entry_says c (fact_of m t q f)) subs
    ∙ any_same (λ e. entries_say (cells_of_parts n e.0 e.1) (fact_of m t q f)) (λ e. (n == m) && ((e.0 == t) && says_parts e.1 (q, f))) subs (all_weaker (λ e. KeysRise e.1) _ subs r.1 (λ e k. parts_say n e.0 e.1 k m t q f))
    ∙ any_and (n == m) (λ e. (e.0 == t) && says_parts e.1 (q, f)) subs
    ∙ ap (λ b. (n == m) && b) (sym (says_some says_parts subs r.0 t (q, f)))

numbers_say : (numbers : Cells) → KeysRise numbers → AllByRecursion (λ e. SubsRise e.1) numbers → (m t q : ℕ) (f : CellFact) → entries_say (cells_of_numbers numbers) (fact_of m t q f) ≡ says_numbers numbers (m, (t, (q, f)))
numbers_say numbers r s m t q f =
    any_flat (λ e. cells_of_subs e.0 e.1) (λ c. entry_says c (fact_of m t q f)) numbers
    ∙ any_same (λ e. entries_say (cells_of_subs e.0 e.1) (fact_of m t q f)) (λ e. (e.0 == m) && says_subs e.1 (t, (q, f))) numbers (all_weaker (λ e. SubsRise e.1) _ numbers s (λ e k. subs_say e.0 e.1 k m t q f))
    ∙ sym (says_some says_subs numbers r m (t, (q, f)))

-- the cells of a board are cells, rise, and say what it says
pub cells_listed : (b : BoardValue) → IsBoard b → AreCells b (cells_of b)
cells_listed b is = record {
  rise = numbers_rise (cells_in b) keys inner;
  within = cells_within (cells_in b) (board_cells b is);
  loaded = λ c k. sym (numbers_say (cells_in b) keys inner c.number c.sub c.part (inl k));
  done = λ c. sym (numbers_say (cells_in b) keys inner c.number c.sub c.part (inr tt));
}
  where
    keys : KeysRise (cells_in b)
    keys = keys_rise (cells_in b) is.nested.1.sorted

    inner : AllByRecursion (λ e. SubsRise e.1) (cells_in b)
    inner = numbers_keys (cells_in b) is.nested.1

-- ---- openings

abbrev opening_at : ℕ × ℕ → Opening
opening_at e = record { number = e.0; count = e.1 }

counts_rise : (counts : Openings) → KeysRise counts → OpeningsRise (openings_of_counts counts)
counts_rise [] r = tt
counts_rise (e ∷ es) r = (all_map opening_at (λ q. e.0 < q.number) es r.0, counts_rise es r.1)

kept_count : (n count : ℕ) → count ≢ 0 → ((s : ℕ) → max_says count s ≡ true → is_opening n s ≡ true) → IsOpening (opening_at (n, count))
kept_count n zero k h = absurd (k refl)
kept_count n (suc m) k h =
    let t : is_opening n m ≡ true = h m (grind (arith, nat_tests)) in
    (grind (arith, nat_tests), omega arith, grind (arith, nat_tests))

-- the openings of a board lie within their limits
pub openings_within : (b : BoardValue) → IsBoard b → AllByRecursion IsOpening (openings_of b)
openings_within b is = all_map opening_at IsOpening (openings_in b)
    (all_both (λ e. (s : ℕ) → max_says e.1 s ≡ true → is_opening e.0 s ≡ true) (λ e. IsKept is_max 0 e.1) (λ e. IsOpening (opening_at e)) (openings_in b)
    (within max_says (λ n s. is_opening n s ≡ true) (openings_in b) (keys_rise (openings_in b) is.nested.0.0.sorted) (λ n s t. is.facts (OpenedSub n s) t))
    is.nested.0.0.kept
    (λ e said kept. kept_count e.0 e.1 kept.1 said))

-- the openings of a board rise, lie within their limits, and say what it says
pub openings_listed : (b : BoardValue) → IsBoard b → AreOpenings b (openings_of b)
openings_listed b is = record {
  rise = counts_rise (openings_in b) (keys_rise (openings_in b) is.nested.0.0.sorted);
  within = openings_within b is;
  opened = λ n s. says_some max_says (openings_in b) (keys_rise (openings_in b) is.nested.0.0.sorted) n s ∙ sym (any_map opening_at (λ o. count_says o.number o.count (OpenedSub n s)) (openings_in b));
}

-- ---- issues

issue_below : (q : ℕ) (es : List (ℕ × Flat PlanPair)) → AllByRecursion (λ e. q < e.0) es → entries_issue es q ≡ Unknown
issue_below q [] h = refl
issue_below q (e ∷ es) h = ap (λ b. both_issued (cond b e.1 Unknown) (entries_issue es q)) (other_key e.0 q h.0) ∙ issue_below q es h.1

pub issue_some : (es : List (ℕ × Flat PlanPair)) → KeysRise es → (q : ℕ) → looked Unknown (find nat_cmp q es) ≡ entries_issue es q
issue_some [] r q = refl
issue_some (e ∷ es) r q =
    ap (λ b. looked Unknown (cond b (Some e.1) (find nat_cmp q es))) (cmp_eq q e.0)
    ∙ elim (e.0 == q) as (λ b. (e.0 == q) ≡ b → looked Unknown (cond b (Some e.1) (find nat_cmp q es)) ≡ both_issued (cond b e.1 Unknown) (entries_issue es q)) [
      | true ↦ λ t. sym (ap (both_issued e.1) (issue_below q es (subst (λ k. AllByRecursion (λ d. k < d.0) es) (key_of e.0 q t) r.0)) ∙ issued_neutral e.1)
      | false ↦ λ t. issue_some es r.1 q
    ] refl

issues_rise : (es : List (ℕ × Flat PlanPair)) → KeysRise es → IssuesRise es
issues_rise [] r = tt
issues_rise (e ∷ es) r = (r.0, issues_rise es r.1)

issues_within_some : (es : List (ℕ × Flat PlanPair)) → KeysRise es → AllByRecursion (λ e. IsKept issue_is Unknown e.1) es → ((n : ℕ) → (1 ≤ n) ⊎ (entries_issue es n ≡ Unknown)) → AllByRecursion (λ e. 1 ≤ e.0) es
issues_within_some [] r k h = tt
issues_within_some (e ∷ es) r k h = (
  ⊎_elim (λ le. le) (λ u. absurd (k.0.1 (sym (ap (λ b. both_issued (cond b e.1 Unknown) (entries_issue es e.0)) (same_key e.0) ∙ ap (both_issued e.1) (issue_below e.0 es r.0) ∙ issued_neutral e.1) ∙ u))) (h e.0),
  issues_within_some es r.1 k.1 (λ n. ⊎_elim (λ le. inl le) (λ u. zero_or_not e es r.0 n u) (h n)),
)
  where
    zero_or_not : (e : ℕ × Flat PlanPair) (es : List (ℕ × Flat PlanPair)) → AllByRecursion (λ d. e.0 < d.0) es → (n : ℕ) → both_issued (one_issue e.0 e.1 n) (entries_issue es n) ≡ Unknown → (1 ≤ n) ⊎ (entries_issue es n ≡ Unknown)
    zero_or_not e es r zero u = inr (issue_below zero es (all_weaker (λ d. e.0 < d.0) (λ d. 0 < d.0) es r (λ d lt. omega (arith, lt))))
    zero_or_not e es r (suc n) u = inl (omega arith)

-- what a board holds issued is under numbers from 1 on
pub issues_within : (b : BoardValue) → IsBoard b → AllByRecursion (λ e. 1 ≤ e.0) (issues_of b)
issues_within b is = issues_within_some (issues_in b) (keys_rise (issues_in b) is.nested.0.1.sorted) is.nested.0.1.kept (λ n. ⊎_elim (λ le. inl le) (λ u. inr (sym (issue_some (issues_in b) (keys_rise (issues_in b) is.nested.0.1.sorted) n) ∙ u)) (is.issues n))

-- what is issued rises, under numbers from 1 on, each one pair or a clash, and is what the board issues
pub issues_listed : (b : BoardValue) → IsBoard b → AreIssues b (issues_of b)
issues_listed b is = record {
  rise = issues_rise (issues_in b) (keys_rise (issues_in b) is.nested.0.1.sorted);
  within = issues_within b is;
  known = all_weaker (λ e. IsKept issue_is Unknown e.1) (λ e. e.1 ≢ Unknown) (issues_in b) is.nested.0.1.kept (λ e k. k.1);
  issued = issue_some (issues_in b) (keys_rise (issues_in b) is.nested.0.1.sorted);
}
