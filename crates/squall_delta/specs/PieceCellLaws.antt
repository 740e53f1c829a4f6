-- The cells of a piece with one cell more.
use Rattle.std.specs.Prelude.{◌≡◌, ℕ, suc, ◌+◌, Bool, true, false, ◌||◌, ◌&&◌, ◌==◌, List, [], ◌∷◌, ◌++◌, length, Some, refl}
use Rattle.std.proofs.Common.{sym, ap, subst, ◌∙◌, arith, ⊎_elim, length-append, Less, Equal, Greater}
use Rattle.std.proofs.lemmas.Bool.{true≢false}
use Rattle.std.proofs.lemmas.Bool.Decides.{nat_tests}
use Rattle.std.specs.List.{flat_map, AllByRecursion}
use Rattle.std.specs.declared.cmp.Ordering.{Ordering}
use Rattle.std.specs.Ordering.{nat_cmp, is_eq, is_lt, ordering_then}
use Rattle.std.specs.Cmp.{IsTotalOrder, nat_cmp_total, on_total, then_total, first_so, second_so}
use Rattle.squall_key.specs.Keys.{top}
use Rattle.squall_span.specs.Spans.{Interval, has, span_has, Beyond, IsCanonical, EndsBy}
use Rattle.squall_join.specs.Pairs.{pair_of}
use Rattle.squall_report.specs.Cells.{CellPlace, is_same_cell, cell_cmp, place_at}
use Rattle.squall_report.specs.Facts.{Fact, LoadedKey, DonePart, OpenedSub}
use Rattle.squall_board.specs.Boards.{cell_says}
use Rattle.squall_board.specs.Listed.{CellEntry, entry_value, has_spans, IsCell, entry_says, entries_say, ComesBefore, CellsRise}
use Rattle.squall_wire.specs.Spelling.{spell_span, spell_cell}
use Rattle.squall_delta.specs.Cutting.{entry_joined, joined_or_next, cell_at_end, add_cell, GoesOn, EntryFollows, last_after, last_place, is_last, cell_cost}

-- ---- the order of places

eq_then : (o p : Ordering) → is_eq (ordering_then o p) ≡ (is_eq o && is_eq p)
eq_then Less p = refl
eq_then Equal p = refl
eq_then Greater p = refl

less_not_eq : (o : Ordering) → is_lt o ≡ true → is_eq o ≡ false
less_not_eq Less e = refl
less_not_eq Equal e = absurd (true≢false (sym e))
less_not_eq Greater e = refl

is_less : (o : Ordering) → is_lt o ≡ true → o ≡ Less
is_less Less e = refl
is_less Equal e = absurd (true≢false (sym e))
is_less Greater e = absurd (true≢false (sym e))

cmp_is_eq : (x y : ℕ) → is_eq (nat_cmp x y) ≡ (x == y)
cmp_is_eq x y = grind (arith, nat_tests)

by_order : (c d : CellPlace) → is_eq (cell_cmp c d) ≡ is_same_cell c d
by_order c d =
    eq_then (nat_cmp c.number d.number) (ordering_then (nat_cmp c.sub d.sub) (nat_cmp c.part d.part))
    ∙ ap (λ b. is_eq (nat_cmp c.number d.number) && b) (eq_then (nat_cmp c.sub d.sub) (nat_cmp c.part d.part))
    ∙ ap (λ a. a && (is_eq (nat_cmp c.sub d.sub) && is_eq (nat_cmp c.part d.part))) (cmp_is_eq c.number d.number)
    ∙ ap (λ a. (c.number == d.number) && (a && is_eq (nat_cmp c.part d.part))) (cmp_is_eq c.sub d.sub)
    ∙ ap (λ a. (c.number == d.number) && ((c.sub == d.sub) && a)) (cmp_is_eq c.part d.part)

same_number : (n m : ℕ) → (n == m) ≡ true → n ≡ m
same_number n m e = grind (arith, nat_tests)

itself : (n : ℕ) → (n == n) ≡ true
itself n = grind (arith, nat_tests)

-- places that are one by their numbers are one
pub same_place : (c d : CellPlace) → is_same_cell c d ≡ true → c ≡ d
same_place c d e =
    let x : c.number ≡ d.number = same_number c.number d.number (first_so _ _ e) in
    let y : c.sub ≡ d.sub = same_number c.sub d.sub (first_so _ _ (second_so (c.number == d.number) _ e)) in
    let z : c.part ≡ d.part = same_number c.part d.part (second_so (c.sub == d.sub) _ (second_so (c.number == d.number) _ e)) in
    λ i. place_at (x i) (y i) (z i)

place_itself : (c : CellPlace) → is_same_cell c c ≡ true
place_itself c = ap (λ a. a && ((c.sub == c.sub) && (c.part == c.part))) (itself c.number) ∙ ap (λ a. a && (c.part == c.part)) (itself c.sub) ∙ itself c.part

pub place_same : (c d : CellPlace) → c ≡ d → is_same_cell c d ≡ true
place_same c d e = subst (λ q. is_same_cell c q ≡ true) e (place_itself c)

-- a place that comes before another is not that other
pub place_other : (c d : CellPlace) → is_lt (cell_cmp c d) ≡ true → is_same_cell c d ≡ false
place_other c d lt = sym (by_order c d) ∙ less_not_eq (cell_cmp c d) lt

cell_total : IsTotalOrder cell_cmp
cell_total = then_total (on_total (λ (c : CellPlace). c.number) nat_cmp_total) (then_total (on_total (λ (c : CellPlace). c.sub) nat_cmp_total) (on_total (λ (c : CellPlace). c.part) nat_cmp_total))

place_trans : (a b c : CellPlace) → is_lt (cell_cmp a b) ≡ true → is_lt (cell_cmp b c) ≡ true → is_lt (cell_cmp a c) ≡ true
place_trans a b c x y = ap is_lt (cell_total.trans a b c (is_less (cell_cmp a b) x) (is_less (cell_cmp b c) y))

pub not_both : (c d : CellPlace) → is_lt (cell_cmp c d) ≡ true → c ≡ d → ⊥
not_both c d lt e = true≢false (sym (place_same c d e) ∙ place_other c d lt)

-- ---- the last cell

-- what holds of a last cell with the one that follows it: they are two, or are joined
last_is : (P : List CellEntry → Type 0) (c d : CellEntry) → EntryFollows c d → (ComesBefore c d → P (c ∷ d ∷ [])) → (GoesOn c d → P (entry_joined c d ∷ [])) → P (joined_or_next (is_same_cell c.cell d.cell) c d)
last_is P c d follows two one = ⊎_elim
    (λ lt. subst (λ b. P (joined_or_next b c d)) (sym (place_other c.cell d.cell lt)) (two lt))
    (λ g. subst (λ b. P (joined_or_next b c d)) (sym (place_same c.cell d.cell g.place)) (one g))
    follows

later_than_last : (x c d : CellEntry) → ComesBefore x c → EntryFollows c d → ComesBefore x d
later_than_last x c d lt follows = ⊎_elim (λ h. place_trans x.cell c.cell d.cell lt h) (λ g. subst (λ q. is_lt (cell_cmp x.cell q) ≡ true) g.place lt) follows

before_at_end : (x c : CellEntry) (cs : List CellEntry) (d : CellEntry) → AllByRecursion (ComesBefore x) (c ∷ cs) → AllByRecursion (λ q. EntryFollows q d) (c ∷ cs) → AllByRecursion (ComesBefore x) (cell_at_end c cs d)
before_at_end x c [] d before follows = last_is (AllByRecursion (ComesBefore x)) c d follows.0 (λ lt. (before.0, (later_than_last x c d before.0 follows.0, tt))) (λ g. (before.0, tt))
before_at_end x c (e ∷ es) d before follows = (before.0, before_at_end x e es d before.1 follows.1)

rise_at_end : (c : CellEntry) (cs : List CellEntry) (d : CellEntry) → CellsRise (c ∷ cs) → AllByRecursion (λ q. EntryFollows q d) (c ∷ cs) → CellsRise (cell_at_end c cs d)
rise_at_end c [] d rise follows = last_is CellsRise c d follows.0 (λ lt. ((lt, tt), (tt, tt))) (λ g. (tt, tt))
rise_at_end c (e ∷ es) d rise follows = (before_at_end c e es d rise.0 follows.1, rise_at_end e es d rise.1 follows.1)

-- the cells rise
pub rise_added : (cs : List CellEntry) (d : CellEntry) → CellsRise cs → AllByRecursion (λ q. EntryFollows q d) cs → CellsRise (add_cell cs d)
rise_added [] d rise follows = (tt, tt)
rise_added (c ∷ cs) d rise follows = rise_at_end c cs d rise follows

-- ---- what holds of each cell

all_at_end : (P : CellEntry → Type 0) (c : CellEntry) (cs : List CellEntry) (d : CellEntry) → ((q : CellEntry) → P q → GoesOn q d → P (entry_joined q d)) → P d → AllByRecursion P (c ∷ cs) → AllByRecursion (λ q. EntryFollows q d) (c ∷ cs) → AllByRecursion P (cell_at_end c cs d)
all_at_end P c [] d joins one all follows = last_is (AllByRecursion P) c d follows.0 (λ lt. (all.0, (one, tt))) (λ g. (joins c all.0 g, tt))
all_at_end P c (e ∷ es) d joins one all follows = (all.0, all_at_end P e es d joins one all.1 follows.1)

pub all_added : (P : CellEntry → Type 0) (cs : List CellEntry) (d : CellEntry) → ((q : CellEntry) → P q → GoesOn q d → P (entry_joined q d)) → P d → AllByRecursion P cs → AllByRecursion (λ q. EntryFollows q d) cs → AllByRecursion P (add_cell cs d)
all_added P [] d joins one all follows = (one, tt)
all_added P (c ∷ cs) d joins one all follows = all_at_end P c cs d joins one all follows

-- ---- spans

canonical_append : (ss ts : List Interval) → IsCanonical ss → IsCanonical ts → AllByRecursion (λ s. Beyond s.hi ts) ss → IsCanonical (ss ++ ts)
canonical_append [] ts x y h = y
canonical_append (s ∷ []) ts x y h = (x.0, h.0, y)
canonical_append (s ∷ r ∷ ss) ts x y h = (x.0, x.1, canonical_append (r ∷ ss) ts x.2 y h.1)

ends_append : (ss ts : List Interval) → EndsBy top ss → EndsBy top ts → EndsBy top (ss ++ ts)
ends_append [] ts x y = y
ends_append (s ∷ ss) ts x y = (x.0, ends_append ss ts x.1 y)

or_assoc : (a b c : Bool) → (a || (b || c)) ≡ ((a || b) || c)
or_assoc true b c = refl
or_assoc false b c = refl

has_append : (ss ts : List Interval) (k : ℕ) → has (ss ++ ts) k ≡ (has ss k || has ts k)
has_append [] ts k = refl
has_append (s ∷ ss) ts k = ap (λ b. span_has s k || b) (has_append ss ts k) ∙ or_assoc (span_has s k) (has ss k) (has ts k)

spans_append : (ss ts : List Interval) → has_spans ss ≡ true → has_spans (ss ++ ts) ≡ true
spans_append [] ts e = absurd (true≢false (sym e))
spans_append (s ∷ ss) ts e = refl

says_more : (a b : Bool) (ss ts : List Interval) → (a || has_spans ss) ≡ true → ((a || b) || has_spans (ss ++ ts)) ≡ true
says_more true b ss ts e = refl
says_more false true ss ts e = refl
says_more false false ss ts e = spans_append ss ts e

both : (a b : Bool) → a ≡ true → b ≡ true → (a && b) ≡ true
both a b p q = ap (λ x. x && b) p ∙ q

-- what is joined is a cell
pub joined_cell : (c d : CellEntry) → IsCell c → IsCell d → GoesOn c d → IsCell (entry_joined c d)
joined_cell c d x y g = record {
  entry = both _ _ (first_so _ _ x.entry) (says_more c.complete d.complete c.spans d.spans (second_so _ _ x.entry));
  spans = (canonical_append c.spans d.spans x.spans.0 y.spans.0 g.beyond, ends_append c.spans d.spans x.spans.1 y.spans.1);
}

-- ---- what the cells say

and_or : (a b c : Bool) → (a && (b || c)) ≡ ((a && b) || (a && c))
and_or true b c = refl
and_or false b c = refl

one_place : (p : CellPlace) (a b : Bool) (ss ts : List Interval) (f : Fact) → cell_says p (pair_of (ss ++ ts) (a || b)) f ≡ (cell_says p (pair_of ss a) f || cell_says p (pair_of ts b) f)
one_place p a b ss ts (LoadedKey c k) = ap (λ v. is_same_cell p c && v) (has_append ss ts k) ∙ and_or (is_same_cell p c) (has ss k) (has ts k)
one_place p a b ss ts (DonePart c) = and_or (is_same_cell p c) a b
one_place p a b ss ts (OpenedSub n s) = refl

joined_says : (c d : CellEntry) → GoesOn c d → (f : Fact) → entry_says (entry_joined c d) f ≡ (entry_says c f || entry_says d f)
joined_says c d g f = subst (λ q. entry_says (entry_joined c d) f ≡ (entry_says c f || cell_says q (entry_value d) f)) g.place (one_place c.cell c.complete d.complete c.spans d.spans f)

or_false : (a : Bool) → (a || false) ≡ a
or_false true = refl
or_false false = refl

two_say : (a b : Bool) → (a || (b || false)) ≡ ((a || false) || b)
two_say true b = refl
two_say false b = or_false b

one_says : (x a b : Bool) → x ≡ (a || b) → (x || false) ≡ ((a || false) || b)
one_says x a b e = or_false x ∙ e ∙ ap (λ v. v || b) (sym (or_false a))

say_at_end : (c : CellEntry) (cs : List CellEntry) (d : CellEntry) (f : Fact) → AllByRecursion (λ q. EntryFollows q d) (c ∷ cs) → entries_say (cell_at_end c cs d) f ≡ (entries_say (c ∷ cs) f || entry_says d f)
say_at_end c [] d f follows = last_is (λ l. entries_say l f ≡ ((entry_says c f || false) || entry_says d f)) c d follows.0 (λ lt. two_say (entry_says c f) (entry_says d f)) (λ g. one_says (entry_says (entry_joined c d) f) (entry_says c f) (entry_says d f) (joined_says c d g f))
say_at_end c (e ∷ es) d f follows = ap (λ b. entry_says c f || b) (say_at_end e es d f follows.1) ∙ or_assoc (entry_says c f) (entries_say (e ∷ es) f) (entry_says d f)

-- they say what they said, and what the cell says
pub say_added : (cs : List CellEntry) (d : CellEntry) (f : Fact) → AllByRecursion (λ q. EntryFollows q d) cs → entries_say (add_cell cs d) f ≡ (entries_say cs f || entry_says d f)
say_added [] d f follows = or_false (entry_says d f)
say_added (c ∷ cs) d f follows = say_at_end c cs d f follows

-- ---- how long they are

pub flat_append : {X : Type 0} (f : X → List ℕ) (xs ys : List X) → length (flat_map f (xs ++ ys)) ≡ length (flat_map f xs) + length (flat_map f ys)
flat_append f [] ys = zero_left (length (flat_map f ys))
  where
    zero_left : (n : ℕ) → n ≡ 0 + n
    zero_left n = omega arith
flat_append f (x ∷ xs) ys =
    length-append (f x) (flat_map f (xs ++ ys))
    ∙ ap (λ n. length (f x) + n) (flat_append f xs ys)
    ∙ assoc (length (f x)) (length (flat_map f xs)) (length (flat_map f ys))
    ∙ ap (λ n. n + length (flat_map f ys)) (sym (length-append (f x) (flat_map f xs)))
  where
    assoc : (a b c : ℕ) → a + (b + c) ≡ (a + b) + c
    assoc a b c = omega arith

abbrev four_more : ℕ → ℕ
four_more n = suc (suc (suc (suc n)))

-- a cell has 17 bytes before its spans
pub cell_bytes : (c : CellEntry) → length (spell_cell c) ≡ 17 + length (flat_map spell_span c.spans)
cell_bytes c = count (length (flat_map spell_span c.spans))
  where
    count : (n : ℕ) → four_more (four_more (four_more (suc (four_more n)))) ≡ 17 + n
    count n = omega arith

joined_bytes : (c d : CellEntry) → length (spell_cell (entry_joined c d)) ≡ length (spell_cell c) + length (flat_map spell_span d.spans)
joined_bytes c d = cell_bytes (entry_joined c d) ∙ ap (λ n. 17 + n) (flat_append spell_span c.spans d.spans) ∙ assoc (length (flat_map spell_span c.spans)) (length (flat_map spell_span d.spans)) ∙ ap (λ n. n + length (flat_map spell_span d.spans)) (sym (cell_bytes c))
  where
    assoc : (a b : ℕ) → 17 + (a + b) ≡ (17 + a) + b
    assoc a b = omega arith

two_bytes : (a b : ℕ) → a + (b + 0) ≡ (a + 0) + b
two_bytes a b = omega arith

one_bytes : (x a b : ℕ) → x ≡ a + b → x + 0 ≡ (a + 0) + b
one_bytes x a b e = omega (arith, e)

length_pair : (c d : CellEntry) → length (flat_map spell_cell (c ∷ d ∷ [])) ≡ length (flat_map spell_cell (c ∷ [])) + length (spell_cell d)
length_pair c d = flat_append spell_cell (c ∷ []) (d ∷ []) ∙ ap (λ n. length (flat_map spell_cell (c ∷ [])) + n) (length-append (spell_cell d) [] ∙ right_zero (length (spell_cell d)))
  where
    right_zero : (n : ℕ) → n + 0 ≡ n
    right_zero n = omega arith

length_one : (c : CellEntry) → length (flat_map spell_cell (c ∷ [])) ≡ length (spell_cell c)
length_one c = length-append (spell_cell c) [] ∙ right_zero (length (spell_cell c))
  where
    right_zero : (n : ℕ) → n + 0 ≡ n
    right_zero n = omega arith

length_joined : (c d : CellEntry) → length (flat_map spell_cell (entry_joined c d ∷ [])) ≡ length (flat_map spell_cell (c ∷ [])) + length (flat_map spell_span d.spans)
length_joined c d = length_one (entry_joined c d) ∙ joined_bytes c d ∙ ap (λ n. n + length (flat_map spell_span d.spans)) (sym (length_one c))

length_last : (b : Bool) (c d : CellEntry) → length (flat_map spell_cell (joined_or_next b c d)) ≡ length (flat_map spell_cell (c ∷ [])) + cell_cost b d
length_last true c d = length_joined c d
length_last false c d = length_pair c d

length_at_end : (c : CellEntry) (cs : List CellEntry) (d : CellEntry) → length (flat_map spell_cell (cell_at_end c cs d)) ≡ length (flat_map spell_cell (c ∷ cs)) + cell_cost (is_same_cell (last_after c cs) d.cell) d
length_at_end c [] d = length_last (is_same_cell c.cell d.cell) c d
length_at_end c (e ∷ es) d =
    length-append (spell_cell c) (flat_map spell_cell (cell_at_end e es d))
    ∙ ap (λ n. length (spell_cell c) + n) (length_at_end e es d)
    ∙ assoc (length (spell_cell c)) (length (flat_map spell_cell (e ∷ es))) (cell_cost (is_same_cell (last_after e es) d.cell) d)
    ∙ ap (λ n. n + cell_cost (is_same_cell (last_after e es) d.cell) d) (sym (length-append (spell_cell c) (flat_map spell_cell (e ∷ es))))
  where
    assoc : (a b c : ℕ) → a + (b + c) ≡ (a + b) + c
    assoc a b c = omega arith

-- a cell more adds its own bytes, or those of its spans if it continues the last
pub length_added : (cs : List CellEntry) (d : CellEntry) → length (flat_map spell_cell (add_cell cs d)) ≡ length (flat_map spell_cell cs) + cell_cost (is_last (last_place cs) d.cell) d
length_added [] d = length_one d ∙ zero_left (length (spell_cell d))
  where
    zero_left : (n : ℕ) → n ≡ 0 + n
    zero_left n = omega arith
length_added (c ∷ cs) d = length_at_end c cs d

-- ---- the last place

last_at_end : (c : CellEntry) (cs : List CellEntry) (d : CellEntry) → AllByRecursion (λ q. EntryFollows q d) (c ∷ cs) → last_place (cell_at_end c cs d) ≡ Some d.cell
last_at_end c [] d follows = last_is (λ l. last_place l ≡ Some d.cell) c d follows.0 (λ lt. refl) (λ g. ap (λ q. Some q) g.place)
last_at_end c (e ∷ []) d follows = last_is (λ l. last_place (c ∷ l) ≡ Some d.cell) e d follows.1.0 (λ lt. refl) (λ g. ap (λ q. Some q) g.place)
last_at_end c (e ∷ q ∷ es) d follows = last_at_end e (q ∷ es) d follows.1

-- the cell is the last one then
pub last_added : (cs : List CellEntry) (d : CellEntry) → AllByRecursion (λ q. EntryFollows q d) cs → last_place (add_cell cs d) ≡ Some d.cell
last_added [] d follows = refl
last_added (c ∷ cs) d follows = last_at_end c cs d follows

-- ---- lists of cells that are gathered from items

-- a cell that comes after all others is at the end
pub later_added : (cs : List CellEntry) (d : CellEntry) → AllByRecursion (λ c. ComesBefore c d) cs → add_cell cs d ≡ cs ++ d ∷ []
later_added [] d h = refl
later_added (c ∷ []) d h = ap (λ b. joined_or_next b c d) (place_other c.cell d.cell h.0)
later_added (c ∷ e ∷ es) d h = ap (λ l. c ∷ l) (later_added (e ∷ es) d h.1)

-- one that continues the last is joined to it
pub same_added : (cs : List CellEntry) (c d : CellEntry) → c.cell ≡ d.cell → add_cell (cs ++ c ∷ []) d ≡ cs ++ entry_joined c d ∷ []
same_added [] c d same = ap (λ b. joined_or_next b c d) (place_same c.cell d.cell same)
same_added (e ∷ []) c d same = ap (λ l. e ∷ l) (same_added [] c d same)
same_added (e ∷ q ∷ es) c d same = ap (λ l. e ∷ l) (same_added (q ∷ es) c d same)

-- ---- what holds of each cell, whichever is joined

cells_at_end : (P : CellEntry → Type 0) (c : CellEntry) (cs : List CellEntry) (d : CellEntry) → ((q : CellEntry) → P q → P d → q.cell ≡ d.cell → P (entry_joined q d)) → P d → AllByRecursion P (c ∷ cs) → AllByRecursion P (cell_at_end c cs d)
cells_at_end P c [] d joins one all = elim (is_same_cell c.cell d.cell) as (λ b. is_same_cell c.cell d.cell ≡ b → AllByRecursion P (joined_or_next b c d)) [
  | true ↦ λ e. (joins c all.0 one (same_place c.cell d.cell e), tt)
  | false ↦ λ e. (all.0, (one, tt))
] refl
cells_at_end P c (e ∷ es) d joins one all = (all.0, cells_at_end P e es d joins one all.1)

pub all_at_cells : (P : CellEntry → Type 0) (cs : List CellEntry) (d : CellEntry) → ((q : CellEntry) → P q → P d → q.cell ≡ d.cell → P (entry_joined q d)) → P d → AllByRecursion P cs → AllByRecursion P (add_cell cs d)
all_at_cells P [] d joins one all = (one, tt)
all_at_cells P (c ∷ cs) d joins one all = cells_at_end P c cs d joins one all
