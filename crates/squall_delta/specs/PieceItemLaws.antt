-- The items of a board come in order, and make the board.
use Rattle.std.specs.Prelude.{◌≡◌, ◌≢◌, ℕ, ◌<◌, ◌≤◌, Bool, true, false, ◌||◌, ◌&&◌, List, [], ◌∷◌, ◌++◌, map, if◌then◌else◌, refl}
use Rattle.std.proofs.Common.{sym, ap, subst, ◌∙◌, arith, inl, inr, ⊎_elim, append_assoc}
use Rattle.std.proofs.lemmas.Bool.{true≢false}
use Rattle.std.proofs.lemmas.List.{append-nil}
use Rattle.std.specs.List.{flat_map, AllByRecursion}
use Rattle.std.specs.Cmp.{first_so}
use Rattle.squall_key.specs.Keys.{top}
use Rattle.squall_span.specs.Spans.{Interval, Beyond, IsCanonical, EndsBy}
use Rattle.squall_join.specs.declared.flat.Flat.{Flat}
use Rattle.squall_join.specs.declared.flat.Flat.TheVariants.{Unknown}
use Rattle.squall_report.specs.Issues.{PlanPair}
use Rattle.squall_report.specs.Cells.{CellPlace, is_cell_place}
use Rattle.squall_board.specs.declared.opening.Opening.{Opening}
use Rattle.squall_board.specs.Boards.{BoardValue, IsBoard, empty_board, board_join}
use Rattle.squall_board.specs.BoardLaws.{join_is, empty_is}
use Rattle.squall_board.specs.Listed.{CellEntry, entry_with, has_spans, IsCell, ComesBefore, CellsRise, cells_of, openings_of, OpeningsRise, issues_of, IssuesRise}
use Rattle.squall_board.specs.ListedLaws.{all_weaker, all_map, all_flat, openings_listed, issues_listed, cells_listed}
use Rattle.squall_wire.specs.Messages.{BoardLists, lists_with, lists_of}
use Rattle.squall_wire.specs.BoardOf.{board_of_lists}
use Rattle.squall_wire.specs.BoardOfLaws.{lists_back}
use Rattle.squall_delta.specs.Items.{Item, opening, issue, done, loaded, items_of_cell, items_of, item_board, with_items, items_board}
use Rattle.squall_delta.specs.Cutting.{done_entry, span_entry, entry_joined, add_item, add_items, no_lists, EntryFollows, ItemFollows, ItemBefore, ItemsRise, IsItem, AreNext}
use Rattle.squall_delta.specs.PieceCellLaws.{all_at_cells, not_both, later_added, same_added}
use Rattle.squall_delta.specs.PieceListLaws.{all_append, item_board_is, lists_added}

all_true : {X : Type 0} (P : X → Type 0) → ((x : X) → P x) → (xs : List X) → AllByRecursion P xs
all_true P f [] = tt
all_true P f (x ∷ xs) = (f x, all_true P f xs)

-- ---- what follows the lists with one item more

joined_before : (c d : CellEntry) (s : Interval) (p : CellPlace) → EntryFollows c (span_entry p s) → EntryFollows d (span_entry p s) → c.cell ≡ d.cell → EntryFollows (entry_joined c d) (span_entry p s)
joined_before c d s p x y same = ⊎_elim (λ lt. inl lt) (λ g. ⊎_elim (λ lt. absurd (not_both d.cell p lt (sym same ∙ g.place))) (λ h. inr (record { place = g.place; beyond = all_append (λ t. Beyond t.hi (s ∷ [])) c.spans d.spans g.beyond h.beyond })) y) x

-- what comes after the lists and after the item comes after both
pub follows_more : (d : BoardLists) (i j : Item) → ItemFollows d j → ItemBefore i j → ItemFollows (add_item d i) j
follows_more d (opening o) (opening q) x y = all_append (λ p. p.number < q.number) d.openings (o ∷ []) x y
follows_more d (opening o) (issue e) x y = x
follows_more d (opening o) (done c) x y = x
follows_more d (opening o) (loaded c s) x y = x
follows_more d (issue h) (opening q) x y = x
follows_more d (issue h) (issue e) x y = all_append (λ p. p.0 < e.0) d.issues (h ∷ []) x y
follows_more d (issue h) (done c) x y = x
follows_more d (issue h) (loaded c s) x y = x
follows_more d (done p) (opening q) x y = x
follows_more d (done p) (issue e) x y = x
follows_more d (done p) (done c) x y = all_at_cells (λ q. ComesBefore q (done_entry c)) d.cells (done_entry p) (λ q a b e. a) y.0 x
follows_more d (done p) (loaded c s) x y = all_at_cells (λ q. EntryFollows q (span_entry c s)) d.cells (done_entry p) (λ q a b e. joined_before q (done_entry p) s c a b e) y.0 x
follows_more d (loaded p t) (opening q) x y = x
follows_more d (loaded p t) (issue e) x y = x
follows_more d (loaded p t) (done c) x y = all_at_cells (λ q. ComesBefore q (done_entry c)) d.cells (span_entry p t) (λ q a b e. a) y.0 x
follows_more d (loaded p t) (loaded c s) x y = all_at_cells (λ q. EntryFollows q (span_entry c s)) d.cells (span_entry p t) (λ q a b e. joined_before q (span_entry p t) s c a b e) y.0 x

follow_all : (d : BoardLists) (i : Item) (is : List Item) → AllByRecursion (ItemFollows d) is → AllByRecursion (ItemBefore i) is → AllByRecursion (ItemFollows (add_item d i)) is
follow_all d i [] x y = tt
follow_all d i (j ∷ is) x y = (follows_more d i j x.0 y.0, follow_all d i is x.1 y.1)

-- any item comes after a board that tells nothing
follow_none : (is : List Item) → AllByRecursion (ItemFollows no_lists) is
follow_none is = all_true (ItemFollows no_lists) none is
  where
    none : (i : Item) → ItemFollows no_lists i
    none (opening o) = tt
    none (issue e) = tt
    none (done c) = tt
    none (loaded c s) = tt

-- ---- items that may be put into a board

-- after one of them the others may be put
pub next_put : (b : BoardValue) (i : Item) (is : List Item) → AreNext b (i ∷ is) → AreNext (board_join b (item_board i)) is
next_put b i is next = record {
  board = join_is b (item_board i) next.board (item_board_is i next.within.0);
  after = subst (λ d. AllByRecursion (ItemFollows d) is) (sym (lists_added b i next.board next.within.0 next.after.0)) (follow_all (lists_of b) i is next.after.1 next.rise.0);
  rise = next.rise.1;
  within = next.within.1;
}

-- they may be put into the board that tells nothing
pub next_first : (is : List Item) → ItemsRise is → AllByRecursion IsItem is → AreNext empty_board is
next_first is rise within = record { board = empty_is; after = follow_none is; rise = rise; within = within }

pub all_first : (P : Item → Type 0) (xs ys : List Item) → AllByRecursion P (xs ++ ys) → AllByRecursion P xs
all_first P [] ys h = tt
all_first P (x ∷ xs) ys h = (h.0, all_first P xs ys h.1)

pub rise_first : (xs ys : List Item) → ItemsRise (xs ++ ys) → ItemsRise xs
rise_first [] ys r = tt
rise_first (x ∷ xs) ys r = (all_first (ItemBefore x) xs ys r.0, rise_first xs ys r.1)

pub rise_second : (xs ys : List Item) → ItemsRise (xs ++ ys) → ItemsRise ys
rise_second [] ys r = r
rise_second (x ∷ xs) ys r = rise_second xs ys r.1

pub all_second : (P : Item → Type 0) (xs ys : List Item) → AllByRecursion P (xs ++ ys) → AllByRecursion P ys
all_second P [] ys h = h
all_second P (x ∷ xs) ys h = all_second P xs ys h.1

-- ---- the items of a board rise

rise_append : (xs ys : List Item) → ItemsRise xs → ItemsRise ys → AllByRecursion (λ x. AllByRecursion (ItemBefore x) ys) xs → ItemsRise (xs ++ ys)
rise_append [] ys x y h = y
rise_append (i ∷ xs) ys x y h = (all_append (ItemBefore i) xs ys x.0 h.0, rise_append xs ys x.1 y h.1)

rise_openings : (os : List Opening) → OpeningsRise os → ItemsRise (map opening os)
rise_openings [] r = tt
rise_openings (o ∷ os) r = (all_map opening (ItemBefore (opening o)) os (all_weaker (λ q. o.number < q.number) (λ q. ItemBefore (opening o) (opening q)) os r.0 (λ q lt. (lt, tt))), rise_openings os r.1)

rise_issues : (es : List (ℕ × Flat PlanPair)) → IssuesRise es → ItemsRise (map issue es)
rise_issues [] r = tt
rise_issues (e ∷ es) r = (all_map issue (ItemBefore (issue e)) es (all_weaker (λ q. e.0 < q.0) (λ q. ItemBefore (issue e) (issue q)) es r.0 (λ q lt. (lt, tt))), rise_issues es r.1)

-- what holds of the items of a cell
all_of_cell : (P : Item → Type 0) (c : CellEntry) → P (done c.cell) → AllByRecursion (λ s. P (loaded c.cell s)) c.spans → AllByRecursion P (items_of_cell c)
all_of_cell P c one spans = all_append P (if c.complete then done c.cell ∷ [] else []) (map (loaded c.cell) c.spans) (first c.complete) (all_map (loaded c.cell) P c.spans spans)
  where
    first : (b : Bool) → AllByRecursion P (if b then done c.cell ∷ [] else [])
    first true = (one, tt)
    first false = tt

-- what holds of the items of cells
all_of_cells : (P : Item → Type 0) (cs : List CellEntry) → AllByRecursion (λ c. P (done c.cell) × AllByRecursion (λ s. P (loaded c.cell s)) c.spans) cs → AllByRecursion P (flat_map items_of_cell cs)
all_of_cells P cs h = all_flat items_of_cell P cs (all_weaker (λ c. P (done c.cell) × AllByRecursion (λ s. P (loaded c.cell s)) c.spans) (λ c. AllByRecursion P (items_of_cell c)) cs h (λ c k. all_of_cell P c k.0 k.1))

all_cells : (P : Item → Type 0) → ((c : CellPlace) → P (done c)) → ((c : CellPlace) (s : Interval) → P (loaded c s)) → (cs : List CellEntry) → AllByRecursion P (flat_map items_of_cell cs)
all_cells P x y cs = all_of_cells P cs (all_true (λ c. P (done c.cell) × AllByRecursion (λ s. P (loaded c.cell s)) c.spans) (λ c. (x c.cell, all_true (λ s. P (loaded c.cell s)) (λ s. y c.cell s) c.spans)) cs)

-- the spans after one that begins beyond h begin beyond h
pub all_beyond : (h : ℕ) (ss : List Interval) → Beyond h ss → IsCanonical ss → AllByRecursion (λ t. h < t.lo) ss
all_beyond h [] b is = tt
all_beyond h (s ∷ ss) b is = (b, all_beyond h ss (further ss is.1) is.2)
  where
    further : (ss : List Interval) → Beyond s.hi ss → Beyond h ss
    further [] x = tt
    further (t ∷ ts) x = let some = is.0 in omega (arith, b, x, some)

rise_spans : (p : CellPlace) (ss : List Interval) → IsCanonical ss → ItemsRise (map (loaded p) ss)
rise_spans p [] is = tt
rise_spans p (s ∷ ss) is = (
  all_map (loaded p) (ItemBefore (loaded p s)) ss (all_weaker (λ t. s.hi < t.lo) (λ t. ItemBefore (loaded p s) (loaded p t)) ss (all_beyond s.hi ss is.1 is.2) (λ t lt. (inr (record { place = refl; beyond = (lt, tt) }), tt))),
  rise_spans p ss is.2,
)

rise_cell : (c : CellEntry) → IsCell c → ItemsRise (items_of_cell c)
rise_cell c is = rise_append (if c.complete then done c.cell ∷ [] else []) (map (loaded c.cell) c.spans) (first c.complete) (rise_spans c.cell c.spans is.spans.0) (before c.complete)
  where
    first : (b : Bool) → ItemsRise (if b then done c.cell ∷ [] else [])
    first true = (tt, tt)
    first false = tt

    before : (b : Bool) → AllByRecursion (λ x. AllByRecursion (ItemBefore x) (map (loaded c.cell) c.spans)) (if b then done c.cell ∷ [] else [])
    before true = (all_map (loaded c.cell) (ItemBefore (done c.cell)) c.spans (all_true (λ t. ItemBefore (done c.cell) (loaded c.cell t)) (λ t. (inr (record { place = refl; beyond = tt }), tt)) c.spans), tt)
    before false = tt

-- the items of a cell come before those of later cells
later_cells : (c : CellEntry) (cs : List CellEntry) → AllByRecursion (ComesBefore c) cs → AllByRecursion (λ x. AllByRecursion (ItemBefore x) (flat_map items_of_cell cs)) (items_of_cell c)
later_cells c cs h = all_of_cell (λ x. AllByRecursion (ItemBefore x) (flat_map items_of_cell cs)) c
    (all_of_cells (ItemBefore (done c.cell)) cs (all_weaker (ComesBefore c) (λ q. ItemBefore (done c.cell) (done q.cell) × AllByRecursion (λ s. ItemBefore (done c.cell) (loaded q.cell s)) q.spans) cs h (λ q lt. ((lt, tt), all_true (λ s. ItemBefore (done c.cell) (loaded q.cell s)) (λ s. (inl lt, tt)) q.spans))))
    (all_true (λ t. AllByRecursion (ItemBefore (loaded c.cell t)) (flat_map items_of_cell cs)) (λ t. all_of_cells (ItemBefore (loaded c.cell t)) cs (all_weaker (ComesBefore c) (λ q. ItemBefore (loaded c.cell t) (done q.cell) × AllByRecursion (λ s. ItemBefore (loaded c.cell t) (loaded q.cell s)) q.spans) cs h (λ q lt. ((lt, tt), all_true (λ s. ItemBefore (loaded c.cell t) (loaded q.cell s)) (λ s. (inl lt, tt)) q.spans)))) c.spans)

rise_cells : (cs : List CellEntry) → CellsRise cs → AllByRecursion IsCell cs → ItemsRise (flat_map items_of_cell cs)
rise_cells [] r is = tt
rise_cells (c ∷ cs) r is = rise_append (items_of_cell c) (flat_map items_of_cell cs) (rise_cell c is.0) (rise_cells cs r.1 is.1) (later_cells c cs r.0)

-- the items of a board rise
pub items_rise : (b : BoardValue) → IsBoard b → ItemsRise (items_of b)
items_rise b is =
    let os = openings_listed b is in
    let es = issues_listed b is in
    let cs = cells_listed b is in
    rise_append (map opening (openings_of b)) (map issue (issues_of b) ++ flat_map items_of_cell (cells_of b)) (rise_openings (openings_of b) os.rise)
    (rise_append (map issue (issues_of b)) (flat_map items_of_cell (cells_of b)) (rise_issues (issues_of b) es.rise) (rise_cells (cells_of b) cs.rise cs.within)
    (all_map issue (λ x. AllByRecursion (ItemBefore x) (flat_map items_of_cell (cells_of b))) (issues_of b) (all_true (λ e. AllByRecursion (ItemBefore (issue e)) (flat_map items_of_cell (cells_of b))) (λ e. all_cells (ItemBefore (issue e)) (λ c. tt) (λ c s. tt) (cells_of b)) (issues_of b))))
    (all_map opening (λ x. AllByRecursion (ItemBefore x) (map issue (issues_of b) ++ flat_map items_of_cell (cells_of b))) (openings_of b) (all_true (λ o. AllByRecursion (ItemBefore (opening o)) (map issue (issues_of b) ++ flat_map items_of_cell (cells_of b)))
    (λ o. all_append (ItemBefore (opening o)) (map issue (issues_of b)) (flat_map items_of_cell (cells_of b)) (all_map issue (ItemBefore (opening o)) (issues_of b) (all_true (λ e. ItemBefore (opening o) (issue e)) (λ e. tt) (issues_of b))) (all_cells (ItemBefore (opening o)) (λ c. tt) (λ c s. tt) (cells_of b)))
    (openings_of b)))

-- ---- they lie within their limits

spans_within : (p : CellPlace) (ss : List Interval) → is_cell_place p ≡ true → IsCanonical ss → EndsBy top ss → AllByRecursion (λ s. IsItem (loaded p s)) ss
spans_within p [] place is ends = tt
spans_within p (s ∷ ss) place is ends = ((place, is.0, ends.0), spans_within p ss place is.2 ends.1)

pub all_of_items : (P : Item → Type 0) (b : BoardValue) → AllByRecursion (λ o. P (opening o)) (openings_of b) → AllByRecursion (λ e. P (issue e)) (issues_of b) → AllByRecursion (λ c. P (done c.cell) × AllByRecursion (λ s. P (loaded c.cell s)) c.spans) (cells_of b) → AllByRecursion P (items_of b)
all_of_items P b x y z = all_append P (map opening (openings_of b)) (map issue (issues_of b) ++ flat_map items_of_cell (cells_of b)) (all_map opening P (openings_of b) x)
    (all_append P (map issue (issues_of b)) (flat_map items_of_cell (cells_of b)) (all_map issue P (issues_of b) y) (all_of_cells P (cells_of b) z))

both_all : {X : Type 0} (P Q : X → Type 0) (xs : List X) → AllByRecursion P xs → AllByRecursion Q xs → AllByRecursion (λ x. P x × Q x) xs
both_all P Q [] x y = tt
both_all P Q (z ∷ zs) x y = ((x.0, y.0), both_all P Q zs x.1 y.1)

pub items_within : (b : BoardValue) → IsBoard b → AllByRecursion IsItem (items_of b)
items_within b is =
    let es = issues_listed b is in
    all_of_items IsItem b (openings_listed b is).within
    (both_all (λ e. 1 ≤ e.0) (λ e. e.1 ≢ Unknown) (issues_of b) es.within es.known)
    (all_weaker IsCell (λ c. IsItem (done c.cell) × AllByRecursion (λ s. IsItem (loaded c.cell s)) c.spans) (cells_of b) (cells_listed b is).within (λ c k. (first_so _ _ k.entry, spans_within c.cell c.spans (first_so _ _ k.entry) k.spans.0 k.spans.1)))

-- so they may be put into the board that tells nothing
pub items_next : (b : BoardValue) → IsBoard b → AreNext empty_board (items_of b)
items_next b is = next_first (items_of b) (items_rise b is) (items_within b is)

-- ---- they make the board

-- the lists of a board with items
pub lists_with_items : (b : BoardValue) (is : List Item) → AreNext b is → lists_of (with_items b is) ≡ add_items (lists_of b) is
lists_with_items b [] next = refl
lists_with_items b (i ∷ is) next = lists_with_items (board_join b (item_board i)) is (next_put b i is next) ∙ ap (λ d. add_items d is) (lists_added b i next.board next.within.0 next.after.0)

pub board_with_items : (b : BoardValue) (is : List Item) → AreNext b is → IsBoard (with_items b is)
board_with_items b [] next = next.board
board_with_items b (i ∷ is) next = board_with_items (board_join b (item_board i)) is (next_put b i is next)

add_append : (d : BoardLists) (xs ys : List Item) → add_items d (xs ++ ys) ≡ add_items (add_items d xs) ys
add_append d [] ys = refl
add_append d (x ∷ xs) ys = add_append (add_item d x) xs ys

pub append_one : {X : Type 0} (xs : List X) (x : X) (ys : List X) → (xs ++ x ∷ []) ++ ys ≡ xs ++ x ∷ ys
append_one xs x ys = append_assoc xs (x ∷ []) ys

add_openings : (os us : List Opening) (es : List (ℕ × Flat PlanPair)) (cs : List CellEntry) → add_items (lists_with os es cs) (map opening us) ≡ lists_with (os ++ us) es cs
add_openings os [] es cs = ap (λ l. lists_with l es cs) (sym (append-nil os))
add_openings os (u ∷ us) es cs = add_openings (os ++ u ∷ []) us es cs ∙ ap (λ l. lists_with l es cs) (append_one os u us)

add_issues : (os : List Opening) (es hs : List (ℕ × Flat PlanPair)) (cs : List CellEntry) → add_items (lists_with os es cs) (map issue hs) ≡ lists_with os (es ++ hs) cs
add_issues os es [] cs = ap (λ l. lists_with os l cs) (sym (append-nil es))
add_issues os es (h ∷ hs) cs = add_issues os (es ++ h ∷ []) hs cs ∙ ap (λ l. lists_with os l cs) (append_one es h hs)

same_entry : (p : CellPlace) (k : Bool) (ss ts : List Interval) → k || false ≡ k
same_entry p true ss ts = refl
same_entry p false ss ts = refl

add_spans : (os : List Opening) (es : List (ℕ × Flat PlanPair)) (cs : List CellEntry) (p : CellPlace) (k : Bool) (ss ts : List Interval) → add_items (lists_with os es (cs ++ entry_with p k ss ∷ [])) (map (loaded p) ts) ≡ lists_with os es (cs ++ entry_with p k (ss ++ ts) ∷ [])
add_spans os es cs p k ss [] = ap (λ l. lists_with os es (cs ++ entry_with p k l ∷ [])) (sym (append-nil ss))
add_spans os es cs p k ss (t ∷ ts) =
    ap (λ l. add_items (lists_with os es l) (map (loaded p) ts)) (same_added cs (entry_with p k ss) (span_entry p t) refl)
    ∙ ap (λ b. add_items (lists_with os es (cs ++ entry_with p b (ss ++ t ∷ []) ∷ [])) (map (loaded p) ts)) (same_entry p k ss ts)
    ∙ add_spans os es cs p k (ss ++ t ∷ []) ts
    ∙ ap (λ l. lists_with os es (cs ++ entry_with p k l ∷ [])) (append_one ss t ts)

add_some : (os : List Opening) (es : List (ℕ × Flat PlanPair)) (cs : List CellEntry) (p : CellPlace) (k : Bool) (ss : List Interval) → (k || has_spans ss) ≡ true → AllByRecursion (λ c. ComesBefore c (entry_with p k ss)) cs → add_items (lists_with os es cs) (items_of_cell (entry_with p k ss)) ≡ lists_with os es (cs ++ entry_with p k ss ∷ [])
add_some os es cs p true ss some before = ap (λ l. add_items (lists_with os es l) (map (loaded p) ss)) (later_added cs (done_entry p) before) ∙ add_spans os es cs p true [] ss
add_some os es cs p false [] some before = absurd (true≢false (sym some))
add_some os es cs p false (s ∷ ss) some before = ap (λ l. add_items (lists_with os es l) (map (loaded p) ss)) (later_added cs (span_entry p s) before) ∙ add_spans os es cs p false (s ∷ []) ss

second_of : (a b : Bool) → (a && b) ≡ true → b ≡ true
second_of true b e = e
second_of false b e = absurd (true≢false (sym e))

-- the cells before and after
abbrev AllBefore : List CellEntry → List CellEntry → Type 0
AllBefore cs ds = AllByRecursion (λ d. AllByRecursion (λ c. ComesBefore c d) cs) ds

before_more : (cs : List CellEntry) (d : CellEntry) (ds : List CellEntry) → AllBefore cs ds → AllByRecursion (ComesBefore d) ds → AllBefore (cs ++ d ∷ []) ds
before_more cs d [] x y = tt
before_more cs d (e ∷ ds) x y = (all_append (λ c. ComesBefore c e) cs (d ∷ []) x.0 (y.0, tt), before_more cs d ds x.1 y.1)

add_cells : (os : List Opening) (es : List (ℕ × Flat PlanPair)) (cs ds : List CellEntry) → CellsRise ds → AllByRecursion IsCell ds → AllBefore cs ds → add_items (lists_with os es cs) (flat_map items_of_cell ds) ≡ lists_with os es (cs ++ ds)
add_cells os es cs [] rise within before = ap (λ l. lists_with os es l) (sym (append-nil cs))
add_cells os es cs (d ∷ ds) rise within before =
    add_append (lists_with os es cs) (items_of_cell d) (flat_map items_of_cell ds)
    ∙ ap (λ l. add_items l (flat_map items_of_cell ds)) (add_some os es cs d.cell d.complete d.spans (second_of (is_cell_place d.cell) _ within.0.entry) before.0)
    ∙ add_cells os es (cs ++ d ∷ []) ds rise.1 within.1 (before_more cs d ds before.1 rise.0)
    ∙ ap (λ l. lists_with os es l) (append_one cs d ds)

-- the items of a board gather into its lists
pub items_gather : (b : BoardValue) → IsBoard b → add_items no_lists (items_of b) ≡ lists_of b
items_gather b is =
    let cs = cells_listed b is in
    add_append no_lists (map opening (openings_of b)) (map issue (issues_of b) ++ flat_map items_of_cell (cells_of b))
    ∙ ap (λ d. add_items d (map issue (issues_of b) ++ flat_map items_of_cell (cells_of b))) (add_openings [] (openings_of b) [] [])
    ∙ add_append (lists_with (openings_of b) [] []) (map issue (issues_of b)) (flat_map items_of_cell (cells_of b))
    ∙ ap (λ d. add_items d (flat_map items_of_cell (cells_of b))) (add_issues (openings_of b) [] (issues_of b) [])
    ∙ add_cells (openings_of b) (issues_of b) [] (cells_of b) cs.rise cs.within (all_true (λ d. AllByRecursion (λ c. ComesBefore c d) []) (λ d. tt) (cells_of b))

-- the board of a board's items is that board
pub items_back : (b : BoardValue) → IsBoard b → items_board (items_of b) ≡ b
items_back b is =
    let next = items_next b is in
    sym (lists_back (items_board (items_of b)) (board_with_items empty_board (items_of b) next))
    ∙ ap board_of_lists (lists_with_items empty_board (items_of b) next ∙ items_gather b is)
    ∙ lists_back b is
