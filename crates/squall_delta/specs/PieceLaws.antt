-- What the pieces of a board are.
use Rattle.std.specs.Prelude.{◌≡◌, ℕ, suc, ◌+◌, ◌-◌, ◌<◌, ◌≤◌, min, List, [], ◌∷◌, ◌++◌, map, length, refl}
use Rattle.std.proofs.Common.{sym, ap, subst, ◌∙◌, arith}
use Rattle.std.proofs.lemmas.List.{append-nil}
use Rattle.std.specs.List.{flat_map, AllByRecursion}
use Rattle.squall_join.specs.declared.flat.Flat.{Flat}
use Rattle.squall_report.specs.Issues.{PlanPair}
use Rattle.squall_board.specs.declared.opening.Opening.{Opening}
use Rattle.squall_board.specs.Boards.{BoardValue, IsBoard, is_nested, empty_board, board_join}
use Rattle.squall_board.specs.BoardLaws.{board_laws, empty_is}
use Rattle.squall_board.specs.Listed.{CellEntry, openings_of, issues_of, cells_of}
use Rattle.squall_board.specs.ListedLaws.{all_weaker}
use Rattle.squall_wire.specs.declared.message.Message.TheVariants.{Delta}
use Rattle.squall_wire.specs.Limits.{body_limit}
use Rattle.squall_wire.specs.Messages.{body_of, spell_body}
use Rattle.squall_delta.specs.Items.{Item, opening, issue, items_of_cell, items_of, item_board, with_items, items_board}
use Rattle.squall_delta.specs.Pieces.{body_length, frame_length, FitsBody, FitsFrame, FitsWithin, EachFitsWithin, body_within, AreLongestRuns, items_of_groups, AreCut, ArePieces, ArePiecesWithin, joined_boards}
use Rattle.squall_delta.specs.Cutting.{CutBoard, uncut, pieces_with, cut_items, FitsAlone, IsFed, HasTooLong, IsItem, AreNext}
use Rattle.squall_delta.specs.PieceListLaws.{item_board_is}
use Rattle.squall_delta.specs.PieceItemLaws.{items_next, items_within, items_back}
use Rattle.squall_delta.specs.PieceRunLaws.{with_append, cut_joined, cut_runs, runs_are_cut, fed_is_cut}
use Rattle.squall_delta.specs.PieceStepLaws.{IsFeeding, feeding_starts, feeding_next, feeding_on, feeding_ends, feeding_long}

-- ---- joins

nested_with : (b : BoardValue) (is : List Item) → is_nested b → AllByRecursion IsItem is → is_nested (with_items b is)
nested_with b [] nested within = nested
nested_with b (i ∷ is) nested within = nested_with (board_join b (item_board i)) is (board_laws.closed b (item_board i) nested (item_board_is i within.0).nested) within.1

empty_first : (b : BoardValue) → is_nested b → board_join empty_board b ≡ b
empty_first b nested = board_laws.comm empty_board b board_laws.bottom_is nested ∙ board_laws.neutral b nested

-- items put into a board are joined into it
pub with_joined : (b : BoardValue) (is : List Item) → is_nested b → AllByRecursion IsItem is → with_items b is ≡ board_join b (items_board is)
with_joined b [] nested within = sym (board_laws.neutral b nested)
with_joined b (i ∷ is) nested within =
    let one = (item_board_is i within.0).nested in
    let rest = nested_with empty_board is board_laws.bottom_is within.1 in
    with_joined (board_join b (item_board i)) is (board_laws.closed b (item_board i) nested one) within.1
    ∙ board_laws.assoc b (item_board i) (items_board is) nested one rest
    ∙ ap (board_join b) (sym (ap (λ c. with_items c is) (empty_first (item_board i) one) ∙ with_joined (item_board i) is one within.1))

first_all : (P : Item → Type 0) (xs ys : List Item) → AllByRecursion P (xs ++ ys) → AllByRecursion P xs
first_all P [] ys h = tt
first_all P (x ∷ xs) ys h = (h.0, first_all P xs ys h.1)

second_all : (P : Item → Type 0) (xs ys : List Item) → AllByRecursion P (xs ++ ys) → AllByRecursion P ys
second_all P [] ys h = h
second_all P (x ∷ xs) ys h = second_all P xs ys h.1

-- the boards of groups join to the board of all their items
groups_join : (gs : List (List Item)) → AllByRecursion IsItem (items_of_groups gs) → joined_boards (map items_board gs) ≡ items_board (items_of_groups gs)
groups_join [] within = refl
groups_join (g ∷ gs) within =
    let more = second_all IsItem g (items_of_groups gs) within in
    ap (board_join (items_board g)) (groups_join gs more)
    ∙ sym (with_joined (items_board g) (items_of_groups gs) (nested_with empty_board g board_laws.bottom_is (first_all IsItem g (items_of_groups gs) within)) more)
    ∙ sym (with_append empty_board g (items_of_groups gs))

-- ---- pieces

-- what a board is cut into joins to it
pub cut_join : (most : ℕ) (b : BoardValue) (ps : List BoardValue) → IsBoard b → AreCut most b ps → joined_boards ps ≡ b
cut_join most b ps is are =
    ap joined_boards are.boards
    ∙ groups_join are.groups (subst (λ l. AllByRecursion IsItem l) (sym are.items) (items_within b is))
    ∙ ap items_board are.items
    ∙ items_back b is

groups_are : (most : ℕ) (b : BoardValue) (ps : List BoardValue) → IsBoard b → (are : AreCut most b ps) → ps ≡ map items_board (cut_items most (items_of b))
groups_are most b ps is are = are.boards ∙ ap (map items_board) (runs_are_cut most are.groups are.runs (subst (λ l. AreNext empty_board l) (sym are.items) (items_next b is)) ∙ ap (cut_items most) are.items)

-- a board is cut in one way
pub one_cut : (most : ℕ) (b : BoardValue) (ps qs : List BoardValue) → IsBoard b → AreCut most b ps → AreCut most b qs → ps ≡ qs
one_cut most b ps qs is x y = groups_are most b ps is x ∙ sym (groups_are most b qs is y)

runs_fit : (most : ℕ) (gs : List (List Item)) → AreLongestRuns most gs → AllByRecursion (FitsBody most) (map items_board gs)
runs_fit most [] runs = tt
runs_fit most (g ∷ gs) runs = (runs.1, runs_fit most gs runs.3)

-- no piece has a longer body
pub cut_fits : (most : ℕ) (b : BoardValue) (ps : List BoardValue) → AreCut most b ps → AllByRecursion (FitsBody most) ps
cut_fits most b ps are = subst (λ l. AllByRecursion (FitsBody most) l) (sym are.boards) (runs_fit most are.groups are.runs)

-- the board that tells nothing has no pieces
pub empty_has_none : (most : ℕ) (ps : List BoardValue) → AreCut most empty_board ps → ps ≡ []
empty_has_none most ps are = groups_are most empty_board ps empty_is are

-- a board without pieces tells nothing
pub none_is_empty : (most : ℕ) (b : BoardValue) → IsBoard b → AreCut most b [] → b ≡ empty_board
none_is_empty most b is are = sym (cut_join most b [] is are)

all_alone : (most : ℕ) (is : List Item) → AllByRecursion (FitsAlone most) is → AreLongestRuns most (cut_items most is)
all_alone most [] alone = tt
all_alone most (i ∷ is) alone = cut_runs most (i ∷ []) is (λ e. cc) alone.0 alone.1

all_joined : (most : ℕ) (is : List Item) → items_of_groups (cut_items most is) ≡ is
all_joined most [] = refl
all_joined most (i ∷ is) = cut_joined most (i ∷ []) is

-- what is made of the items of a board, fed one after the other, are its pieces
pub fed_are_cut : (most : ℕ) (b : BoardValue) (c : CutBoard) → IsBoard b → IsFed (uncut most) c (items_of b) → AreCut most b (pieces_with c)
fed_are_cut most b c is f = record {
  groups = cut_items most (items_of b);
  items = all_joined most (items_of b);
  runs = all_alone most (items_of b) f.alone;
  boards = ap pieces_with f.fed ∙ fed_is_cut most (items_of b) (items_next b is) f.alone;
}

-- ---- the limit of a frame

some_bytes : (b : BoardValue) → 0 < body_length b
some_bytes b = some (body_length b) _ refl
  where
    some : (n m : ℕ) → n ≡ suc m → 0 < n
    some n m e = omega (arith, e)

-- a frame has eight bytes before its body
frame_bytes : (b : BoardValue) → frame_length b ≡ 8 + body_length b
frame_bytes b = eight (body_length b)
  where
    eight : (n : ℕ) → suc (suc (suc (suc (suc (suc (suc (suc n))))))) ≡ 8 + n
    eight n = omega arith

-- a body that is short enough has a frame that is
pub within_by_body : (limit : ℕ) (b : BoardValue) → FitsBody (body_within limit) b → FitsWithin limit b
within_by_body limit b fits = (short (body_length b) fits, subst (λ n. n ≤ limit) (sym (frame_bytes b)) (whole (body_length b) (some_bytes b) fits))
  where
    short : (n : ℕ) → n ≤ min (limit - 8) body_limit → n ≤ body_limit
    short n le = omega (arith, le)

    whole : (n : ℕ) → 0 < n → n ≤ min (limit - 8) body_limit → 8 + n ≤ limit
    whole n some le = omega (arith, some, le)

-- and the other way round
pub body_by_within : (limit : ℕ) (b : BoardValue) → FitsWithin limit b → FitsBody (body_within limit) b
body_by_within limit b fits = both (body_length b) fits.0 (subst (λ n. n ≤ limit) (frame_bytes b) fits.1)
  where
    both : (n : ℕ) → n ≤ body_limit → 8 + n ≤ limit → n ≤ min (limit - 8) body_limit
    both n x y = omega (arith, x, y)

pub pieces_within_limit : (limit : ℕ) (b : BoardValue) (ps : List BoardValue) → ArePiecesWithin limit b ps → AllByRecursion (FitsWithin limit) ps
pieces_within_limit limit b ps are = all_weaker (FitsBody (body_within limit)) (FitsWithin limit) ps (cut_fits (body_within limit) b ps are) (within_by_body limit)

pub each_within : (limit : ℕ) (b : BoardValue) → AllByRecursion (FitsAlone (body_within limit)) (items_of b) → EachFitsWithin limit b
each_within limit b all = all_weaker (FitsAlone (body_within limit)) (λ i. FitsWithin limit (items_board (i ∷ []))) (items_of b) all (λ i. within_by_body limit (items_board (i ∷ [])))

pub not_each_within : (limit : ℕ) (b : BoardValue) → HasTooLong (body_within limit) (items_of b) → EachFitsWithin limit b → ⊥
not_each_within limit b long all = long.some (all_weaker (λ i. FitsWithin limit (items_board (i ∷ []))) (FitsAlone (body_within limit)) (items_of b) all (λ i. body_by_within limit (items_board (i ∷ []))))

-- a limit that some item passes is a low one
pub low_limit : (limit : ℕ) (is : List Item) → HasTooLong (body_within limit) is → limit < 98337
low_limit limit is long = low long.low
  where
    low : min (limit - 8) body_limit < 98329 → limit < 98337
    low lt = omega (arith, lt)

-- at the limit of the format the body's limit is that of every body
pub whole_limit : body_within 1048584 ≡ body_limit
whole_limit = refl

-- a board that fits a frame has no body that is too long
pub not_too_long : (b : BoardValue) → FitsFrame b → body_limit < length (spell_body (body_of (Delta b))) → ⊥
not_too_long b fits long = neither (length (spell_body (body_of (Delta b)))) fits long
  where
    neither : (n : ℕ) → n ≤ body_limit → body_limit < n → ⊥
    neither n le lt = omega (arith, le, lt)

-- ---- the three lists of a board, one after the other

map_map : {X Y Z : Type 0} (f : Y → Z) (g : X → Y) (xs : List X) → map f (map g xs) ≡ map (λ x. f (g x)) xs
map_map f g [] = refl
map_map f g (x ∷ xs) = ap (λ l. f (g x) ∷ l) (map_map f g xs)

flat_of_map : {X Y Z : Type 0} (f : Y → List Z) (g : X → Y) (xs : List X) → flat_map f (map g xs) ≡ flat_map (λ x. f (g x)) xs
flat_of_map f g [] = refl
flat_of_map f g (x ∷ xs) = ap (λ l. f (g x) ++ l) (flat_of_map f g xs)

abbrev issues_and_cells : BoardValue → List Item
issues_and_cells b = map issue (issues_of b) ++ flat_map items_of_cell (cells_of b)

first_left : (b : BoardValue) (os : List Opening) → os ≡ openings_of b → items_of b ≡ map opening os ++ issues_and_cells b
first_left b os e = ap (λ l. map opening l ++ issues_and_cells b) (sym e)

second_left : {X : Type 0} (f : X → ℕ × Flat PlanPair) (b : BoardValue) (xs : List X) → map f xs ≡ issues_of b → issues_and_cells b ≡ map (λ x. issue (f x)) xs ++ flat_map items_of_cell (cells_of b)
second_left f b xs e = ap (λ l. l ++ flat_map items_of_cell (cells_of b)) (ap (map issue) (sym e) ∙ map_map issue f xs)

third_left : {Y : Type 0} (g : Y → CellEntry) (b : BoardValue) (ys : List Y) → map g ys ≡ cells_of b → flat_map items_of_cell (cells_of b) ≡ flat_map (λ y. items_of_cell (g y)) ys ++ []
third_left g b ys e = ap (flat_map items_of_cell) (sym e) ∙ flat_of_map items_of_cell g ys ∙ sym (append-nil (flat_map (λ y. items_of_cell (g y)) ys))

start_fed : (most : ℕ) (b : BoardValue) (c : CutBoard) → IsBoard b → c ≡ uncut most → IsFeeding (uncut most) c (items_of b) (items_of b)
start_fed most b c is e = subst (λ d. IsFeeding (uncut most) d (items_of b) (items_of b)) (sym e) (feeding_starts (uncut most) (items_of b) (items_next b is))

first_fed : (most : ℕ) (b : BoardValue) (c d : CutBoard) (os : List Opening) → IsBoard b → os ≡ openings_of b → c ≡ uncut most → IsFed c d (map opening os) → IsFeeding (uncut most) d (items_of b) (issues_and_cells b)
first_fed most b c d os is e start step = feeding_on (uncut most) c d (items_of b) (items_of b) (map opening os) (issues_and_cells b) (first_left b os e) step (start_fed most b c is start)

second_fed : {X : Type 0} (most : ℕ) (f : X → ℕ × Flat PlanPair) (b : BoardValue) (d e : CutBoard) (xs : List X) → map f xs ≡ issues_of b → IsFeeding (uncut most) d (items_of b) (issues_and_cells b) → IsFed d e (map (λ x. issue (f x)) xs) → IsFeeding (uncut most) e (items_of b) (flat_map items_of_cell (cells_of b))
second_fed most f b d e xs are feeding step = feeding_on (uncut most) d e (items_of b) (issues_and_cells b) (map (λ x. issue (f x)) xs) (flat_map items_of_cell (cells_of b)) (second_left f b xs are) step feeding

-- the openings may be put first
pub openings_next : (most : ℕ) (b : BoardValue) (c : CutBoard) (os : List Opening) → IsBoard b → os ≡ openings_of b → c ≡ uncut most → AreNext c.piece (map opening os)
openings_next most b c os is e start = feeding_next (uncut most) c (items_of b) (items_of b) (map opening os) (issues_and_cells b) (first_left b os e) (start_fed most b c is start)

pub openings_long : (most : ℕ) (b : BoardValue) (c : CutBoard) (os : List Opening) → IsBoard b → os ≡ openings_of b → c ≡ uncut most → HasTooLong c.most (map opening os) → HasTooLong most (items_of b)
openings_long most b c os is e start long = feeding_long (uncut most) c (items_of b) (items_of b) (map opening os) (issues_and_cells b) (first_left b os e) long (start_fed most b c is start)

-- then the issues
pub issues_next : {X : Type 0} (most : ℕ) (f : X → ℕ × Flat PlanPair) (b : BoardValue) (c d : CutBoard) (os : List Opening) (xs : List X) → IsBoard b → os ≡ openings_of b → map f xs ≡ issues_of b → c ≡ uncut most → IsFed c d (map opening os) → AreNext d.piece (map (λ x. issue (f x)) xs)
issues_next most f b c d os xs is e are start step = feeding_next (uncut most) d (items_of b) (issues_and_cells b) (map (λ x. issue (f x)) xs) (flat_map items_of_cell (cells_of b)) (second_left f b xs are) (first_fed most b c d os is e start step)

pub issues_long : {X : Type 0} (most : ℕ) (f : X → ℕ × Flat PlanPair) (b : BoardValue) (c d : CutBoard) (os : List Opening) (xs : List X) → IsBoard b → os ≡ openings_of b → map f xs ≡ issues_of b → c ≡ uncut most → IsFed c d (map opening os) → HasTooLong d.most (map (λ x. issue (f x)) xs) → HasTooLong most (items_of b)
issues_long most f b c d os xs is e are start step long = feeding_long (uncut most) d (items_of b) (issues_and_cells b) (map (λ x. issue (f x)) xs) (flat_map items_of_cell (cells_of b)) (second_left f b xs are) long (first_fed most b c d os is e start step)

-- then the cells
pub cells_next : {X Y : Type 0} (most : ℕ) (f : X → ℕ × Flat PlanPair) (g : Y → CellEntry) (b : BoardValue) (c d e : CutBoard) (os : List Opening) (xs : List X) (ys : List Y) → IsBoard b → os ≡ openings_of b → map f xs ≡ issues_of b → map g ys ≡ cells_of b → c ≡ uncut most → IsFed c d (map opening os) → IsFed d e (map (λ x. issue (f x)) xs) → AreNext e.piece (flat_map (λ y. items_of_cell (g y)) ys)
cells_next most f g b c d e os xs ys is x y z start one two = feeding_next (uncut most) e (items_of b) (flat_map items_of_cell (cells_of b)) (flat_map (λ y. items_of_cell (g y)) ys) [] (third_left g b ys z) (second_fed most f b d e xs y (first_fed most b c d os is x start one) two)

pub cells_long : {X Y : Type 0} (most : ℕ) (f : X → ℕ × Flat PlanPair) (g : Y → CellEntry) (b : BoardValue) (c d e : CutBoard) (os : List Opening) (xs : List X) (ys : List Y) → IsBoard b → os ≡ openings_of b → map f xs ≡ issues_of b → map g ys ≡ cells_of b → c ≡ uncut most → IsFed c d (map opening os) → IsFed d e (map (λ x. issue (f x)) xs) → HasTooLong e.most (flat_map (λ y. items_of_cell (g y)) ys) → HasTooLong most (items_of b)
cells_long most f g b c d e os xs ys is x y z start one two long = feeding_long (uncut most) e (items_of b) (flat_map items_of_cell (cells_of b)) (flat_map (λ y. items_of_cell (g y)) ys) [] (third_left g b ys z) long (second_fed most f b d e xs y (first_fed most b c d os is x start one) two)

-- and all of it makes the pieces
pub all_fed : {X Y : Type 0} (most : ℕ) (f : X → ℕ × Flat PlanPair) (g : Y → CellEntry) (b : BoardValue) (c d e h : CutBoard) (os : List Opening) (xs : List X) (ys : List Y) → IsBoard b → os ≡ openings_of b → map f xs ≡ issues_of b → map g ys ≡ cells_of b → c ≡ uncut most → IsFed c d (map opening os) → IsFed d e (map (λ x. issue (f x)) xs) → IsFed e h (flat_map (λ y. items_of_cell (g y)) ys) → IsFed (uncut most) h (items_of b)
all_fed most f g b c d e h os xs ys is x y z start one two three =
    feeding_ends (uncut most) h (items_of b) [] refl (feeding_on (uncut most) e h (items_of b) (flat_map items_of_cell (cells_of b)) (flat_map (λ y. items_of_cell (g y)) ys) [] (third_left g b ys z) three (second_fed most f b d e xs y (first_fed most b c d os is x start one) two))
