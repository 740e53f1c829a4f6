-- How a board is cut: one item after another goes into the piece that is being filled (this project's form).
use Rattle.std.specs.Prelude.{◌≡◌, ◌≢◌, ℕ, ◌+◌, ◌<◌, ◌≤◌, nat_lt, Bool, true, false, ◌||◌, List, [], ◌∷◌, ◌++◌, length, Option, None, Some, ◌⊎◌, if◌then◌else◌}
use Rattle.std.specs.List.{flat_map, AllByRecursion}
use Rattle.squall_key.specs.Keys.{top}
use Rattle.squall_span.specs.Spans.{Interval, Beyond}
use Rattle.squall_join.specs.declared.flat.Flat.TheVariants.{Unknown}
use Rattle.squall_report.specs.Cells.{CellPlace, is_cell_place, is_same_cell}
use Rattle.squall_board.specs.Boards.{BoardValue, IsBoard, empty_board, board_join}
use Rattle.squall_board.specs.Listed.{CellEntry, entry_with, ComesBefore, IsOpening, cells_of, issues_of}
use Rattle.squall_wire.specs.Limits.{body_limit}
use Rattle.squall_wire.specs.Messages.{BoardLists, lists_with, lists_of}
use Rattle.squall_wire.specs.Spelling.{spell_span, spell_issue, spell_cell}
use Rattle.squall_delta.specs.Items.{Item, opening, issue, done, loaded, item_board, items_board}
use Rattle.squall_delta.specs.Pieces.{body_length, FitsBody}

-- ---- a board that is cut

-- the most bytes of a piece's body, the pieces that are finished, and the piece that takes the next items
pub record CutBoard : Type 0 where
  pub most : ℕ
  pub finished : List BoardValue
  pub piece : BoardValue

abbrev pub cut_with : ℕ → List BoardValue → BoardValue → CutBoard
cut_with most finished piece = record { most = most; finished = finished; piece = piece }

-- nothing is cut
abbrev pub uncut : ℕ → CutBoard
uncut most = cut_with most [] empty_board

-- the piece is finished, and the next one begun
abbrev pub turned : CutBoard → CutBoard
turned c = cut_with c.most (c.finished ++ c.piece ∷ []) empty_board

-- the same if a body of that length is not too long, and else the next piece is begun
abbrev pub roomy : CutBoard → ℕ → CutBoard
roomy c bytes = if nat_lt c.most bytes then turned c else c

-- the item is put into the piece
abbrev pub put_item : CutBoard → Item → CutBoard
put_item c i = cut_with c.most c.finished (board_join c.piece (item_board i))

-- the item is put into the piece if its body is not too long with it, and else into the next
abbrev pub fed : CutBoard → Item → CutBoard
fed c i = put_item (roomy c (body_length (board_join c.piece (item_board i)))) i

-- one item after the other
abbrev pub fed_all : CutBoard → List Item → CutBoard
fed_all c [] = c
fed_all c (i ∷ is) = fed_all (fed c i) is

-- the bytes of a body without items
abbrev pub empty_bytes : ℕ
empty_bytes = 8

-- the pieces, with the one that took the last items
abbrev pub pieces_with : CutBoard → List BoardValue
pieces_with c = if nat_lt empty_bytes (body_length c.piece) then c.finished ++ c.piece ∷ [] else c.finished

-- ---- groups of items

-- how many bytes the body of the items has
abbrev pub group_bytes : List Item → ℕ
group_bytes g = body_length (items_board g)

-- the items in groups, each as long as a body can hold, if the first has begun
abbrev pub cut_after : ℕ → List Item → List Item → List (List Item)
cut_after most g [] = g ∷ []
cut_after most g (i ∷ is) = if nat_lt most (group_bytes (g ++ i ∷ [])) then g ∷ cut_after most (i ∷ []) is else cut_after most (g ++ i ∷ []) is

abbrev pub cut_items : ℕ → List Item → List (List Item)
cut_items most [] = []
cut_items most (i ∷ is) = cut_after most (i ∷ []) is

-- ---- items that are too long

-- the item alone has a body of at most so many bytes
abbrev pub FitsAlone : ℕ → Item → Type 0
FitsAlone most i = FitsBody most (items_board (i ∷ []))

-- each of the items was put, and fits alone
pub record IsFed (start now : CutBoard) (is : List Item) : Type 0 where
  pub fed : now ≡ fed_all start is
  pub alone : AllByRecursion (FitsAlone start.most) is

-- the bytes of the longest body of one item, which is an issue of two plans of 4096 ranges
abbrev pub longest_bytes : ℕ
longest_bytes = 98329

-- one of the items is too long alone
pub record HasTooLong (most : ℕ) (is : List Item) : Type 0 where
  pub some : AllByRecursion (FitsAlone most) is → ⊥
  pub low : most < longest_bytes

-- ---- the lists of a piece, and what an item adds to them

-- what two cells of one place say, the spans of the first before those of the second
abbrev pub entry_joined : CellEntry → CellEntry → CellEntry
entry_joined c d = entry_with c.cell (c.complete || d.complete) (c.spans ++ d.spans)

-- the last cell, and one that comes after it or continues it
abbrev pub joined_or_next : Bool → CellEntry → CellEntry → List CellEntry
joined_or_next true c d = entry_joined c d ∷ []
joined_or_next false c d = c ∷ d ∷ []

abbrev pub cell_at_end : CellEntry → List CellEntry → CellEntry → List CellEntry
cell_at_end c [] d = joined_or_next (is_same_cell c.cell d.cell) c d
cell_at_end c (e ∷ es) d = c ∷ cell_at_end e es d

-- the cells with one that comes after all of them, or continues the last
abbrev pub add_cell : List CellEntry → CellEntry → List CellEntry
add_cell [] d = d ∷ []
add_cell (c ∷ cs) d = cell_at_end c cs d

-- the cells of an item
abbrev pub done_entry : CellPlace → CellEntry
done_entry c = entry_with c true []

abbrev pub span_entry : CellPlace → Interval → CellEntry
span_entry c s = entry_with c false (s ∷ [])

-- the lists with one item more
abbrev pub add_item : BoardLists → Item → BoardLists
add_item d (opening o) = lists_with (d.openings ++ o ∷ []) d.issues d.cells
add_item d (issue e) = lists_with d.openings (d.issues ++ e ∷ []) d.cells
add_item d (done c) = lists_with d.openings d.issues (add_cell d.cells (done_entry c))
add_item d (loaded c s) = lists_with d.openings d.issues (add_cell d.cells (span_entry c s))

abbrev pub add_items : BoardLists → List Item → BoardLists
add_items d [] = d
add_items d (i ∷ is) = add_items (add_item d i) is

abbrev pub no_lists : BoardLists
no_lists = lists_with [] [] []

-- ---- which items may come

-- the cell continues another: the same place, and its spans begin beyond those of the other
pub record GoesOn (c d : CellEntry) : Type 0 where
  pub place : c.cell ≡ d.cell
  pub beyond : AllByRecursion (λ s. Beyond s.hi d.spans) c.spans

-- the second cell comes after the first, or continues it
abbrev pub EntryFollows : CellEntry → CellEntry → Type 0
EntryFollows c d = ComesBefore c d ⊎ GoesOn c d

-- the item comes after all that the lists have
abbrev pub ItemFollows : BoardLists → Item → Type 0
ItemFollows d (opening o) = AllByRecursion (λ q. q.number < o.number) d.openings
ItemFollows d (issue e) = AllByRecursion (λ q. q.0 < e.0) d.issues
ItemFollows d (done c) = AllByRecursion (λ q. ComesBefore q (done_entry c)) d.cells
ItemFollows d (loaded c s) = AllByRecursion (λ q. EntryFollows q (span_entry c s)) d.cells

-- the second item may come after the first
abbrev pub ItemBefore : Item → Item → Type 0
ItemBefore i j = ItemFollows (add_item no_lists i) j

-- each item may come after all those before it
abbrev pub ItemsRise : List Item → Type 0
ItemsRise [] = Unit {0}
ItemsRise (i ∷ is) = AllByRecursion (ItemBefore i) is × ItemsRise is

-- the item lies within its limits
abbrev pub IsItem : Item → Type 0
IsItem (opening o) = IsOpening o
IsItem (issue e) = (1 ≤ e.0) × (e.1 ≢ Unknown)
IsItem (done c) = is_cell_place c ≡ true
IsItem (loaded c s) = (is_cell_place c ≡ true) × (s.lo < s.hi) × (s.hi ≤ top)

-- items that may be put into the board one after the other
pub record AreNext (b : BoardValue) (is : List Item) : Type 0 where
  pub board : IsBoard b
  pub after : AllByRecursion (ItemFollows (lists_of b)) is
  pub rise : ItemsRise is
  pub within : AllByRecursion IsItem is

-- ---- how long the body is

abbrev pub has_some : {X : Type 0} → List X → Bool
has_some [] = false
has_some (x ∷ xs) = true

abbrev pub last_after : CellEntry → List CellEntry → CellPlace
last_after c [] = c.cell
last_after c (e ∷ es) = last_after e es

-- the place of the last cell
abbrev pub last_place : List CellEntry → Option CellPlace
last_place [] = None
last_place (c ∷ cs) = Some (last_after c cs)

-- the cell continues the last one
abbrev pub is_last : Option CellPlace → CellPlace → Bool
is_last None c = false
is_last (Some q) c = is_same_cell q c

-- the bytes of the spans and of the cell
abbrev pub cell_cost : Bool → CellEntry → ℕ
cell_cost true d = length (flat_map spell_span d.spans)
cell_cost false d = length (spell_cell d)

-- the first issue brings the count of the issues
abbrev pub issue_cost : Bool → ℕ → ℕ
issue_cost true bytes = bytes
issue_cost false bytes = bytes + 4

-- a span, and also the cell if it does not continue the last one
abbrev pub span_bytes : Bool → ℕ
span_bytes true = 16
span_bytes false = 33

-- how many bytes an item adds to a body
abbrev pub item_cost : BoardLists → Item → ℕ
item_cost d (opening o) = 8
item_cost d (issue e) = issue_cost (has_some d.issues) (length (spell_issue e))
item_cost d (done c) = cell_cost (is_last (last_place d.cells) c) (done_entry c)
item_cost d (loaded c s) = cell_cost (is_last (last_place d.cells) c) (span_entry c s)

-- what is known of the body of a piece
pub record IsMeasured (b : BoardValue) (bytes : ℕ) (issued : Bool) (place : Option CellPlace) : Type 0 where
  pub length : bytes ≡ body_length b
  pub short : bytes ≤ body_limit
  pub issues : issued ≡ has_some (issues_of b)
  pub last : place ≡ last_place (cells_of b)
