-- The pieces of a board, each of which fits a frame (this project's form).
use Rattle.std.specs.Prelude.{◌≡◌, ◌≢◌, ℕ, ◌-◌, ◌<◌, ◌≤◌, min, List, [], ◌∷◌, ◌++◌, length, map}
use Rattle.std.specs.List.{AllByRecursion}
use Rattle.squall_board.specs.Boards.{BoardValue, empty_board, board_join}
use Rattle.squall_wire.specs.declared.message.Message.TheVariants.{Delta}
use Rattle.squall_wire.specs.Limits.{body_limit}
use Rattle.squall_wire.specs.Messages.{lists_of, spell_lists, spell}
use Rattle.squall_delta.specs.Items.{Item, items_of, items_board}

-- how many bytes the body of the board's delta has
abbrev pub body_length : BoardValue → ℕ
body_length b = length (spell_lists (lists_of b))

-- the body of the board's delta has at most so many bytes
abbrev pub FitsBody : ℕ → BoardValue → Type 0
FitsBody most b = body_length b ≤ most

-- the delta of the board has a frame
abbrev pub FitsFrame : BoardValue → Type 0
FitsFrame b = FitsBody body_limit b

-- how many bytes the frame of the board's delta has
abbrev pub frame_length : BoardValue → ℕ
frame_length b = length (spell (Delta b))

-- the delta of the board has a frame, which is no longer than the limit
abbrev pub FitsWithin : ℕ → BoardValue → Type 0
FitsWithin limit b = FitsFrame b × (frame_length b ≤ limit)

-- each item of the board fits alone
abbrev pub EachFitsWithin : ℕ → BoardValue → Type 0
EachFitsWithin limit b = AllByRecursion (λ i. FitsWithin limit (items_board (i ∷ []))) (items_of b)

-- the most bytes of a body whose frame is no longer than the limit: a frame has eight bytes before its body
abbrev pub body_within : ℕ → ℕ
body_within limit = min (limit - 8) body_limit

-- the items are too long for a body with the first of those that follow
abbrev pub IsFull : ℕ → List Item → List (List Item) → Type 0
IsFull most g [] = Unit {0}
IsFull most g ([] ∷ gs) = IsFull most g gs
IsFull most g ((i ∷ is) ∷ gs) = most < body_length (items_board (g ++ i ∷ []))

-- each group has an item and fits a body, and no group could take up one item more
abbrev pub AreLongestRuns : ℕ → List (List Item) → Type 0
AreLongestRuns most [] = Unit {0}
AreLongestRuns most (g ∷ gs) = (g ≢ []) × FitsBody most (items_board g) × IsFull most g gs × AreLongestRuns most gs

-- the items of groups, one group after the other
abbrev pub items_of_groups : List (List Item) → List Item
items_of_groups [] = []
items_of_groups (g ∷ gs) = g ++ items_of_groups gs

-- the groups of items of which the boards are made: together all items of the board, in order, each as many as a
-- body of so many bytes can hold
pub record AreCut (most : ℕ) (b : BoardValue) (ps : List BoardValue) : Type 0 where
  pub groups : List (List Item)
  pub items : items_of_groups groups ≡ items_of b
  pub runs : AreLongestRuns most groups
  pub boards : ps ≡ map items_board groups

-- each has as many of the next items as a frame can hold
abbrev pub ArePieces : BoardValue → List BoardValue → Type 0
ArePieces b ps = AreCut body_limit b ps

-- each has as many of the next items as a frame within the limit can hold
abbrev pub ArePiecesWithin : ℕ → BoardValue → List BoardValue → Type 0
ArePiecesWithin limit b ps = AreCut (body_within limit) b ps

-- the join of boards
abbrev pub joined_boards : List BoardValue → BoardValue
joined_boards [] = empty_board
joined_boards (p ∷ ps) = board_join p (joined_boards ps)
