-- Rooms that a caller lends (this project).
use Rattle.std.specs.Prelude.{List, ◌++◌, length, drop}

-- the items in place of as many at the front
abbrev pub over : {X : Type 0} → List X → List X → List X
over xs ys = xs ++ drop (length xs) ys
