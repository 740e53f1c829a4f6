-- What a map has at each key: an absent key has the least value (this project).
use Rattle.std.specs.Prelude.{Option, None, Some}

-- the value that was found, or the least value if none was
abbrev pub looked : {V : Type 0} → V → Option V → V
looked bottom None = bottom
looked bottom (Some v) = v
