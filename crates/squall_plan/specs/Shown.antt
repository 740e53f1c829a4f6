-- What the tokens of a text show: the data of a value, and whether the text has data at all (this project).
use Rattle.std.specs.Prelude.{◌≡◌, ℕ, ◌+◌, ◌-◌, ◌&&◌, nat_lt, List, [], ◌∷◌, Bool, true, Option, Some, None, is_some, MatchOption, if◌then◌else◌}
use Rattle.json.specs.Token.{Token}
use Rattle.json.specs.Json as json
use Rattle.json.specs.Find.{BeginsWith, InItems}
use Rattle.serde_json.specs.Data.{Data, Items, no_items, item}
use Rattle.serde_json.specs.Read.{number_of, of_json, of_items}

-- the tokens begin with a value whose data is d
abbrev pub Shows : List Token → Data → Type 0
Shows ts d = (j : json.Json) × BeginsWith ts j × (of_json j ≡ Some d)

-- the tokens begin with items whose data are ds, and the closing bracket
abbrev pub ShowsItems : List Token → Items → Type 0
ShowsItems ts ds = (js : json.Items) × InItems ts js × (of_items js ≡ Some ds)

-- what is found: tokens that begin with a value of the data, if there is data
abbrev pub Finds : Option (List Token) → Option Data → Type 0
Finds r o = MatchOption r (o ≡ None) (λ ts. (d : Data) × (o ≡ Some d) × Shows ts d)

-- the same of the items of an array
abbrev pub FindsItems : Option (List Token) → Option Items → Type 0
FindsItems r o = MatchOption r (o ≡ None) (λ ts. (ds : Items) × (o ≡ Some ds) × ShowsItems ts ds)

-- a step through items: to the first of them, with those after it left, if there are any
abbrev pub Steps : Items → Option (List Token) → List Token → Type 0
Steps ds r new = MatchOption r (ds ≡ no_items) (λ ts. (d : Data) × (rest : Items) × (ds ≡ item d rest) × Shows ts d × ShowsItems new rest)

-- how many levels may still be opened after a token; none if it opens one too many, or is a number out of range
abbrev pub room_after : ℕ → Token → Option ℕ
room_after room Token.begin_object = if nat_lt 0 room then Some (room - 1) else None
room_after room Token.end_object = Some (room + 1)
room_after room Token.begin_array = if nat_lt 0 room then Some (room - 1) else None
room_after room Token.end_array = Some (room + 1)
room_after room (Token.key s) = Some room
room_after room (Token.string s) = Some room
room_after room (Token.number s) = if is_some (number_of s) then Some room else None
room_after room (Token.boolean b) = Some room
room_after room Token.null = Some room
room_after room Token.bad = Some room

-- the tokens open no more than so many levels, and each number is in range
abbrev pub is_readable : ℕ → List Token → Bool
is_readable room [] = true
is_readable room (Token.begin_object ∷ ts) = nat_lt 0 room && is_readable (room - 1) ts
is_readable room (Token.end_object ∷ ts) = is_readable (room + 1) ts
is_readable room (Token.begin_array ∷ ts) = nat_lt 0 room && is_readable (room - 1) ts
is_readable room (Token.end_array ∷ ts) = is_readable (room + 1) ts
is_readable room (Token.key s ∷ ts) = is_readable room ts
is_readable room (Token.string s ∷ ts) = is_readable room ts
is_readable room (Token.number s ∷ ts) = is_some (number_of s) && is_readable room ts
is_readable room (Token.boolean b ∷ ts) = is_readable room ts
is_readable room (Token.null ∷ ts) = is_readable room ts
is_readable room (Token.bad ∷ ts) = is_readable room ts
