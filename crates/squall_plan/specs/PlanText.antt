-- The text of a plan, as JSON without spaces (this project's text form). The members of an object are in the order of their
-- names, as `serde_json` writes them.
use Rattle.std.specs.Prelude.{ℕ, List, [], ◌∷◌, ◌==◌, map, codes, if◌then◌else◌}
use Rattle.serde_json.specs.Data.{Data, number, unsigned, string, array, object, member, no_members}
use Rattle.serde_json.specs.View.{items_of}
use Rattle.serde_json.specs.Written.{compact_text}
use Rattle.squall_key.specs.Keys.{top, root_of, second_of}
use Rattle.squall_plan.specs.declared.range.PlanRange.{PlanRange}

abbrev pub json_of_number : ℕ → Data
json_of_number n = number (unsigned n)

-- a bound as the pair of its numbers
abbrev pub json_of_bound : ℕ → Data
json_of_bound bound = array (items_of (json_of_number (root_of bound) ∷ json_of_number (second_of bound) ∷ []))

-- the bound where a range ends: the top has a name
abbrev pub json_of_end : ℕ → Data
json_of_end bound = if bound == top then string (codes "end") else json_of_bound bound

-- a range of keys and its partition
abbrev pub json_of_range : PlanRange → Data
json_of_range r = object (member (codes "from") (json_of_bound r.span.lo) (member (codes "part") (json_of_number r.part)
    (member (codes "to") (json_of_end r.span.hi) no_members)))

-- the ranges of a plan, by rising key
abbrev pub json_of_plan : List PlanRange → Data
json_of_plan rs = object (member (codes "plan") (array (items_of (map json_of_range rs))) no_members)

-- the text of a plan
abbrev pub text_of_plan : List PlanRange → List ℕ
text_of_plan rs = compact_text (json_of_plan rs)
