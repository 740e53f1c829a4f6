-- What the lines `route` and `legs` show (this project's scenario language).
use Rattle.std.specs.Prelude.{ℕ, List, ◌++◌, codes}
use Rattle.std.specs.List.{flat_map}
use Rattle.std.specs.Fmt.{decimal}
use Rattle.squall_key.specs.Keys.{text_of_key}
use Rattle.squall_span.specs.Spans.{text_of_span}
use Rattle.squall_plan.specs.declared.range.PlanRange.{PlanRange}

-- the key and the partition to ask for it
abbrev pub route_text : ℕ → ℕ → List ℕ
route_text key part = codes "route " ++ (text_of_key key ++ (codes " " ++ (decimal part ++ codes "\n")))

-- the line of a leg: its keys, and the partition to ask for them
abbrev pub leg_line : PlanRange → List ℕ
leg_line l = codes "leg " ++ (text_of_span l.span ++ (codes " " ++ (decimal l.part ++ codes "\n")))

-- the lines of legs, one after another
abbrev pub leg_lines : List PlanRange → List ℕ
leg_lines ls = flat_map leg_line ls
