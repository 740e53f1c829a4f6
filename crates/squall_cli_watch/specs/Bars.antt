-- The bar that shows how far a course has come (this project's command line).
use Rattle.std.specs.Prelude.{ℕ, ◌/◌, List, ◌++◌, take, drop, codes}
use Rattle.std.specs.List.{flat_map}
use Rattle.std.specs.Fmt.{decimal}
use Rattle.squall_cli_watch.specs.declared.bar.text.Bar.{Bar}

-- 20 cells, one full for each 50 thousandths
abbrev pub cells : ℕ → List ℕ
cells thousandths = take (thousandths / 50) (codes "####################") ++ drop (thousandths / 50) (codes "....................")

-- the share and the counts beside the cells
abbrev pub counts_text : Bar → List ℕ
counts_text bar =
    codes "] " ++ (decimal bar.share ++ (codes "/1000, moves " ++ (decimal bar.complete ++ (codes " of " ++ (decimal bar.moves
    ++ (codes ", sub-plans " ++ (decimal bar.ended ++ (codes " of " ++ decimal bar.subplans))))))))

-- a bar, from the start of the line on
abbrev pub bar_text : Bar → List ℕ
bar_text bar = codes "\r[" ++ (cells bar.share ++ counts_text bar)

-- what erases a bar: 79 blanks from the start of the line on
abbrev pub erasure : List ℕ
erasure = codes "\r                                                                               \r"

-- a bar in place of the one before
abbrev pub redrawn : List ℕ → List ℕ
redrawn text = erasure ++ text

-- bars that were drawn one after the other after a first one
abbrev pub later_bars : List (List ℕ) → List ℕ
later_bars texts = flat_map redrawn texts

-- bars that were drawn one after the other, of which the last is left on a line of its own
abbrev pub all_bars : List ℕ → List (List ℕ) → List ℕ
all_bars first texts = first ++ (later_bars texts ++ codes "\n")
