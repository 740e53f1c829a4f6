-- What is shown of a board has no line that begins as a bad line or a refusal does.
use Rattle.std.proofs.Common.{◌≡◌, ◌≢◌, ℕ, List, [], ◌∷◌, ◌++◌, length, Bool, true, false, ◌&&◌, ◌==◌, refl, sym, arith}
use Rattle.std.specs.Prelude.{codes}
use Rattle.std.specs.Fmt.{decimal}
use Rattle.squall_span.specs.Spans.{Interval}
use Rattle.squall_join.specs.declared.flat.Flat.{Flat}
use Rattle.squall_join.specs.declared.flat.Flat.TheVariants.{Unknown, One, Clash}
use Rattle.squall_report.specs.Issues.{PlanPair}
use Rattle.squall_board.specs.declared.opening.Opening.{Opening}
use Rattle.squall_board.specs.Boards.{BoardValue}
use Rattle.squall_board.specs.Listed.{CellEntry, openings_of, issues_of, cells_of}
use Rattle.squall_cli_words.specs.BoardText.{opening_line, opening_lines, line_of_issue, issue_line, issue_lines, text_of_complete, next_span, next_spans, cell_line, cell_lines, text_of_lists, board_text}
use Rattle.squall_cli_words.proofs.LineTexts.{no_lf, no_lf-append, decimal_no_lf, span_no_lf, spells_lf, spells_glued, differs_at, Lacks, lacks_line, lacks_append, lacks_each, lacks_picked}

-- no line of a board begins with the byte
record Foreign (w : ℕ) : Type 0 where
  opened : w ≢ 111
  issue : w ≢ 105
  cell : w ≢ 99
  empty : w ≢ 101

opening_lacks : (w : ℕ) (ws : List ℕ) → Foreign w → (o : Opening) → Lacks (w ∷ ws) (opening_line o)
opening_lacks w ws foreign o =
    lacks_line (w ∷ ws) (opening_line o) (codes "opened " ++ (decimal o.number ++ (codes " " ++ (decimal o.count ++ []))))
    (spells_glued (codes "opened ") (decimal o.number ++ (codes " " ++ (decimal o.count ++ codes "\n"))) (decimal o.number ++ (codes " " ++ (decimal o.count ++ []))) [] refl
    (spells_glued (decimal o.number) (codes " " ++ (decimal o.count ++ codes "\n")) (codes " " ++ (decimal o.count ++ [])) [] (decimal_no_lf o.number)
    (spells_glued (codes " ") (decimal o.count ++ codes "\n") (decimal o.count ++ []) [] refl
    (spells_glued (decimal o.count) (codes "\n") [] [] (decimal_no_lf o.count) spells_lf))))
    (λ rest. differs_at 0 (codes "opened " ++ (decimal o.number ++ (codes " " ++ (decimal o.count ++ [])))) ((w ∷ ws) ++ rest) (λ e. foreign.opened (sym e)))

issue_lacks : (w : ℕ) (ws : List ℕ) → Foreign w → (n : ℕ) (issue : Flat PlanPair) → Lacks (w ∷ ws) (line_of_issue n issue)
issue_lacks w ws foreign n Unknown = ([], (λ tail. refl), tt)
issue_lacks w ws foreign n (One pair) =
    lacks_line (w ∷ ws) (codes "issue " ++ (decimal n ++ codes " one\n")) (codes "issue " ++ (decimal n ++ (codes " one" ++ [])))
    (spells_glued (codes "issue ") (decimal n ++ codes " one\n") (decimal n ++ (codes " one" ++ [])) [] refl
    (spells_glued (decimal n) (codes " one\n") (codes " one" ++ []) [] (decimal_no_lf n) (spells_glued (codes " one") (codes "\n") [] [] refl spells_lf)))
    (λ rest. differs_at 0 (codes "issue " ++ (decimal n ++ (codes " one" ++ []))) ((w ∷ ws) ++ rest) (λ e. foreign.issue (sym e)))
issue_lacks w ws foreign n Clash =
    lacks_line (w ∷ ws) (codes "issue " ++ (decimal n ++ codes " clash\n")) (codes "issue " ++ (decimal n ++ (codes " clash" ++ [])))
    (spells_glued (codes "issue ") (decimal n ++ codes " clash\n") (decimal n ++ (codes " clash" ++ [])) [] refl
    (spells_glued (decimal n) (codes " clash\n") (codes " clash" ++ []) [] (decimal_no_lf n) (spells_glued (codes " clash") (codes "\n") [] [] refl spells_lf)))
    (λ rest. differs_at 0 (codes "issue " ++ (decimal n ++ (codes " clash" ++ []))) ((w ∷ ws) ++ rest) (λ e. foreign.issue (sym e)))

complete_no_lf : (complete : Bool) → no_lf (text_of_complete complete) ≡ true
complete_no_lf true = refl
complete_no_lf false = refl

spans_no_lf : (ss : List Interval) → no_lf (next_spans ss) ≡ true
spans_no_lf [] = refl
spans_no_lf (s ∷ ss) = no_lf-append (next_span s) (next_spans ss) (span_no_lf s) (spans_no_lf ss)

-- a cell's line after its numbers
abbrev state_text : CellEntry → List ℕ → List ℕ
state_text c end = text_of_complete c.complete ++ (next_spans c.spans ++ end)

abbrev cell_text : CellEntry → List ℕ → List ℕ
cell_text c end = codes "cell " ++ (decimal c.cell.number ++ (codes " " ++ (decimal c.cell.sub ++ (codes " " ++ (decimal c.cell.part ++ (codes " " ++ state_text c end))))))

cell_lacks : (w : ℕ) (ws : List ℕ) → Foreign w → (c : CellEntry) → Lacks (w ∷ ws) (cell_line c)
cell_lacks w ws foreign c =
    let part = codes " " ++ (decimal c.cell.part ++ (codes " " ++ state_text c [])) in
    let part' = codes " " ++ (decimal c.cell.part ++ (codes " " ++ state_text c (codes "\n"))) in
    let sub = codes " " ++ (decimal c.cell.sub ++ part) in
    let sub' = codes " " ++ (decimal c.cell.sub ++ part') in
    lacks_line (w ∷ ws) (cell_line c) (cell_text c [])
    (spells_glued (codes "cell ") (decimal c.cell.number ++ sub') (decimal c.cell.number ++ sub) [] refl
    (spells_glued (decimal c.cell.number) sub' sub [] (decimal_no_lf c.cell.number)
    (spells_glued (codes " ") (decimal c.cell.sub ++ part') (decimal c.cell.sub ++ part) [] refl
    (spells_glued (decimal c.cell.sub) part' part [] (decimal_no_lf c.cell.sub)
    (spells_glued (codes " ") (decimal c.cell.part ++ (codes " " ++ state_text c (codes "\n"))) (decimal c.cell.part ++ (codes " " ++ state_text c [])) [] refl
    (spells_glued (decimal c.cell.part) (codes " " ++ state_text c (codes "\n")) (codes " " ++ state_text c []) [] (decimal_no_lf c.cell.part)
    (spells_glued (codes " ") (state_text c (codes "\n")) (state_text c []) [] refl
    (spells_glued (text_of_complete c.complete) (next_spans c.spans ++ codes "\n") (next_spans c.spans ++ []) [] (complete_no_lf c.complete)
    (spells_glued (next_spans c.spans) (codes "\n") [] [] (spans_no_lf c.spans) spells_lf)))))))))
    (λ rest. differs_at 0 (cell_text c []) ((w ∷ ws) ++ rest) (λ e. foreign.cell (sym e)))

empty_lacks : (w : ℕ) (ws : List ℕ) → Foreign w → Lacks (w ∷ ws) (codes "empty\n")
empty_lacks w ws foreign = lacks_line (w ∷ ws) (codes "empty\n") (codes "empty" ++ []) (spells_glued (codes "empty") (codes "\n") [] [] refl spells_lf) (λ rest. differs_at 0 (codes "empty" ++ []) ((w ∷ ws) ++ rest) (λ e. foreign.empty (sym e)))

lists_lack : (w : ℕ) (ws : List ℕ) → Foreign w → (os : List Opening) (es : List (ℕ × Flat PlanPair)) (cs : List CellEntry) → Lacks (w ∷ ws) (text_of_lists os es cs)
lists_lack w ws foreign os es cs =
    lacks_picked (w ∷ ws) ((length os == 0) && ((length es == 0) && (length cs == 0))) (codes "empty\n") (opening_lines os ++ (issue_lines es ++ cell_lines cs)) (empty_lacks w ws foreign)
    (lacks_append (w ∷ ws) (opening_lines os) (issue_lines es ++ cell_lines cs) (lacks_each (w ∷ ws) opening_line (opening_lacks w ws foreign) os)
    (lacks_append (w ∷ ws) (issue_lines es) (cell_lines cs) (lacks_each (w ∷ ws) issue_line (λ e. issue_lacks w ws foreign e.0 e.1) es) (lacks_each (w ∷ ws) cell_line (cell_lacks w ws foreign) cs)))

pub board_lacks : (b : BoardValue) → Lacks (codes "bad line ") (board_text b)
board_lacks b =
    lists_lack 98 (codes "ad line ") record { opened = λ e. omega (arith, e); issue = λ e. omega (arith, e); cell = λ e. omega (arith, e); empty = λ e. omega (arith, e) }
    (openings_of b) (issues_of b) (cells_of b)

pub board_lacks_refusal : (b : BoardValue) → Lacks (codes "refused ") (board_text b)
board_lacks_refusal b =
    lists_lack 114 (codes "efused ") record { opened = λ e. omega (arith, e); issue = λ e. omega (arith, e); cell = λ e. omega (arith, e); empty = λ e. omega (arith, e) }
    (openings_of b) (issues_of b) (cells_of b)
