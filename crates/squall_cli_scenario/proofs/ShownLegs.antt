-- What is shown of legs has no bad line.
use Rattle.std.proofs.Common.{ℕ, List, [], ◌++◌, refl, arith}
use Rattle.std.specs.Prelude.{codes}
use Rattle.std.specs.Fmt.{decimal}
use Rattle.squall_span.specs.Spans.{text_of_span}
use Rattle.squall_plan.specs.declared.range.PlanRange.{PlanRange}
use Rattle.squall_cli_words.specs.RouteText.{leg_line, leg_lines}
use Rattle.squall_cli_words.proofs.LineTexts.{decimal_no_lf, span_no_lf, spells_lf, spells_glued, differs_at, Lacks, lacks_line, lacks_each}

abbrev bad : List ℕ
bad = codes "bad line "

leg_lacks : (l : PlanRange) → Lacks bad (leg_line l)
leg_lacks l =
    lacks_line bad (leg_line l) (codes "leg " ++ (text_of_span l.span ++ (codes " " ++ (decimal l.part ++ []))))
    (spells_glued (codes "leg ") (text_of_span l.span ++ (codes " " ++ (decimal l.part ++ codes "\n"))) (text_of_span l.span ++ (codes " " ++ (decimal l.part ++ []))) [] refl
    (spells_glued (text_of_span l.span) (codes " " ++ (decimal l.part ++ codes "\n")) (codes " " ++ (decimal l.part ++ [])) [] (span_no_lf l.span)
    (spells_glued (codes " ") (decimal l.part ++ codes "\n") (decimal l.part ++ []) [] refl
    (spells_glued (decimal l.part) (codes "\n") [] [] (decimal_no_lf l.part) spells_lf))))
    (λ rest. differs_at 0 (codes "leg " ++ (text_of_span l.span ++ (codes " " ++ (decimal l.part ++ [])))) (bad ++ rest) (λ e. omega (arith, e)))

pub legs_lack : (ls : List PlanRange) → Lacks bad (leg_lines ls)
legs_lack ls = lacks_each bad leg_line leg_lacks ls
