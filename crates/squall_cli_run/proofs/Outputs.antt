-- Which checks and courses are refused, by the last line of their output.
use Rattle.std.proofs.Common.{◌≡◌, ℕ, List, [], ◌++◌, length, true, false, Result, Ok, Err, refl, sym, ap, subst, append_assoc, arith}
use Rattle.std.proofs.lemmas.Bool.{false≢true}
use Rattle.std.specs.Prelude.{codes}
use Rattle.std.specs.Fmt.{decimal}
use Rattle.squall_span.specs.Spans.{text_of_span}
use Rattle.squall_plan.specs.declared.range.PlanRange.{PlanRange}
use Rattle.squall_plan.specs.declared.fault.PlanFault.{PlanFault}
use Rattle.squall_plan.specs.Faults.{text_of_fault}
use Rattle.squall_plan.specs.Form.{plan_of_text}
use Rattle.squall_course.specs.declared.moving.Move.{Move}
use Rattle.squall_course.specs.Moves.{moves_of}
use Rattle.squall_course.specs.Subplans.{subplan_count}
use Rattle.squall_cli_run.specs.Output.{range_line, range_lines, refusal, check_of_plan, check_of, move_line, move_lines, count_lines, course_of_plans, course_of}
use Rattle.squall_cli_words.specs.Endings.{EndsInRefusal, EndsInNoRefusal}
use Rattle.squall_cli_words.proofs.LineTexts.{no_lf, decimal_no_lf, span_no_lf, fault_no_lf, spells_lf, spells_glued, differs_at, Lacks, lacks_line, lacks_append, lacks_each, last_is, last_lacks}

abbrev word : List ℕ
word = codes "refused "

-- ---- refusals

refusal_ends : (which : List ℕ) (fault : PlanFault) → no_lf which ≡ true → EndsInRefusal (refusal which fault)
refusal_ends which fault h = (
  which ++ (text_of_fault fault ++ []),
  last_is (refusal which fault) [] (word ++ (which ++ (text_of_fault fault ++ [])))
      (spells_glued word (which ++ (text_of_fault fault ++ codes "\n")) (which ++ (text_of_fault fault ++ [])) [] refl
      (spells_glued which (text_of_fault fault ++ codes "\n") (text_of_fault fault ++ []) [] h (spells_glued (text_of_fault fault) (codes "\n") [] [] (fault_no_lf fault) spells_lf))),
)

-- ---- check

range_lacks : (r : PlanRange) → Lacks word (range_line r)
range_lacks r =
    lacks_line word (range_line r) (codes "range " ++ (decimal r.part ++ (codes " " ++ (text_of_span r.span ++ []))))
    (spells_glued (codes "range ") (decimal r.part ++ (codes " " ++ (text_of_span r.span ++ codes "\n"))) (decimal r.part ++ (codes " " ++ (text_of_span r.span ++ []))) [] refl
    (spells_glued (decimal r.part) (codes " " ++ (text_of_span r.span ++ codes "\n")) (codes " " ++ (text_of_span r.span ++ [])) [] (decimal_no_lf r.part)
    (spells_glued (codes " ") (text_of_span r.span ++ codes "\n") (text_of_span r.span ++ []) [] refl (spells_glued (text_of_span r.span) (codes "\n") [] [] (span_no_lf r.span) spells_lf))))
    (λ rest. differs_at 1 (codes "range " ++ (decimal r.part ++ (codes " " ++ (text_of_span r.span ++ [])))) (word ++ rest) (λ e. omega (arith, e)))

plan_lacks : (n : ℕ) → Lacks word (codes "plan " ++ (decimal n ++ codes "\n"))
plan_lacks n =
    lacks_line word (codes "plan " ++ (decimal n ++ codes "\n")) (codes "plan " ++ (decimal n ++ []))
    (spells_glued (codes "plan ") (decimal n ++ codes "\n") (decimal n ++ []) [] refl (spells_glued (decimal n) (codes "\n") [] [] (decimal_no_lf n) spells_lf))
    (λ rest. differs_at 0 (codes "plan " ++ (decimal n ++ [])) (word ++ rest) (λ e. omega (arith, e)))

check_ends : (plan : Result (List PlanRange) PlanFault) → (check_of_plan plan).refused ≡ true → EndsInRefusal (check_of_plan plan).text
check_ends (Ok rs) e = absurd (false≢true e)
check_ends (Err fault) e = refusal_ends [] fault refl

check_fine : (plan : Result (List PlanRange) PlanFault) → (check_of_plan plan).refused ≡ false → EndsInNoRefusal (check_of_plan plan).text
check_fine (Ok rs) e =
    last_lacks word (range_lines rs ++ (codes "plan " ++ (decimal (length rs) ++ codes "\n")))
    (lacks_append word (range_lines rs) (codes "plan " ++ (decimal (length rs) ++ codes "\n")) (lacks_each word range_line range_lacks rs) (plan_lacks (length rs)))
check_fine (Err fault) e = absurd (false≢true (sym e))

pub refused_check : (plan : List ℕ) → (check_of plan).refused ≡ true → EndsInRefusal (check_of plan).text
refused_check plan = check_ends (plan_of_text plan)

pub fine_check : (plan : List ℕ) → (check_of plan).refused ≡ false → EndsInNoRefusal (check_of plan).text
fine_check plan = check_fine (plan_of_text plan)

-- ---- course

-- a move's line after its span
abbrev after_span : Move → List ℕ → List ℕ
after_span m end = codes " " ++ (decimal m.source ++ (codes " to " ++ (decimal m.dest ++ (codes " sub " ++ (decimal m.sub ++ end)))))

move_lacks : (m : Move) → Lacks word (move_line m)
move_lacks m =
    let sub = codes " sub " ++ (decimal m.sub ++ []) in
    let sub' = codes " sub " ++ (decimal m.sub ++ codes "\n") in
    let dest = codes " to " ++ (decimal m.dest ++ sub) in
    let dest' = codes " to " ++ (decimal m.dest ++ sub') in
    lacks_line word (move_line m) (codes "move " ++ (text_of_span m.span ++ after_span m []))
    (spells_glued (codes "move ") (text_of_span m.span ++ after_span m (codes "\n")) (text_of_span m.span ++ after_span m []) [] refl
    (spells_glued (text_of_span m.span) (after_span m (codes "\n")) (after_span m []) [] (span_no_lf m.span)
    (spells_glued (codes " ") (decimal m.source ++ dest') (decimal m.source ++ dest) [] refl
    (spells_glued (decimal m.source) dest' dest [] (decimal_no_lf m.source)
    (spells_glued (codes " to ") (decimal m.dest ++ sub') (decimal m.dest ++ sub) [] refl
    (spells_glued (decimal m.dest) sub' sub [] (decimal_no_lf m.dest)
    (spells_glued (codes " sub ") (decimal m.sub ++ codes "\n") (decimal m.sub ++ []) [] refl (spells_glued (decimal m.sub) (codes "\n") [] [] (decimal_no_lf m.sub) spells_lf))))))))
    (λ rest. differs_at 0 (codes "move " ++ (text_of_span m.span ++ after_span m [])) (word ++ rest) (λ e. omega (arith, e)))

-- the line that counts, and the rest of the text
counted_lacks : (first : List ℕ) (n : ℕ) → no_lf first ≡ true → ((more rest : List ℕ) → first ++ more ≡ word ++ rest → ⊥) → Lacks word (first ++ (decimal n ++ codes "\n"))
counted_lacks first n h i =
    lacks_line word (first ++ (decimal n ++ codes "\n")) (first ++ (decimal n ++ [])) (spells_glued first (decimal n ++ codes "\n") (decimal n ++ []) [] h (spells_glued (decimal n) (codes "\n") [] [] (decimal_no_lf n) spells_lf))
    (λ rest. i (decimal n ++ []) rest)

counts_lack : (moves subplans : ℕ) → Lacks word (count_lines moves subplans)
counts_lack moves subplans =
    let first = counted_lacks (codes "moves ") moves refl (λ more rest. differs_at 0 (codes "moves " ++ more) (word ++ rest) (λ e. omega (arith, e))) in
    let second = counted_lacks (codes "sub-plans ") subplans refl (λ more rest. differs_at 0 (codes "sub-plans " ++ more) (word ++ rest) (λ e. omega (arith, e))) in
    subst (Lacks word) (together moves subplans) (lacks_append word (codes "moves " ++ (decimal moves ++ codes "\n")) (codes "sub-plans " ++ (decimal subplans ++ codes "\n")) first second)
  where
    together : (moves subplans : ℕ) → (codes "moves " ++ (decimal moves ++ codes "\n")) ++ (codes "sub-plans " ++ (decimal subplans ++ codes "\n")) ≡ count_lines moves subplans
    together moves subplans = ap (λ w. codes "moves " ++ w) (append_assoc (decimal moves) (codes "\n") (codes "sub-plans " ++ (decimal subplans ++ codes "\n")))

course_ends : (old new : Result (List PlanRange) PlanFault) → (course_of_plans old new).refused ≡ true → EndsInRefusal (course_of_plans old new).text
course_ends (Ok old) (Ok new) e = absurd (false≢true e)
course_ends (Ok old) (Err fault) e = refusal_ends (codes "new ") fault refl
course_ends (Err fault) new e = refusal_ends (codes "old ") fault refl

course_fine : (old new : Result (List PlanRange) PlanFault) → (course_of_plans old new).refused ≡ false → EndsInNoRefusal (course_of_plans old new).text
course_fine (Ok old) (Ok new) e =
    let counts = count_lines (length (moves_of old new)) (subplan_count old new) in
    last_lacks word (counts ++ move_lines (moves_of old new))
    (lacks_append word counts (move_lines (moves_of old new)) (counts_lack (length (moves_of old new)) (subplan_count old new)) (lacks_each word move_line move_lacks (moves_of old new)))
course_fine (Ok old) (Err fault) e = absurd (false≢true (sym e))
course_fine (Err fault) new e = absurd (false≢true (sym e))

pub refused_course : (old new : List ℕ) → (course_of old new).refused ≡ true → EndsInRefusal (course_of old new).text
refused_course old new = course_ends (plan_of_text old) (plan_of_text new)

pub fine_course : (old new : List ℕ) → (course_of old new).refused ≡ false → EndsInNoRefusal (course_of old new).text
fine_course old new = course_fine (plan_of_text old) (plan_of_text new)
