-- Why words are no report, and which of them is at fault (this project's command line).
use Rattle.std.specs.Prelude.{ℕ, List, [], ◌∷◌, Bool, false, Option, None, Some, is_some, codes, if◌then◌else◌}
use Rattle.std.specs.Str.{bytes_eq}
use Rattle.squall_key.specs.Numbers.{number_of}
use Rattle.squall_key.specs.Keys.{bound_of}
use Rattle.squall_span.specs.Spans.{Interval, span_at}
use Rattle.squall_report.specs.Facts.{opened_of, done_of}
use Rattle.squall_cli_ask.specs.declared.bad_report.ReportFault.{ReportFault}
use Rattle.squall_cli_ask.specs.declared.bad_report.ReportFault.TheVariants.{NoReport, NoCourse, NoSubPlan, NoPart, NoBound, NoSpan}

-- a word that keeps words from being a report, and why
abbrev pub BadWord : Type 0
BadWord = List ℕ × ReportFault

-- ---- words

abbrev pub numbers_course : Option ℕ → Bool
numbers_course None = false
numbers_course (Some n) = is_some (opened_of n 0)

abbrev pub numbers_subplan : Option ℕ → Bool
numbers_subplan None = false
numbers_subplan (Some n) = is_some (opened_of 1 n)

abbrev pub numbers_part : Option ℕ → Bool
numbers_part None = false
numbers_part (Some n) = is_some (done_of 1 0 n)

-- the word is a number that a report of a course may have
abbrev pub is_course : List ℕ → Bool
is_course word = numbers_course (number_of word)

-- the word is a number that a report of a sub-plan may have
abbrev pub is_subplan : List ℕ → Bool
is_subplan word = numbers_subplan (number_of word)

-- the word is a partition that a report may have
abbrev pub is_part : List ℕ → Bool
is_part word = numbers_part (number_of word)

-- ---- the first word at fault

abbrev pub course_fault : List ℕ → Option BadWord
course_fault course = if is_course course then None else Some (course, NoCourse)

-- of the words of a cell: the first that is no number of a course, of a sub-plan, or of a partition
abbrev pub cell_fault : List ℕ → List ℕ → List ℕ → Option BadWord
cell_fault course sub part = if is_course course then (if is_subplan sub then (if is_part part then None else Some (part, NoPart)) else Some (sub, NoSubPlan)) else Some (course, NoCourse)

abbrev pub end_fault : List ℕ → Option Interval → Option BadWord
end_fault hi (Some span) = None
end_fault hi None = Some (hi, NoSpan)

abbrev pub bounds_fault : List ℕ → List ℕ → Option ℕ → Option ℕ → Option BadWord
bounds_fault lo hi None to = Some (lo, NoBound)
bounds_fault lo hi (Some from) None = Some (hi, NoBound)
bounds_fault lo hi (Some from) (Some to) = end_fault hi (span_at from to)

-- of the words of a span: the first that is no bound, or the second if it is not above the first
abbrev pub span_fault : List ℕ → List ℕ → Option BadWord
span_fault lo hi = bounds_fault lo hi (bound_of lo) (bound_of hi)

abbrev pub or_span : Option BadWord → List ℕ → List ℕ → Option BadWord
or_span (Some bad) lo hi = Some bad
or_span None lo hi = span_fault lo hi

-- N S P LO HI
abbrev pub loaded_fault : List (List ℕ) → Option BadWord
loaded_fault (course ∷ sub ∷ part ∷ lo ∷ hi ∷ []) = or_span (cell_fault course sub part) lo hi
loaded_fault _ = None

-- N S P
abbrev pub done_fault : List (List ℕ) → Option BadWord
done_fault (course ∷ sub ∷ part ∷ []) = cell_fault course sub part
done_fault _ = None

-- N S
abbrev pub opened_fault : List (List ℕ) → Option BadWord
opened_fault (course ∷ sub ∷ []) = if is_course course then (if is_subplan sub then None else Some (sub, NoSubPlan)) else Some (course, NoCourse)
opened_fault _ = None

-- N OLD NEW
abbrev pub issue_fault : List (List ℕ) → Option BadWord
issue_fault (course ∷ old ∷ new ∷ []) = course_fault course
issue_fault _ = None

-- the first word behind the name that is at fault by itself, if the report of that name has so many words
abbrev pub named_fault : List ℕ → List (List ℕ) → Option BadWord
named_fault name rest = if bytes_eq name (codes "loaded") then loaded_fault rest
    else (if bytes_eq name (codes "done") then done_fault rest
    else (if bytes_eq name (codes "opened") then opened_fault rest
    else (if bytes_eq name (codes "issued") then issue_fault rest
    else None)))

-- the name is at fault if no other word is: it is that of no report, or of one of another number of words
abbrev pub or_name : List ℕ → Option BadWord → BadWord
or_name name (Some bad) = bad
or_name name None = (name, NoReport)

-- the word that keeps words from being a report, and why
abbrev pub report_fault : List (List ℕ) → BadWord
report_fault [] = ([], NoReport)
report_fault (name ∷ rest) = or_name name (named_fault name rest)

-- ---- its text

-- the name of the fault, and where the words of reports are explained
abbrev pub advice : ReportFault → List ℕ
advice NoReport = codes "NoReport: see squall help report"
advice NoCourse = codes "NoCourse: see squall help report"
advice NoSubPlan = codes "NoSubPlan: see squall help report"
advice NoPart = codes "NoPart: see squall help report"
advice NoBound = codes "NoBound: see squall help report"
advice NoSpan = codes "NoSpan: see squall help report"
