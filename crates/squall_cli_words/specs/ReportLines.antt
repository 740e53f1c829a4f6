-- Reports as lines write them (this project's scenario language).
use Rattle.std.specs.Prelude.{ℕ, List, [], ◌∷◌, Option, None, Some, codes, if◌then◌else◌}
use Rattle.std.specs.Option.{option_map, option_and_then}
use Rattle.std.specs.Str.{bytes_eq}
use Rattle.squall_key.specs.Numbers.{number_of}
use Rattle.squall_span.specs.Spans.{Interval, span_at}
use Rattle.squall_report.specs.declared.report.ReportKind.{ReportKind}
use Rattle.squall_report.specs.Issues.{PlanPair}
use Rattle.squall_report.specs.Facts.{loaded_of, done_of, opened_of}
use Rattle.squall_cli_lines.specs.Words.{only_word}
use Rattle.squall_cli_words.specs.Forms.{number_first, cell_first, two_bounds}
use Rattle.squall_cli_words.specs.declared.reports.ReportWords.{ReportWords}
use Rattle.squall_cli_words.specs.declared.reports.ReportWords.TheVariants.{Loaded, Done, Opened}

-- loaded N S P LO HI
abbrev pub loaded_line : List (List ℕ) → Option ReportWords
loaded_line words =
    option_and_then (λ (c : ℕ × ℕ × ℕ × List (List ℕ)). option_map (λ (b : ℕ × ℕ). Loaded c.0 c.1 c.2 b.0 b.1) (two_bounds c.3)) (cell_first words)

-- the report, if no word is left
abbrev pub alone : ReportWords → List (List ℕ) → Option ReportWords
alone report [] = Some report
alone report (word ∷ words) = None

-- done N S P
abbrev pub done_line : List (List ℕ) → Option ReportWords
done_line words = option_and_then (λ (c : ℕ × ℕ × ℕ × List (List ℕ)). alone (Done c.0 c.1 c.2) c.3) (cell_first words)

-- opened N S
abbrev pub opened_line : List (List ℕ) → Option ReportWords
opened_line words = option_and_then (λ (n : ℕ × List (List ℕ)). option_map (λ s. Opened n.0 s) (option_and_then number_of (only_word n.1))) (number_first words)

-- the report that the name and the words after it write
abbrev pub report_line : List ℕ → List (List ℕ) → Option ReportWords
report_line name words = if bytes_eq name (codes "loaded") then loaded_line words
    else (if bytes_eq name (codes "done") then done_line words
    else (if bytes_eq name (codes "opened") then opened_line words
    else None))

-- ---- within limits

abbrev pub load_of : Option Interval → ℕ → ℕ → ℕ → Option (ReportKind PlanPair)
load_of None number sub part = None
load_of (Some span) number sub part = loaded_of number sub part span

-- the report of the words, if their numbers lie within their limits and the span has a key
abbrev pub report_of : ReportWords → Option (ReportKind PlanPair)
report_of (Loaded number sub part lo hi) = load_of (span_at lo hi) number sub part
report_of (Done number sub part) = done_of number sub part
report_of (Opened number sub) = opened_of number sub
