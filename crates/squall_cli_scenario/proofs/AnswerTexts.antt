-- No answer to an event says that a line is bad.
use Rattle.std.proofs.Common.{◌≡◌, ℕ, List, [], ◌++◌, true, refl, arith}
use Rattle.std.specs.Prelude.{codes}
use Rattle.std.specs.Fmt.{decimal}
use Rattle.squall_key.specs.Keys.{text_of_key}
use Rattle.squall_span.specs.Spans.{text_of_span}
use Rattle.squall_report.specs.declared.report.ReportKind.{ReportKind}
use Rattle.squall_report.specs.declared.report.ReportKind.TheVariants as report
use Rattle.squall_report.specs.Issues.{PlanPair}
use Rattle.squall_errand.specs.declared.errand.Reply.{Reply}
use Rattle.squall_errand.specs.declared.errand.Reply.TheVariants.{Held, Moved, Pending, Behind, Elsewhere}
use Rattle.squall_protocol.specs.Chunks.{ChunkValue}
use Rattle.squall_protocol.specs.declared.event.Event.{Event}
use Rattle.squall_protocol.specs.declared.answer.Answer.{Answer}
use Rattle.squall_protocol.specs.declared.answer.Answer.TheVariants.{Opened, Begun, Closed, Gave, Loaded, Again, Finished, Sent, Delivered, Routed, Served, Refused}
use Rattle.squall_protocol.specs.declared.answer.Refusal.{Refusal}
use Rattle.squall_protocol.specs.declared.answer.Refusal.TheVariants.{NoSuch, NotDone, NoMore, Running, NoNumber, NotOpen, Ended, NothingLeft, ZeroMax, NotOutgoing, Given, NotHeld, Stranger, NotAll, NothingDue, NotKnown}
use Rattle.squall_cli_events.specs.AnswerText.{text_of_refusal, text_of_reply, text_of_chunk, text_of_report, asked_key, text_of_answer, answer_line}
use Rattle.squall_cli_words.proofs.LineTexts.{no_lf, no_lf-append, decimal_no_lf, key_no_lf, span_no_lf, spells_lf, spells_glued, NotBegun, differs_at, Lacks, lacks_line}

abbrev bad : List ℕ
bad = codes "bad line "

-- ---- no byte is LF

-- a number, a blank and more
numbered_no_lf : (n : ℕ) (more : List ℕ) → no_lf more ≡ true → no_lf (decimal n ++ (codes " " ++ more)) ≡ true
numbered_no_lf n more h = no_lf-append (decimal n) (codes " " ++ more) (decimal_no_lf n) h

refusal_no_lf : (why : Refusal) → no_lf (text_of_refusal why) ≡ true
refusal_no_lf NoSuch = refl
refusal_no_lf (NotDone sub part) = numbered_no_lf sub (decimal part) (decimal_no_lf part)
refusal_no_lf NoMore = refl
refusal_no_lf Running = refl
refusal_no_lf NoNumber = refl
refusal_no_lf NotOpen = refl
refusal_no_lf Ended = refl
refusal_no_lf NothingLeft = refl
refusal_no_lf ZeroMax = refl
refusal_no_lf NotOutgoing = refl
refusal_no_lf Given = refl
refusal_no_lf NotHeld = refl
refusal_no_lf Stranger = refl
refusal_no_lf (NotAll span) = span_no_lf span
refusal_no_lf NothingDue = refl
refusal_no_lf NotKnown = refl

reply_no_lf : (reply : Reply) → no_lf (text_of_reply reply) ≡ true
reply_no_lf Held = refl
reply_no_lf (Moved dest number) = numbered_no_lf dest (decimal number) (decimal_no_lf number)
reply_no_lf (Pending source) = decimal_no_lf source
reply_no_lf Behind = refl
reply_no_lf (Elsewhere dest) = decimal_no_lf dest

chunk_no_lf : (index : ℕ) (x : ChunkValue) → no_lf (text_of_chunk index x) ≡ true
chunk_no_lf index x =
    let dest = numbered_no_lf x.dest (text_of_span x.span) (span_no_lf x.span) in
    let source = no_lf-append (decimal x.source) (codes " to " ++ (decimal x.dest ++ (codes " " ++ text_of_span x.span))) (decimal_no_lf x.source) dest in
    let sub = numbered_no_lf x.sub (decimal x.source ++ (codes " to " ++ (decimal x.dest ++ (codes " " ++ text_of_span x.span)))) source in
    no_lf-append (decimal index) (codes " sub " ++ (decimal x.sub ++ (codes " " ++ (decimal x.source ++ (codes " to " ++ (decimal x.dest ++ (codes " " ++ text_of_span x.span))))))) (decimal_no_lf index) sub

report_no_lf : (made : ReportKind PlanPair) → no_lf (text_of_report made) ≡ true
report_no_lf (report.Loaded number sub part span) = numbered_no_lf part (text_of_span span) (span_no_lf span)
report_no_lf (report.Done number sub part) = numbered_no_lf sub (decimal part) (decimal_no_lf part)
report_no_lf (report.Opened number sub) = decimal_no_lf sub
report_no_lf (report.Issued number issue) = decimal_no_lf number

answer_no_lf : (e : Event) (answer : Answer) → no_lf (text_of_answer e answer) ≡ true
answer_no_lf e (Opened sub) = decimal_no_lf sub
answer_no_lf e (Begun number parts) = numbered_no_lf number (decimal parts) (decimal_no_lf parts)
answer_no_lf e (Closed number) = decimal_no_lf number
answer_no_lf e (Gave index chunk) = chunk_no_lf index chunk
answer_no_lf e (Loaded made) = report_no_lf made
answer_no_lf e Again = refl
answer_no_lf e (Finished made) = report_no_lf made
answer_no_lf e (Sent index) = decimal_no_lf index
answer_no_lf e Delivered = refl
answer_no_lf e (Routed part) = no_lf-append (text_of_key (asked_key e)) (codes " " ++ decimal part) (key_no_lf (asked_key e)) (decimal_no_lf part)
answer_no_lf e (Served reply) = reply_no_lf reply
answer_no_lf e (Refused why) = refusal_no_lf why

-- ---- no text begins as a bad line does

reply_begins : (reply : Reply) (more : List ℕ) → NotBegun bad (text_of_reply reply ++ more)
reply_begins Held more rest = differs_at 0 (codes "held" ++ more) (bad ++ rest) (λ e. omega (arith, e))
reply_begins (Moved dest number) more rest = differs_at 0 (text_of_reply (Moved dest number) ++ more) (bad ++ rest) (λ e. omega (arith, e))
reply_begins (Pending source) more rest = differs_at 0 (text_of_reply (Pending source) ++ more) (bad ++ rest) (λ e. omega (arith, e))
reply_begins Behind more rest = differs_at 1 (codes "behind" ++ more) (bad ++ rest) (λ e. omega (arith, e))
reply_begins (Elsewhere dest) more rest = differs_at 0 (text_of_reply (Elsewhere dest) ++ more) (bad ++ rest) (λ e. omega (arith, e))

report_begins : (made : ReportKind PlanPair) (more : List ℕ) → NotBegun bad (text_of_report made ++ more)
report_begins (report.Loaded number sub part span) more rest = differs_at 0 (text_of_report (report.Loaded number sub part span) ++ more) (bad ++ rest) (λ e. omega (arith, e))
report_begins (report.Done number sub part) more rest = differs_at 0 (text_of_report (report.Done number sub part) ++ more) (bad ++ rest) (λ e. omega (arith, e))
report_begins (report.Opened number sub) more rest = differs_at 0 (text_of_report (report.Opened number sub) ++ more) (bad ++ rest) (λ e. omega (arith, e))
report_begins (report.Issued number issue) more rest = differs_at 0 (text_of_report (report.Issued number issue) ++ more) (bad ++ rest) (λ e. omega (arith, e))

answer_begins : (e : Event) (answer : Answer) (more : List ℕ) → NotBegun bad (text_of_answer e answer ++ more)
answer_begins e (Opened sub) more rest = differs_at 0 (text_of_answer e (Opened sub) ++ more) (bad ++ rest) (λ e. omega (arith, e))
answer_begins e (Begun number parts) more rest = differs_at 1 (text_of_answer e (Begun number parts) ++ more) (bad ++ rest) (λ e. omega (arith, e))
answer_begins e (Closed number) more rest = differs_at 0 (text_of_answer e (Closed number) ++ more) (bad ++ rest) (λ e. omega (arith, e))
answer_begins e (Gave index chunk) more rest = differs_at 0 (text_of_answer e (Gave index chunk) ++ more) (bad ++ rest) (λ e. omega (arith, e))
answer_begins e (Loaded made) more rest = report_begins made more rest
answer_begins e Again more rest = differs_at 0 (codes "again" ++ more) (bad ++ rest) (λ e. omega (arith, e))
answer_begins e (Finished made) more rest = report_begins made more rest
answer_begins e (Sent index) more rest = differs_at 0 (text_of_answer e (Sent index) ++ more) (bad ++ rest) (λ e. omega (arith, e))
answer_begins e Delivered more rest = differs_at 0 (codes "delivered" ++ more) (bad ++ rest) (λ e. omega (arith, e))
answer_begins e (Routed part) more rest = differs_at 0 (text_of_answer e (Routed part) ++ more) (bad ++ rest) (λ e. omega (arith, e))
answer_begins e (Served reply) more rest = reply_begins reply more rest
answer_begins e (Refused why) more rest = differs_at 0 (text_of_answer e (Refused why) ++ more) (bad ++ rest) (λ e. omega (arith, e))

pub answer_lacks : (e : Event) (answer : Answer) → Lacks bad (answer_line e answer)
answer_lacks e answer =
    lacks_line bad (answer_line e answer) (text_of_answer e answer ++ []) (spells_glued (text_of_answer e answer) (codes "\n") [] [] (answer_no_lf e answer) spells_lf) (answer_begins e answer [])
