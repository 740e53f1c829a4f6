-- Answers to events as they are written (this project's scenario language). Each ends in a LF.
use Rattle.std.specs.Prelude.{ℕ, List, ◌++◌, codes}
use Rattle.std.specs.Fmt.{decimal}
use Rattle.squall_key.specs.Keys.{text_of_key}
use Rattle.squall_span.specs.Spans.{text_of_span}
use Rattle.squall_report.specs.declared.report.ReportKind.{ReportKind}
use Rattle.squall_report.specs.declared.report.ReportKind.TheVariants as report
use Rattle.squall_report.specs.Issues.{PlanPair}
use Rattle.squall_errand.specs.declared.errand.Reply.{Reply}
use Rattle.squall_errand.specs.declared.errand.Reply.TheVariants.{Held, Moved, Pending, Behind, Elsewhere}
use Rattle.squall_protocol.specs.Chunks.{ChunkValue}
use Rattle.squall_protocol.specs.declared.event.Event.{Event}
use Rattle.squall_protocol.specs.declared.event.Event.TheVariants as event
use Rattle.squall_protocol.specs.declared.answer.Answer.{Answer}
use Rattle.squall_protocol.specs.declared.answer.Answer.TheVariants.{Opened, Begun, Closed, Gave, Loaded, Again, Finished}
use Rattle.squall_protocol.specs.declared.answer.Answer.TheVariants.{Sent, Delivered, Routed, Served, Refused}
use Rattle.squall_protocol.specs.declared.answer.Refusal.{Refusal}
use Rattle.squall_protocol.specs.declared.answer.Refusal.TheVariants.{NoSuch, NotDone, NoMore, Running, NoNumber, NotOpen, Ended, NothingLeft}
use Rattle.squall_protocol.specs.declared.answer.Refusal.TheVariants.{ZeroMax, NotOutgoing, Given, NotHeld, Stranger, NotAll, NothingDue, NotKnown}

-- why nothing changed
abbrev pub text_of_refusal : Refusal → List ℕ
text_of_refusal NoSuch = codes "NoSuch"
text_of_refusal (NotDone sub part) = codes "NotDone " ++ (decimal sub ++ (codes " " ++ decimal part))
text_of_refusal NoMore = codes "NoMore"
text_of_refusal Running = codes "Running"
text_of_refusal NoNumber = codes "NoNumber"
text_of_refusal NotOpen = codes "NotOpen"
text_of_refusal Ended = codes "Ended"
text_of_refusal NothingLeft = codes "NothingLeft"
text_of_refusal ZeroMax = codes "ZeroMax"
text_of_refusal NotOutgoing = codes "NotOutgoing"
text_of_refusal Given = codes "Given"
text_of_refusal NotHeld = codes "NotHeld"
text_of_refusal Stranger = codes "Stranger"
text_of_refusal (NotAll span) = codes "NotAll " ++ text_of_span span
text_of_refusal NothingDue = codes "NothingDue"
text_of_refusal NotKnown = codes "NotKnown"

-- a partition's reply: `moved` with the partition and the number of the reconfiguration, `pending` with the source
abbrev pub text_of_reply : Reply → List ℕ
text_of_reply Held = codes "held"
text_of_reply (Moved dest number) = codes "moved " ++ (decimal dest ++ (codes " " ++ decimal number))
text_of_reply (Pending source) = codes "pending " ++ decimal source
text_of_reply Behind = codes "behind"
text_of_reply (Elsewhere dest) = codes "elsewhere " ++ decimal dest

-- a chunk: its index, its sub-plan, where it comes from and goes to, and its keys
abbrev pub text_of_chunk : ℕ → ChunkValue → List ℕ
text_of_chunk index x =
    codes "chunk " ++ (decimal index ++ (codes " sub " ++ (decimal x.sub ++ (codes " " ++ (decimal x.source
    ++ (codes " to " ++ (decimal x.dest ++ (codes " " ++ text_of_span x.span))))))))

-- a report that a partition makes: of a load its partition and keys, of a completion its sub-plan and partition. It makes no other.
abbrev pub text_of_report : ReportKind PlanPair → List ℕ
text_of_report (report.Loaded number sub part span) = codes "loaded " ++ (decimal part ++ (codes " " ++ text_of_span span))
text_of_report (report.Done number sub part) = codes "done " ++ (decimal sub ++ (codes " " ++ decimal part))
text_of_report (report.Opened number sub) = codes "opened " ++ decimal sub
text_of_report (report.Issued number issue) = codes "issued " ++ decimal number

-- the key that a router was asked for
abbrev pub asked_key : Event → ℕ
asked_key event.OpenNext = 0
asked_key (event.Begin plan) = 0
asked_key (event.BeginFrom old new) = 0
asked_key (event.Close part) = 0
asked_key (event.Give part most) = 0
asked_key (event.GiveAt part key) = key
asked_key (event.Load chunk) = 0
asked_key (event.Finish part sub) = 0
asked_key (event.Send node) = 0
asked_key (event.SendPart node said) = 0
asked_key (event.Deliver message node) = 0
asked_key (event.Route router key) = key
asked_key (event.Serve part key after) = key

-- the answer to an event, without its LF
abbrev pub text_of_answer : Event → Answer → List ℕ
text_of_answer e (Opened sub) = codes "opened " ++ decimal sub
text_of_answer e (Begun number parts) = codes "begun " ++ (decimal number ++ (codes " " ++ decimal parts))
text_of_answer e (Closed number) = codes "closed " ++ decimal number
text_of_answer e (Gave index chunk) = text_of_chunk index chunk
text_of_answer e (Loaded made) = text_of_report made
text_of_answer e Again = codes "again"
text_of_answer e (Finished made) = text_of_report made
text_of_answer e (Sent index) = codes "sent " ++ decimal index
text_of_answer e Delivered = codes "delivered"
text_of_answer e (Routed part) = codes "route " ++ (text_of_key (asked_key e) ++ (codes " " ++ decimal part))
text_of_answer e (Served reply) = text_of_reply reply
text_of_answer e (Refused why) = codes "no " ++ text_of_refusal why

-- the line that answers an event
abbrev pub answer_line : Event → Answer → List ℕ
answer_line e answer = text_of_answer e answer ++ codes "\n"
