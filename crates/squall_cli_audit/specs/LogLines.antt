-- What the lines of logs say, as entries of a log (this project's logs).
use Rattle.std.specs.Prelude.{ℕ, ◌-◌, ◌==◌, List, [], ◌∷◌, take, Option, None, Some, Result, Ok, Err, codes, if◌then◌else◌}
use Rattle.std.specs.Option.{option_map, option_and_then}
use Rattle.std.specs.Str.{bytes_eq}
use Rattle.squall_key.specs.Keys.{key_of}
use Rattle.squall_span.specs.Spans.{Interval}
use Rattle.squall_plan.specs.declared.range.PlanRange.{PlanRange}
use Rattle.squall_plan.specs.declared.fault.PlanFault.{PlanFault}
use Rattle.squall_plan.specs.Form.{plan_of_text}
use Rattle.squall_report.specs.Issues.{plan_pair}
use Rattle.squall_report.specs.Facts.{loaded_of, done_of, issued_of}
use Rattle.squall_errand.specs.declared.errand.Reply.{Reply}
use Rattle.squall_errand.specs.declared.errand.Reply.TheVariants.{Held, Moved, Pending, Behind, Elsewhere}
use Rattle.squall_protocol.specs.Chunks.{ChunkValue, chunk_of}
use Rattle.squall_protocol.specs.declared.event.Node.{Node}
use Rattle.squall_protocol.specs.declared.event.Node.TheVariants.{Leader, Part, Router}
use Rattle.squall_protocol.specs.declared.event.Event.{Event}
use Rattle.squall_protocol.specs.declared.event.Event.TheVariants.{OpenNext, Begin, BeginFrom, Close, Give, GiveAt, Finish, Route, Serve}
use Rattle.squall_protocol.specs.declared.answer.Answer.{Answer}
use Rattle.squall_protocol.specs.declared.answer.Answer.TheVariants.{Opened, Begun, Closed, Loaded, Again, Finished, Routed, Served}
use Rattle.squall_judge.specs.declared.log.Entry.{Entry}
use Rattle.squall_judge.specs.declared.log.Entry.TheVariants.{Own, Gift, Arrival, Heard}
use Rattle.squall_cli_lines.specs.Words.{words_of, only_word, has_some, is_letter, from_first, after_word}
use Rattle.squall_cli_words.specs.Forms.{number_first}
use Rattle.squall_cli_words.specs.ReportLines.{report_line, report_of}
use Rattle.squall_cli_events.specs.EventLines.{first_length, second_text}
use Rattle.squall_cli_audit.specs.LogWords.{after_name, named_number, number_alone, two_first, way_first, span_of, part_of, number_then}

-- the value, if no word is left
abbrev pub alone : {A : Type 0} → A → List (List ℕ) → Option A
alone v [] = Some v
alone v (word ∷ words) = None

-- ---- the first line

-- the node of the role and the words after it
abbrev pub node_by : List ℕ → List (List ℕ) → Option Node
node_by role words = if bytes_eq role (codes "leader") then alone Leader words
    else (if bytes_eq role (codes "part") then option_map Part (option_and_then part_of (number_alone words))
    else (if bytes_eq role (codes "router") then option_map Router (number_alone words)
    else None))

abbrev pub node_after : List (List ℕ) → Option Node
node_after [] = None
node_after (role ∷ words) = node_by role words

-- node leader, node part P, or node router R
abbrev pub node_line : List (List ℕ) → Option Node
node_line words = option_and_then node_after (after_name (codes "node") words)

-- ---- partitions

-- the partition gives the keys of the span: the one key that it has, or else the first keys that are to go, as many as it has
abbrev pub give_event : ℕ → Interval → Event
give_event p s = if s.hi - s.lo == 1 then GiveAt p s.lo else Give p (s.hi - s.lo)

abbrev pub given_chunk : ℕ → ℕ → ℕ → Interval → ℕ → Option Entry
given_chunk p n s span dest = option_map (Gift (give_event p span)) (chunk_of n s p dest span)

abbrev pub given_keys : ℕ → List ℕ → List ℕ → ℕ × ℕ × ℕ → Option Entry
given_keys p lo hi w = option_and_then (λ span. option_and_then (given_chunk p w.1 w.2 span) (part_of w.0)) (span_of lo hi)

-- give LO HI to P course N sub S: the partition gave that chunk
abbrev pub give_line : ℕ → List (List ℕ) → Option Entry
give_line p words =
    option_and_then (λ (k : List ℕ × List ℕ × List (List ℕ)). option_and_then (λ (w : ℕ × ℕ × ℕ × List (List ℕ)).
    option_and_then (given_keys p k.0 k.1) (alone (w.0, w.1, w.2) w.3)) (way_first (codes "to") k.2)) (two_first words)

-- the answer to the load of a chunk: `new` if the load is reported, or `again` if each of its keys was loaded before
abbrev pub load_answer : ChunkValue → List ℕ → Option Answer
load_answer x word = if bytes_eq word (codes "new") then option_map Loaded (loaded_of x.number x.sub x.dest x.span)
    else (if bytes_eq word (codes "again") then Some Again
    else None)

abbrev pub loaded_chunk : List ℕ → ChunkValue → Option Entry
loaded_chunk word x = option_map (Arrival x) (load_answer x word)

abbrev pub loaded_keys : ℕ → List ℕ → List ℕ → ℕ → ℕ → ℕ → List ℕ → Option Entry
loaded_keys p lo hi from n s word =
    option_and_then (λ span. option_and_then (λ source. option_and_then (loaded_chunk word) (chunk_of n s source p span)) (part_of from)) (span_of lo hi)

-- load LO HI from P course N sub S HOW: that chunk came to the partition
abbrev pub load_line : ℕ → List (List ℕ) → Option Entry
load_line p words =
    option_and_then (λ (k : List ℕ × List ℕ × List (List ℕ)). option_and_then (λ (w : ℕ × ℕ × ℕ × List (List ℕ)).
    option_and_then (loaded_keys p k.0 k.1 w.0 w.1 w.2) (only_word w.3)) (way_first (codes "from") k.2)) (two_first words)

abbrev pub finished : ℕ → ℕ → ℕ → Option Entry
finished p n s = option_map (λ r. Own (Finish p s) (Finished r)) (done_of n s p)

-- done N S: the partition reported that it has all keys of the sub-plan
abbrev pub done_line : ℕ → List (List ℕ) → Option Entry
done_line p words = option_and_then (λ (n : ℕ × List (List ℕ)). option_and_then (finished p n.0) (number_alone n.1)) (number_first words)

-- close N: the partition gives no more in the course
abbrev pub close_line : ℕ → List (List ℕ) → Option Entry
close_line p words = option_map (λ n. Own (Close p) (Closed n)) (number_alone words)

abbrev pub moved_to : ℕ → ℕ → Option Reply
moved_to p n = option_map (λ dest. Moved dest n) (part_of p)

-- moved P N
abbrev pub moved_reply : List (List ℕ) → Option Reply
moved_reply words = option_and_then (λ (p : ℕ × List (List ℕ)). option_and_then (moved_to p.0) (number_alone p.1)) (number_first words)

-- the reply of the name and the words after it
abbrev pub reply_by : List ℕ → List (List ℕ) → Option Reply
reply_by name words = if bytes_eq name (codes "held") then alone Held words
    else (if bytes_eq name (codes "moved") then moved_reply words
    else (if bytes_eq name (codes "pending") then option_map Pending (option_and_then part_of (number_alone words))
    else (if bytes_eq name (codes "behind") then alone Behind words
    else (if bytes_eq name (codes "elsewhere") then option_map Elsewhere (option_and_then part_of (number_alone words))
    else None))))

-- held, moved P N, pending P, behind, or elsewhere P
abbrev pub reply_line : List (List ℕ) → Option Reply
reply_line [] = None
reply_line (name ∷ words) = reply_by name words

abbrev pub served : ℕ → ℕ → ℕ × List (List ℕ) → Option Entry
served p k after = option_map (λ r. Own (Serve p k after.0) (Served r)) (reply_line after.1)

abbrev pub served_key : ℕ → List ℕ → ℕ × List (List ℕ) → Option Entry
served_key p word after = option_and_then (λ k. served p k after) (key_of word)

-- serve K after A REPLY: the partition so replied for the key, after the move of that number
abbrev pub serve_line : ℕ → List (List ℕ) → Option Entry
serve_line p [] = None
serve_line p (word ∷ words) = option_and_then (served_key p word) (named_number (codes "after") words)

-- what a partition did, by the first word of the line and the words after it
abbrev pub part_line : ℕ → List ℕ → List (List ℕ) → Option Entry
part_line p name words = if bytes_eq name (codes "give") then give_line p words
    else (if bytes_eq name (codes "load") then load_line p words
    else (if bytes_eq name (codes "done") then done_line p words
    else (if bytes_eq name (codes "close") then close_line p words
    else (if bytes_eq name (codes "serve") then serve_line p words
    else None))))

-- ---- routers

abbrev pub routed : ℕ → List (List ℕ) → ℕ → Option Entry
routed r words k = option_map (λ p. Own (Route r k) (Routed p)) (option_and_then part_of (number_alone words))

-- route K P: the router sent the key to the partition
abbrev pub route_line : ℕ → List (List ℕ) → Option Entry
route_line r [] = None
route_line r (word ∷ words) = option_and_then (routed r words) (key_of word)

-- what a router did
abbrev pub router_line : ℕ → List ℕ → List (List ℕ) → Option Entry
router_line r name words = if bytes_eq name (codes "route") then route_line r words else None

-- ---- plans

-- OLD NEW: the two texts
abbrev pub two_texts : List ℕ → Option (List ℕ × List ℕ)
two_texts text = if has_some (second_text text) then Some (take (first_length text) text, second_text text) else None

abbrev pub both_plans : Result (List PlanRange) PlanFault → Result (List PlanRange) PlanFault → Option (List PlanRange × List PlanRange)
both_plans (Ok old) (Ok new) = Some (old, new)
both_plans (Ok old) (Err fault) = None
both_plans (Err fault) new = None

-- the plans of two texts, if both are plans
abbrev pub two_plans : List ℕ → Option (List PlanRange × List PlanRange)
two_plans text = option_and_then (λ (t : List ℕ × List ℕ). both_plans (plan_of_text t.0) (plan_of_text t.1)) (two_texts text)

-- ---- the leader

-- open S: the leader opened the sub-plan
abbrev pub open_line : List (List ℕ) → Option Entry
open_line words = option_map (λ s. Own OpenNext (Opened s)) (number_alone words)

-- N C and a text: the number of a course, how many partitions there are then, and the rest after these
abbrev pub counted_text : List ℕ → Option (ℕ × ℕ × List ℕ)
counted_text rest = option_and_then (λ (n : ℕ × List ℕ). option_map (λ (c : ℕ × List ℕ). (n.0, c.0, c.1)) (number_then n.1)) (number_then rest)

abbrev pub begun_to : ℕ → ℕ → Result (List PlanRange) PlanFault → Option Entry
begun_to n c (Ok plan) = Some (Own (Begin plan) (Begun n c))
begun_to n c (Err fault) = None

-- begin N C NEW: the leader began the course to the plan
abbrev pub begin_line : List ℕ → Option Entry
begin_line rest = option_and_then (λ (t : ℕ × ℕ × List ℕ). begun_to t.0 t.1 (plan_of_text (from_first is_letter t.2))) (counted_text rest)

abbrev pub begun_from : ℕ → ℕ → List PlanRange × List PlanRange → Entry
begun_from n c plans = Own (BeginFrom plans.0 plans.1) (Begun n c)

-- begin-from N C OLD NEW: the leader began the course from the one plan to the other
abbrev pub begin_from_line : List ℕ → Option Entry
begin_from_line rest = option_and_then (λ (t : ℕ × ℕ × List ℕ). option_map (begun_from t.0 t.1) (two_plans (from_first is_letter t.2))) (counted_text rest)

-- what the leader did, by the first word of the line and the rest after it
abbrev pub leader_line : List ℕ → List ℕ → Option Entry
leader_line name rest = if bytes_eq name (codes "open") then open_line (words_of rest)
    else (if bytes_eq name (codes "begin") then begin_line rest
    else (if bytes_eq name (codes "begin-from") then begin_from_line rest
    else None))

-- ---- reports

abbrev pub heard_issue : ℕ → List PlanRange × List PlanRange → Option Entry
heard_issue n plans = option_map Heard (issued_of n (plan_pair plans.0 plans.1))

-- issued N OLD NEW
abbrev pub issued_line : List ℕ → Option Entry
issued_line rest = option_and_then (λ (n : ℕ × List ℕ). option_and_then (heard_issue n.0) (two_plans (from_first is_letter n.1))) (number_then rest)

-- the report that a line of a scenario writes was received
abbrev pub report_entry : List ℕ → List (List ℕ) → Option Entry
report_entry name words = option_map Heard (option_and_then report_of (report_line name words))

-- the report of the name and the rest after it was received
abbrev pub heard_by : List ℕ → List ℕ → Option Entry
heard_by name rest = if bytes_eq name (codes "issued") then issued_line rest else report_entry name (words_of rest)

abbrev pub heard_words : List (List ℕ) → List ℕ → Option Entry
heard_words [] rest = None
heard_words (name ∷ words) rest = heard_by name rest

-- heard REPORT: the node received the report
abbrev pub heard_line : List ℕ → Option Entry
heard_line rest = heard_words (words_of rest) (after_word rest)

-- ---- entries

-- what the node did, by the first word of the line and the rest after it
abbrev pub own_line : Node → List ℕ → List ℕ → Option Entry
own_line Leader name rest = leader_line name rest
own_line (Part p) name rest = part_line p name (words_of rest)
own_line (Router r) name rest = router_line r name (words_of rest)

abbrev pub entry_by : Node → List ℕ → List ℕ → Option Entry
entry_by m name rest = if bytes_eq name (codes "heard") then heard_line rest else own_line m name rest

abbrev pub entry_of_words : Node → List (List ℕ) → List ℕ → Option Entry
entry_of_words m [] rest = None
entry_of_words m (name ∷ words) rest = entry_by m name rest

-- the entry of a line in the log of the node, if the line has the form of one
abbrev pub entry_of : Node → List ℕ → Option Entry
entry_of m line = entry_of_words m (words_of line) (after_word line)
