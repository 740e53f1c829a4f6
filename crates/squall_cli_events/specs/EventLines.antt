-- Events as lines write them (this project's scenario language).
use Rattle.std.specs.Prelude.{ℕ, suc, ◌^◌, Bool, ◌&&◌, nat_lt, nat_le, List, [], ◌∷◌, length, slice_index, take, drop}
use Rattle.std.specs.Prelude.{Option, None, Some, Result, Ok, Err, codes, ◌==◌, if◌then◌else◌}
use Rattle.std.specs.Option.{option_map, option_and_then}
use Rattle.std.specs.Str.{bytes_eq, all_ascii_digits}
use Rattle.std.specs.Str.Parse.{digits_value}
use Rattle.squall_key.specs.Keys.{part_limit, key_of}
use Rattle.squall_key.specs.Numbers.{number_of}
use Rattle.squall_plan.specs.declared.range.PlanRange.{PlanRange}
use Rattle.squall_plan.specs.declared.fault.PlanFault.{PlanFault}
use Rattle.squall_plan.specs.Form.{plan_of_text}
use Rattle.squall_report.specs.declared.report.ReportKind.{ReportKind}
use Rattle.squall_report.specs.Issues.{PlanPair}
use Rattle.squall_board.specs.Takes.{board_by}
use Rattle.squall_cli_lines.specs.Words.{is_letter, from_first, has_some, only_word}
use Rattle.squall_cli_words.specs.Forms.{number_first}
use Rattle.squall_cli_words.specs.declared.reports.ReportWords.{ReportWords}
use Rattle.squall_cli_words.specs.declared.reports.ReportWords.TheVariants as report
use Rattle.squall_cli_words.specs.ReportLines.{report_line, report_of}
use Rattle.squall_protocol.specs.declared.event.Node.{Node}
use Rattle.squall_protocol.specs.declared.event.Node.TheVariants as node
use Rattle.squall_protocol.specs.declared.event.Event.{Event}
use Rattle.squall_protocol.specs.declared.event.Event.TheVariants as event
use Rattle.squall_cli_events.specs.declared.words.NodeWords.{NodeWords}
use Rattle.squall_cli_events.specs.declared.words.NodeWords.TheVariants as named
use Rattle.squall_cli_events.specs.declared.words.EventWords.{EventWords}
use Rattle.squall_cli_events.specs.declared.words.EventWords.TheVariants as words
use Rattle.squall_cli_events.specs.declared.events.Unfit.{Unfit}
use Rattle.squall_cli_events.specs.declared.events.Unfit.TheVariants.{OverLimit, NoPlan}

-- an event as a line writes it, whatever its numbers are; that of `begin` has the text of its plan, that of `begin-from` both texts
pub data EventLine : Type 0 where
  Open : EventLine
  Begin : List ℕ → EventLine
  BeginFrom : List ℕ → List ℕ → EventLine
  Close : ℕ → EventLine
  Give : ℕ → ℕ → EventLine
  GiveAt : ℕ → ℕ → EventLine
  Load : ℕ → EventLine
  Finish : ℕ → ℕ → EventLine
  Send : NodeWords → EventLine
  SendPart : NodeWords → ReportWords → EventLine
  Deliver : ℕ → NodeWords → EventLine
  Route : ℕ → ℕ → EventLine
  Serve : ℕ → ℕ → ℕ → EventLine

-- ---- words

-- the text is 1 to 20 decimal digits, of a number below 2 ^ 64
abbrev pub is_most : List ℕ → Bool
is_most text = nat_le 1 (length text) && nat_le (length text) 20 && all_ascii_digits text && nat_lt (digits_value 10 text) (2 ^ 64)

-- the number of keys that the text writes
abbrev pub most_of : List ℕ → Option ℕ
most_of text = if is_most text then Some (digits_value 10 text) else None

-- a node: `l`, the leader; `p` and a partition's number; `r` and a router's number
abbrev pub node_of : List ℕ → Option NodeWords
node_of word = if bytes_eq word (codes "l") then Some named.Leader
    else (if slice_index word 0 == 112 then option_map named.Part (number_of (drop 1 word))
    else (if slice_index word 0 == 114 then option_map named.Router (number_of (drop 1 word))
    else None))

-- ---- lines

-- the event, if no word is left
abbrev pub alone : EventLine → List (List ℕ) → Option EventLine
alone line [] = Some line
alone line (word ∷ words) = None

-- two words, of which the first is a number: the event of what they write
abbrev pub with_number : (ℕ → List ℕ → Option EventLine) → List (List ℕ) → Option EventLine
with_number event words = option_and_then (λ (n : ℕ × List (List ℕ)). option_and_then (event n.0) (only_word n.1)) (number_first words)

-- whether the next byte that is no blank is a `{`
abbrev pub opens_next : List ℕ → Bool
opens_next bytes = slice_index (from_first is_letter bytes) 0 == 123

-- The length of the first of two texts. It ends with the first `}` after which the next byte that is no blank is a `{`. If there is no
-- such `}`, the first text is all.
abbrev pub first_length : List ℕ → ℕ
first_length [] = 0
first_length (b ∷ bytes) = if b == 125 && opens_next bytes then 1 else suc (first_length bytes)

-- the second of two texts, without the blanks before it
abbrev pub second_text : List ℕ → List ℕ
second_text text = from_first is_letter (drop (first_length text) text)

-- begin-from OLD NEW
abbrev pub begin_from_line : List ℕ → Option EventLine
begin_from_line text = if has_some (second_text text) then Some (BeginFrom (take (first_length text) text) (second_text text)) else None

-- close P
abbrev pub close_line : List (List ℕ) → Option EventLine
close_line words = option_map Close (option_and_then number_of (only_word words))

-- give P MAX
abbrev pub give_line : List (List ℕ) → Option EventLine
give_line words = with_number (λ part word. option_map (Give part) (most_of word)) words

-- giveat P K
abbrev pub give_at_line : List (List ℕ) → Option EventLine
give_at_line words = with_number (λ part word. option_map (GiveAt part) (key_of word)) words

-- load I
abbrev pub load_line : List (List ℕ) → Option EventLine
load_line words = option_map Load (option_and_then number_of (only_word words))

-- finish P S
abbrev pub finish_line : List (List ℕ) → Option EventLine
finish_line words = with_number (λ part word. option_map (Finish part) (number_of word)) words

-- what a node sends: all that it knows, if no word is left, or else the report that the words write
abbrev pub sent_by : NodeWords → List (List ℕ) → Option EventLine
sent_by node [] = Some (Send node)
sent_by node (name ∷ words) = option_map (SendPart node) (report_line name words)

-- send NODE, or send NODE REPORT
abbrev pub send_line : List (List ℕ) → Option EventLine
send_line [] = None
send_line (word ∷ words) = option_and_then (λ node. sent_by node words) (node_of word)

-- deliver I NODE
abbrev pub deliver_line : List (List ℕ) → Option EventLine
deliver_line words = with_number (λ message word. option_map (Deliver message) (node_of word)) words

-- route R K
abbrev pub route_line : List (List ℕ) → Option EventLine
route_line words = with_number (λ router word. option_map (Route router) (key_of word)) words

-- the number of the last move that was followed, 0 if no word is left
abbrev pub after_of : List (List ℕ) → Option ℕ
after_of [] = Some 0
after_of (word ∷ words) = option_and_then number_of (only_word (word ∷ words))

abbrev pub serve_words : ℕ → List (List ℕ) → Option EventLine
serve_words part [] = None
serve_words part (word ∷ words) = option_and_then (λ key. option_map (Serve part key) (after_of words)) (key_of word)

-- serve P K, or serve P K N
abbrev pub serve_line : List (List ℕ) → Option EventLine
serve_line words = option_and_then (λ (n : ℕ × List (List ℕ)). serve_words n.0 n.1) (number_first words)

-- the event of a message or a request that the first word names
abbrev pub message_line : List ℕ → List (List ℕ) → Option EventLine
message_line name words = if bytes_eq name (codes "send") then send_line words
    else (if bytes_eq name (codes "deliver") then deliver_line words
    else (if bytes_eq name (codes "route") then route_line words
    else (if bytes_eq name (codes "serve") then serve_line words
    else None)))

-- the event that the first word names: the words after it must have its form, but for `begin` and `begin-from`, whose plans are the
-- rest of the line
abbrev pub event_line : List ℕ → List (List ℕ) → List ℕ → Option EventLine
event_line name words text = if bytes_eq name (codes "open") then alone Open words
    else (if bytes_eq name (codes "begin") then Some (Begin text)
    else (if bytes_eq name (codes "begin-from") then begin_from_line text
    else (if bytes_eq name (codes "close") then close_line words
    else (if bytes_eq name (codes "give") then give_line words
    else (if bytes_eq name (codes "giveat") then give_at_line words
    else (if bytes_eq name (codes "load") then load_line words
    else (if bytes_eq name (codes "finish") then finish_line words
    else message_line name words)))))))

-- what the code keeps of a line
abbrev pub line_seen : EventWords → EventLine
line_seen words.Open = Open
line_seen (words.Begin text) = Begin text.now
line_seen (words.BeginFrom old new) = BeginFrom old.now new.now
line_seen (words.Close part) = Close part
line_seen (words.Give part most) = Give part most
line_seen (words.GiveAt part key) = GiveAt part key
line_seen (words.Load chunk) = Load chunk
line_seen (words.Finish part sub) = Finish part sub
line_seen (words.Send node) = Send node
line_seen (words.SendLoaded node number sub part lo hi) = SendPart node (report.Loaded number sub part lo hi)
line_seen (words.SendDone node number sub part) = SendPart node (report.Done number sub part)
line_seen (words.SendOpened node number sub) = SendPart node (report.Opened number sub)
line_seen (words.Deliver message node) = Deliver message node
line_seen (words.Route router key) = Route router key
line_seen (words.Serve part key after) = Serve part key after

-- ---- within limits

-- the event, if the partition lies within its limit
abbrev pub at_part : ℕ → Event → Result Event Unfit
at_part part e = if nat_lt part part_limit then Ok e else Err OverLimit

abbrev pub at_sub : ℕ → Result Event Unfit → Result Event Unfit
at_sub sub e = if nat_lt sub part_limit then e else Err OverLimit

-- the event at a node, if a partition's number lies within its limit; a router that is not there is for the world to refuse
abbrev pub at_node : NodeWords → (Node → Event) → Result Event Unfit
at_node named.Leader e = Ok (e node.Leader)
at_node (named.Part part) e = at_part part (e (node.Part part))
at_node (named.Router router) e = Ok (e (node.Router router))

-- the node sends the board of the one report, if the numbers of both lie within their limits
abbrev pub said_of : NodeWords → Option (ReportKind PlanPair) → Result Event Unfit
said_of node None = Err OverLimit
said_of node (Some report) = at_node node (λ n. event.SendPart n (board_by (report ∷ [])))

abbrev pub begin_of : Result (List PlanRange) PlanFault → Result Event Unfit
begin_of (Ok plan) = Ok (event.Begin plan)
begin_of (Err fault) = Err (NoPlan fault)

-- the event that begins a course from the first plan to the second, or the first fault
abbrev pub begin_from_of : Result (List PlanRange) PlanFault → Result (List PlanRange) PlanFault → Result Event Unfit
begin_from_of (Ok old) (Ok new) = Ok (event.BeginFrom old new)
begin_from_of (Ok old) (Err fault) = Err (NoPlan fault)
begin_from_of (Err fault) new = Err (NoPlan fault)

-- the event of a line, or why it is none
abbrev pub event_of : EventLine → Result Event Unfit
event_of Open = Ok event.OpenNext
event_of (Begin text) = begin_of (plan_of_text text)
event_of (BeginFrom old new) = begin_from_of (plan_of_text old) (plan_of_text new)
event_of (Close part) = at_part part (event.Close part)
event_of (Give part most) = at_part part (event.Give part most)
event_of (GiveAt part key) = at_part part (event.GiveAt part key)
event_of (Load chunk) = Ok (event.Load chunk)
event_of (Finish part sub) = at_sub sub (at_part part (event.Finish part sub))
event_of (Send node) = at_node node event.Send
event_of (SendPart node words) = said_of node (report_of words)
event_of (Deliver message node) = at_node node (event.Deliver message)
event_of (Route router key) = Ok (event.Route router key)
event_of (Serve part key after) = at_part part (event.Serve part key after)
