-- What the code has done when it answers a line, for the functions that make up an answer.
use Rattle.std.specs.Prelude.{◌≡◌, ℕ, List, [], ◌++◌, Option, None, Some, Result, Ok, Err, codes}
use Rattle.std.specs.declared.alloc.AllocError.{AllocError}
use Rattle.squall_cli_lines.specs.declared.Flow.{Flow}
use Rattle.squall_cli_lines.specs.declared.Flow.TheVariants.{On, End}
use Rattle.squall_cli_words.specs.declared.reason.Reason.{Reason}
use Rattle.squall_cli_words.specs.Reasons.{bad_line}
use Rattle.squall_cli_events.specs.EventLines.{line_seen}
use Rattle.squall_cli_events.specs.RowLines.{row_seen}
use Rattle.squall_cli_scenario.specs.declared.command.Command.{Command}
use Rattle.squall_cli_scenario.specs.declared.command.Command.TheVariants as code
use Rattle.squall_cli_scenario.specs.State.{ScenarioState}
use Rattle.squall_cli_scenario.specs.Requests.{Request, Skip, Old, New, Report, Issued, Route, Legs, Board, Hear, Frame, World, Happen, Row, Bad}
use Rattle.squall_cli_scenario.specs.Replies.{Reply, Goes, Happens, Ends, Happened}

-- the request of a command
abbrev pub request_seen : Command → Request
request_seen code.Skip = Skip
request_seen (code.Old text) = Old text.now
request_seen (code.New text) = New text.now
request_seen (code.Report words) = Report words
request_seen (code.Issued number text) = Issued number text.now
request_seen (code.Route key) = Route key
request_seen (code.Legs lo hi) = Legs lo hi
request_seen code.Board = Board
request_seen (code.Hear digits) = Hear digits.now
request_seen code.Frame = Frame
request_seen (code.World routers) = World routers
request_seen (code.Happen words) = Happen (line_seen words)
request_seen (code.Row words) = Row (row_seen words)
request_seen (code.Bad reason) = Bad reason

-- what was said, the scenario after it and the reason, if any, are the reply
abbrev pub IsReply : Option Reason → List ℕ → ScenarioState → Reply → Type 0
IsReply None said s (Goes text t) = (said ≡ text) × (s ≡ t)
IsReply None said s (Happens w act u) = Happened w act u said s
IsReply None said s (Ends reason) = ⊥
IsReply (Some why) said s (Goes text t) = ⊥
IsReply (Some why) said s (Happens w act u) = ⊥
IsReply (Some why) said s (Ends reason) = (said ≡ []) × (why ≡ reason)

-- unless an allocation failed, the text grew by what was said, which with the scenario and the reason is the reply
abbrev pub Answers : Result (Option Reason) AllocError → List ℕ → List ℕ → ScenarioState → Reply → Type 0
Answers (Ok why) out out' s reply = (said : List ℕ) × (out' ≡ out ++ said) × IsReply why said s reply
Answers (Err e) out out' s reply = Unit {0}

-- this flow, text and scenario answer a line of that number with the reply
abbrev pub IsAnswer : Flow → List ℕ → ScenarioState → ℕ → Reply → Type 0
IsAnswer On text s line (Goes said t) = (text ≡ said) × (s ≡ t)
IsAnswer On text s line (Happens w act u) = Happened w act u text s
IsAnswer On text s line (Ends reason) = ⊥
IsAnswer End text s line (Goes said t) = ⊥
IsAnswer End text s line (Happens w act u) = ⊥
IsAnswer End text s line (Ends reason) = text ≡ bad_line line reason ++ codes "\n"
