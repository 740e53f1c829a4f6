-- What the lines of a race file set up, one after another (this project's scenario language).
use Rattle.std.specs.Prelude.{ℕ, zero, suc, ◌+◌, ◌-◌, ◌^◌, min, Bool, true, false, ◌&&◌, nat_lt}
use Rattle.std.specs.Prelude.{List, [], ◌∷◌, ◌++◌, length, replicate, Option, None, Some, unwrap_or, Result, Ok, Err}
use Rattle.squall_plan.specs.declared.range.PlanRange.{PlanRange}
use Rattle.squall_plan.specs.declared.fault.PlanFault.{PlanFault}
use Rattle.squall_plan.specs.Form.{plan_of_text}
use Rattle.squall_report.specs.declared.report.ReportKind.{ReportKind}
use Rattle.squall_report.specs.Issues.{PlanPair}
use Rattle.squall_cli_lines.specs.Words.{without_cr}
use Rattle.squall_cli_words.specs.declared.reason.Reason.{Reason}
use Rattle.squall_cli_words.specs.declared.reason.Reason.TheVariants.{Order, Limit, Plan}
use Rattle.squall_cli_words.specs.ReportLines.{report_of}
use Rattle.squall_cluster.specs.declared.cluster.Sizes.{Sizes}
use Rattle.squall_cluster.specs.Race.{Reports}
use Rattle.squall_cli_race.specs.declared.line.Item.{Item}
use Rattle.squall_cli_race.specs.declared.line.Item.TheVariants.{Capacity, Readers, Senders, Post, Ask}
use Rattle.squall_cli_race.specs.RaceLines.{RaceLine, Skip, Old, New, Has, Bad, race_line}

-- the plans that are read: none, the old one, or both
pub data Plans : Type 0 where
  NoPlan : Plans
  OldPlan : List PlanRange → Plans
  BothPlans : List PlanRange → List PlanRange → Plans

-- A race after some lines of its file. It has the count of lines, skipped ones too, and the plans. If a line said so, it has for how
-- many letters the inbox has room, and how many readers there are. It has whether the number of senders is settled, what each sender
-- posts, in order, and the keys to route.
pub record RaceState : Type 0 where
  pub line : ℕ
  pub plans : Plans
  pub capacity : Option ℕ
  pub readers : Option ℕ
  pub settled : Bool
  pub lists : List Reports
  pub keys : List ℕ

-- n senders that post nothing
abbrev pub silent : ℕ → List Reports
silent n = replicate n []

-- a race before the first line of its file: without a line that says otherwise there are two senders
abbrev pub at_start : RaceState
at_start = record { line = 0; plans = NoPlan; capacity = None; readers = None; settled = false; lists = silent 2; keys = [] }

-- if no line says so there is one reader, and the inbox has room for 16 letters
abbrev pub readers_of : Option ℕ → ℕ
readers_of asked = unwrap_or asked 1

abbrev pub capacity_of : Option ℕ → ℕ
capacity_of asked = unwrap_or asked 16

-- the sizes of the cluster that runs the race
abbrev pub sizes_of_race : RaceState → Sizes
sizes_of_race s = record { senders = length s.lists; readers = readers_of s.readers; capacity = capacity_of s.capacity }

abbrev pub with_plans : RaceState → Plans → RaceState
with_plans s plans = record s { plans = plans }

-- ---- lines

-- old JSON, once, before all else
abbrev pub old_plan : RaceState → Result (List PlanRange) PlanFault → Result RaceState Reason
old_plan s (Ok plan) = Ok (with_plans s (OldPlan plan))
old_plan s (Err fault) = Err (Plan fault)

abbrev pub take_old : RaceState → Plans → List ℕ → Result RaceState Reason
take_old s NoPlan text = old_plan s (plan_of_text text)
take_old s (OldPlan old) text = Err Order
take_old s (BothPlans old new) text = Err Order

-- new JSON, once, right after it
abbrev pub new_plan : RaceState → List PlanRange → Result (List PlanRange) PlanFault → Result RaceState Reason
new_plan s old (Ok plan) = Ok (with_plans s (BothPlans old plan))
new_plan s old (Err fault) = Err (Plan fault)

abbrev pub take_new : RaceState → Plans → List ℕ → Result RaceState Reason
take_new s NoPlan text = Err Order
take_new s (OldPlan old) text = new_plan s old (plan_of_text text)
take_new s (BothPlans old new) text = Err Order

-- items come once both plans are read
abbrev pub once_planned : Plans → Result RaceState Reason → Result RaceState Reason
once_planned NoPlan after = Err Order
once_planned (OldPlan old) after = Err Order
once_planned (BothPlans old new) after = after

-- a value outside its limits is the reason
abbrev pub within : Bool → RaceState → Result RaceState Reason
within true s = Ok s
within false s = Err Limit

-- capacity C, once: 1 to 65536 letters
abbrev pub take_capacity : RaceState → Option ℕ → ℕ → Result RaceState Reason
take_capacity s None n = within (nat_lt 0 n && nat_lt n 65537) (record s { capacity = Some n })
take_capacity s (Some before) n = Err Order

-- readers N, once: at most 64
abbrev pub take_readers : RaceState → Option ℕ → ℕ → Result RaceState Reason
take_readers s None n = within (nat_lt n 65) (record s { readers = Some n })
take_readers s (Some before) n = Err Order

-- senders N, once and before the first report: 1 to 64
abbrev pub take_senders : RaceState → Bool → ℕ → Result RaceState Reason
take_senders s false n = within (nat_lt 0 n && nat_lt n 65) (record s { settled = true; lists = silent n })
take_senders s true n = Err Order

-- the lists with one more report at the end of that of the number
abbrev pub with_report : ℕ → ReportKind PlanPair → List Reports → List Reports
with_report p r [] = []
with_report zero r (l ∷ ls) = (l ++ r ∷ []) ∷ ls
with_report (suc p) r (l ∷ ls) = l ∷ with_report p r ls

-- N REPORT: the sender posts the report after those that it had, if there is such a sender and the report's numbers are within their
-- limits
abbrev pub take_post : RaceState → ℕ → Option (ReportKind PlanPair) → Result RaceState Reason
take_post s p None = Err Limit
take_post s p (Some r) = within (nat_lt p (length s.lists)) (record s { settled = true; lists = with_report p r s.lists })

-- key K
abbrev pub take_key : RaceState → ℕ → Result RaceState Reason
take_key s k = Ok (record s { keys = s.keys ++ k ∷ [] })

-- an item
abbrev pub take_item : RaceState → Item → Result RaceState Reason
take_item s (Capacity n) = take_capacity s s.capacity n
take_item s (Readers n) = take_readers s s.readers n
take_item s (Senders n) = take_senders s s.settled n
take_item s (Post sender report) = take_post s sender (report_of report)
take_item s (Ask k) = take_key s k

-- the race after a line, or why the line is bad
abbrev pub take_line : RaceState → RaceLine → Result RaceState Reason
take_line s Skip = Ok s
take_line s (Old text) = take_old s s.plans text
take_line s (New text) = take_new s s.plans text
take_line s (Has item) = once_planned s.plans (take_item s item)
take_line s (Bad reason) = Err reason

-- ---- files

-- lines count from 1, and the count stops at the greatest number of 64 bits
abbrev pub at_next_line : RaceState → RaceState
at_next_line s = record s { line = min (s.line + 1) (2 ^ 64 - 1) }

-- the line of that number went well, and the others follow; or it is bad
abbrev pub followed : ℕ → (RaceState → Result RaceState (ℕ × Reason)) → Result RaceState Reason → Result RaceState (ℕ × Reason)
followed n others (Ok s) = others s
followed n others (Err reason) = Err (n, reason)

-- the race after these lines, each without its LF; or the number of the first bad line, and why it is bad
abbrev pub after_lines : RaceState → List (List ℕ) → Result RaceState (ℕ × Reason)
after_lines s [] = Ok s
after_lines s (line ∷ lines) = followed (at_next_line s).line (λ t. after_lines t lines) (take_line (at_next_line s) (race_line (without_cr line)))
