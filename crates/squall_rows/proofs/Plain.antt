-- An event of the protocol leaves each key's row as it was, wherever it then lies.
use Rattle.std.proofs.Common.{◌≡◌, ℕ, ◌+◌, true, List, sym, subst, arith}
use Rattle.std.specs.Prelude.{nat_lt, nat_le}
use Rattle.std.proofs.lemmas.Bool.{and_parts, leb-true, ltb-true}
use Rattle.squall_span.specs.Spans.{span_has, interval}
use Rattle.squall_plan.specs.declared.range.PlanRange.{PlanRange}
use Rattle.squall_board.specs.Boards.{BoardValue}
use Rattle.squall_protocol.specs.declared.event.Node.{Node}
use Rattle.squall_protocol.specs.declared.event.Event.{Event}
use Rattle.squall_protocol.specs.declared.event.Event.TheVariants.{OpenNext, Begin, BeginFrom, Close, Give, GiveAt, Load, Finish, Send, SendPart, Deliver, Route, Serve}
use Rattle.squall_protocol.specs.declared.answer.Answer.{Answer}
use Rattle.squall_protocol.specs.declared.answer.Answer.TheVariants.{Opened, Begun, Closed, Gave, Loaded, Again, Finished, Sent, Delivered, Routed, Served, Refused}
use Rattle.squall_protocol.specs.declared.answer.Refusal.TheVariants.{NoSuch, NotDone, NoMore, Running, NoNumber, NotOpen, Ended, NothingLeft, ZeroMax, NotOutgoing, Given, NotHeld, Stranger, NotAll, NothingDue, NotKnown}
use Rattle.squall_protocol.specs.Worlds.{WorldValue}
use Rattle.squall_protocol.specs.Knowledge.{part_in, goes_out}
use Rattle.squall_protocol.specs.Steps.{OpenStep, BeginStep, BeginFromStep, CloseStep, GiveStep, GiveAtStep, LoadStep, FinishStep, SendStep, SendPartStep, DeliverStep, RouteStep, ServeStep}
use Rattle.squall_rows.specs.Rows.{RowsValue, KeepsStored, KeepsCarried}
use Rattle.squall_rows.specs.RowSteps.{MovesRows, PlainStep}
use Rattle.squall_rows.proofs.Quiet.{HasRows, Quiet, unchanged, quiet_rows}
use Rattle.squall_rows.proofs.Chunks.{gave_rows, loaded_rows}

-- ---- events that move no key

pub open_quiet : (w v : WorldValue) (r : Answer) → OpenStep w r v → Quiet w v
open_quiet w v (Opened s) h = record { held = h.3.held; loaded = h.3.loaded; chunks = h.3.chunks }
open_quiet w v (Refused (NotDone s q)) h = unchanged w v h.2
open_quiet w v (Refused NoMore) h = unchanged w v h.1
open_quiet w v _ h = absurd h

pub begin_quiet : (w v : WorldValue) (plan : List PlanRange) (r : Answer) → BeginStep w plan r v → Quiet w v
begin_quiet w v plan (Begun n parts) h = record { held = h.5.held; loaded = h.5.loaded; chunks = h.5.chunks }
begin_quiet w v plan (Refused Running) h = unchanged w v h.1
begin_quiet w v plan (Refused NoNumber) h = unchanged w v h.2
begin_quiet w v plan _ h = absurd h

pub begin_from_quiet : (w v : WorldValue) (old new : List PlanRange) (r : Answer) → BeginFromStep w old new r v → Quiet w v
begin_from_quiet w v old new (Begun n parts) h = record { held = h.6.held; loaded = h.6.loaded; chunks = h.6.chunks }
begin_from_quiet w v old new (Refused Running) h = unchanged w v h.1
begin_from_quiet w v old new (Refused NoNumber) h = unchanged w v h.2
begin_from_quiet w v old new _ h = absurd h

pub close_quiet : (w v : WorldValue) (p : ℕ) (r : Answer) → CloseStep w p r v → Quiet w v
close_quiet w v p (Closed n) h = record { held = h.1.3.held; loaded = h.1.3.loaded; chunks = h.1.3.chunks }
close_quiet w v p (Refused NoSuch) h = unchanged w v h.1
close_quiet w v p _ h = absurd h

pub finish_quiet : (w v : WorldValue) (p s : ℕ) (r : Answer) → FinishStep w p s r v → Quiet w v
finish_quiet w v p s (Finished report) h = record { held = h.1.5.held; loaded = h.1.5.loaded; chunks = h.1.5.chunks }
finish_quiet w v p s (Refused NoSuch) h = unchanged w v h.1
finish_quiet w v p s (Refused NotOpen) h = unchanged w v h.2
finish_quiet w v p s (Refused (NotAll span)) h = unchanged w v h.2
finish_quiet w v p s (Refused NothingDue) h = unchanged w v h.2
finish_quiet w v p s _ h = absurd h

pub send_quiet : (w v : WorldValue) (node : Node) (r : Answer) → SendStep w node r v → Quiet w v
send_quiet w v node (Sent index) h = record { held = h.2.held; loaded = h.2.loaded; chunks = h.2.chunks }
send_quiet w v node (Refused NoSuch) h = unchanged w v h.1
send_quiet w v node _ h = absurd h

pub send_part_quiet : (w v : WorldValue) (node : Node) (said : BoardValue) (r : Answer) → SendPartStep w node said r v → Quiet w v
send_part_quiet w v node said (Sent index) h = record { held = h.3.held; loaded = h.3.loaded; chunks = h.3.chunks }
send_part_quiet w v node said (Refused NoSuch) h = unchanged w v h.1
send_part_quiet w v node said (Refused NotKnown) h = unchanged w v h.2
send_part_quiet w v node said _ h = absurd h

pub deliver_quiet : (w v : WorldValue) (i : ℕ) (node : Node) (r : Answer) → DeliverStep w i node r v → Quiet w v
deliver_quiet w v i node Delivered h = record { held = h.1.2.held; loaded = h.1.2.loaded; chunks = h.1.2.chunks }
deliver_quiet w v i node (Refused NoSuch) h = unchanged w v h.1
deliver_quiet w v i node _ h = absurd h

pub route_quiet : (w v : WorldValue) (x k : ℕ) (r : Answer) → RouteStep w x k r v → Quiet w v
route_quiet w v x k (Routed p) h = unchanged w v h.2
route_quiet w v x k (Refused NoSuch) h = unchanged w v h.1
route_quiet w v x k _ h = absurd h

pub serve_quiet : (w v : WorldValue) (p k after : ℕ) (r : Answer) → ServeStep w p k after r v → Quiet w v
serve_quiet w v p k after (Served reply) h = unchanged w v h.2
serve_quiet w v p k after (Refused NoSuch) h = unchanged w v h.1
serve_quiet w v p k after _ h = absurd h

-- ---- gifts and loads

module _ {Row : Type 0} (w v : RowsValue Row) (m : ℕ → Row) (stored : KeepsStored w v) (carried : KeepsCarried w v) (rows : HasRows w m) where
  give_rows : (p most : ℕ) (r : Answer) → GiveStep w.world p most r v.world → MovesRows w (Give p most) r v → HasRows v m
  give_rows p most (Gave i x) h takes = gave_rows w v m i x h.1 held h.3 stored carried takes rows
    where
      held : (k : ℕ) → span_has x.span k ≡ true → w.world.held x.source k ≡ true
      held k inside =
          let within = and_parts (nat_le x.span.lo k) (nat_lt k x.span.hi) inside in
          subst (λ q. w.world.held q k ≡ true) (sym h.2.4.source)
          (and_parts (goes_out (part_in w.world p) h.2.0 h.2.1 k) (w.world.held p k) (h.2.3.keys k (leb-true x.span.lo k within.0) (ltb-true k x.span.hi within.1))).1
  give_rows p most (Refused NoSuch) h takes = quiet_rows w v m (unchanged w.world v.world h.1) stored carried rows
  give_rows p most (Refused NotOpen) h takes = quiet_rows w v m (unchanged w.world v.world h.2) stored carried rows
  give_rows p most (Refused Ended) h takes = quiet_rows w v m (unchanged w.world v.world h.2) stored carried rows
  give_rows p most (Refused NothingLeft) h takes = quiet_rows w v m (unchanged w.world v.world h.2) stored carried rows
  give_rows p most (Refused ZeroMax) h takes = quiet_rows w v m (unchanged w.world v.world h.3) stored carried rows
  give_rows p most _ h takes = absurd h

  give_at_rows : (p j : ℕ) (r : Answer) → GiveAtStep w.world p j r v.world → MovesRows w (GiveAt p j) r v → HasRows v m
  give_at_rows p j (Gave i x) h takes = gave_rows w v m i x h.1 held h.3 stored carried takes rows
    where
      held : (k : ℕ) → span_has x.span k ≡ true → w.world.held x.source k ≡ true
      held k inside =
          let one : span_has (interval j (j + 1)) k ≡ true = subst (λ s. span_has s k ≡ true) h.2.6 inside in
          let within = and_parts (nat_le j k) (nat_lt k (j + 1)) one in
          let low = leb-true j k within.0 in
          let high = ltb-true k (j + 1) within.1 in
          let same : j ≡ k = omega arith in
          subst (λ q. w.world.held q k ≡ true) (sym h.2.7.source) (subst (λ l. w.world.held p l ≡ true) same h.2.5)
  give_at_rows p j (Refused NoSuch) h takes = quiet_rows w v m (unchanged w.world v.world h.1) stored carried rows
  give_at_rows p j (Refused NotOpen) h takes = quiet_rows w v m (unchanged w.world v.world h.2) stored carried rows
  give_at_rows p j (Refused Ended) h takes = quiet_rows w v m (unchanged w.world v.world h.2) stored carried rows
  give_at_rows p j (Refused NotOutgoing) h takes = quiet_rows w v m (unchanged w.world v.world h.2) stored carried rows
  give_at_rows p j (Refused Given) h takes = quiet_rows w v m (unchanged w.world v.world h.2) stored carried rows
  give_at_rows p j (Refused NotHeld) h takes = quiet_rows w v m (unchanged w.world v.world h.2) stored carried rows
  give_at_rows p j _ h takes = absurd h

  load_rows : (i : ℕ) (r : Answer) → LoadStep w.world i r v.world → MovesRows w (Load i) r v → HasRows v m
  load_rows i (Loaded report) h installs = loaded_rows w v m i h.0 h.1.chunk h.5 stored carried (installs h.0 h.1.chunk) rows
  load_rows i Again h installs = quiet_rows w v m (unchanged w.world v.world h.1) stored carried rows
  load_rows i (Refused NoSuch) h installs = quiet_rows w v m (unchanged w.world v.world h.1) stored carried rows
  load_rows i (Refused NotOpen) h installs = quiet_rows w v m (unchanged w.world v.world h.1) stored carried rows
  load_rows i (Refused Stranger) h installs = quiet_rows w v m (unchanged w.world v.world h.1) stored carried rows
  load_rows i _ h installs = absurd h

pub plain_rows : {Row : Type 0} (w v : RowsValue Row) (m : ℕ → Row) (e : Event) (r : Answer) → PlainStep w e r v → HasRows w m → HasRows v m
plain_rows w v m OpenNext r h rows = quiet_rows w v m (open_quiet w.world v.world r h.0) h.1 h.2 rows
plain_rows w v m (Begin plan) r h rows = quiet_rows w v m (begin_quiet w.world v.world plan r h.0) h.1 h.2 rows
plain_rows w v m (BeginFrom old new) r h rows = quiet_rows w v m (begin_from_quiet w.world v.world old new r h.0) h.1 h.2 rows
plain_rows w v m (Close p) r h rows = quiet_rows w v m (close_quiet w.world v.world p r h.0) h.1 h.2 rows
plain_rows w v m (Give p most) r h rows = give_rows w v m h.1 h.2 rows p most r h.0 h.3
plain_rows w v m (GiveAt p k) r h rows = give_at_rows w v m h.1 h.2 rows p k r h.0 h.3
plain_rows w v m (Load i) r h rows = load_rows w v m h.1 h.2 rows i r h.0 h.3
plain_rows w v m (Finish p s) r h rows = quiet_rows w v m (finish_quiet w.world v.world p s r h.0) h.1 h.2 rows
plain_rows w v m (Send node) r h rows = quiet_rows w v m (send_quiet w.world v.world node r h.0) h.1 h.2 rows
plain_rows w v m (SendPart node said) r h rows = quiet_rows w v m (send_part_quiet w.world v.world node said r h.0) h.1 h.2 rows
plain_rows w v m (Deliver i node) r h rows = quiet_rows w v m (deliver_quiet w.world v.world i node r h.0) h.1 h.2 rows
plain_rows w v m (Route x k) r h rows = quiet_rows w v m (route_quiet w.world v.world x k r h.0) h.1 h.2 rows
plain_rows w v m (Serve p k after) r h rows = quiet_rows w v m (serve_quiet w.world v.world p k after r h.0) h.1 h.2 rows
