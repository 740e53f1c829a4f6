-- What holds over each step holds in each run.
use Rattle.std.proofs.Common.{◌≡◌, ◌⊎◌, ℕ, List, [], ◌∷◌, refl, sym, subst, arith, le_refl, lt_of_lt_of_le, inl, ⊎_elim}
use Rattle.squall_join.specs.declared.flat.Flat.TheVariants.{Unknown, One}
use Rattle.squall_board.specs.Boards.{BoardValue}
use Rattle.squall_board.specs.BoardQueries.{queries_of}
use Rattle.squall_plan.specs.declared.range.PlanRange.{PlanRange}
use Rattle.squall_report.specs.Cells.{place_at}
use Rattle.squall_report.specs.Queries.{Queries, done_queries}
use Rattle.squall_protocol.specs.declared.event.Node.{Node}
use Rattle.squall_protocol.specs.declared.event.Node.TheVariants.{Part}
use Rattle.squall_protocol.specs.declared.event.Event.{Event}
use Rattle.squall_protocol.specs.declared.event.Event.TheVariants.{OpenNext, Begin, BeginFrom, Close, Give, GiveAt, Load, Finish, Send, SendPart, Deliver, Route, Serve}
use Rattle.squall_protocol.specs.declared.answer.Answer.{Answer}
use Rattle.squall_protocol.specs.declared.answer.Answer.TheVariants.{Opened, Begun, Closed, Gave, Loaded, Again, Finished, Sent, Delivered, Routed, Served, Refused}
use Rattle.squall_protocol.specs.declared.answer.Refusal.TheVariants.{NoSuch, NotDone, NoMore, Running, NoNumber, NotOpen, Ended, NothingLeft, ZeroMax, NotOutgoing, Given, NotHeld, Stranger, NotAll, NothingDue, NotKnown}
use Rattle.squall_protocol.specs.Worlds.{WorldValue, SameWorld, WasBegun, pair_at}
use Rattle.squall_protocol.specs.Steps.{after_open, after_begin, after_close, after_give, after_load, after_told, OpenStep, BeginStep, BeginFromStep, CloseStep, GiveStep, GiveAtStep, LoadStep, FinishStep, SendStep, SendPartStep, IsPartOf, DeliverStep, RouteStep, ServeStep, Step, Run}
use Rattle.squall_protocol.specs.WorldLaws.{same_world}
use Rattle.squall_protocol.proofs.Kept.{TrueFacts, Kept}
use Rattle.squall_protocol.proofs.Courses.{count_of}
use Rattle.squall_protocol.proofs.Open.{all_done}
use Rattle.squall_protocol.proofs.Begin.{over_left}
use Rattle.squall_protocol.proofs.Later.{Later, later_trans, later_by}
use Rattle.squall_protocol.proofs.Changes.{WorldChange, stays, opens, begins, closes, sends, tells, after_send, first_change, one_change, load_change, finish_change, later_change, keeps_change}

-- ---- each step is a change

-- a world that agrees with the one after a change
pub record Became (w v : WorldValue) : Type 0 where
  pub next : WorldValue
  pub change : WorldChange w next
  pub same : SameWorld v next

still : (w v : WorldValue) → SameWorld v w → Became w v
still w v h = record { next = w; change = stays; same = h }

open_became : (w v : WorldValue) (r : Answer) → Kept w → OpenStep w r v → Became w v
open_became w v (Opened s) kept h = record { next = after_open w; change = opens h.1 h.2; same = h.3 }
open_became w v (Refused (NotDone s q)) kept h = still w v h.2
open_became w v (Refused NoMore) kept h = still w v h.1
open_became w v _ kept h = absurd h

begin_became : (w v : WorldValue) (plan : List PlanRange) (r : Answer) → Kept w → BeginStep w plan r v → Became w v
begin_became w v plan (Begun n parts) kept h =
    let over : w.opened w.last ≡ count_of w w.last = h.0.0 in
    record { next = after_begin w (w.new w.last) plan; change = begins (w.new w.last) plan h.1 (kept.news w.last (le_refl w.last)) h.2 (over_left w kept (all_done w h.0.1) (omega (arith, over))); same = h.5 }
begin_became w v plan (Refused Running) kept h = still w v h.1
begin_became w v plan (Refused NoNumber) kept h = still w v h.2
begin_became w v plan _ kept h = absurd h

begin_from_became : (w v : WorldValue) (old new : List PlanRange) (r : Answer) → Kept w → BeginFromStep w old new r v → Became w v
begin_from_became w v old new (Begun n parts) kept h = record { next = after_begin w old new; change = begins old new h.1 h.2 h.3 h.0; same = h.6 }
begin_from_became w v old new (Refused Running) kept h = still w v h.1
begin_from_became w v old new (Refused NoNumber) kept h = still w v h.2
begin_from_became w v old new _ kept h = absurd h

close_became : (w v : WorldValue) (p : ℕ) (r : Answer) → Kept w → CloseStep w p r v → Became w v
close_became w v p (Closed n) kept h = record { next = after_close w h.1.0.number p; change = closes h.1.0.number p; same = h.1.3 }
close_became w v p (Refused NoSuch) kept h = still w v h.1
close_became w v p _ kept h = absurd h

give_became : (w v : WorldValue) (p most : ℕ) (r : Answer) → Kept w → GiveStep w p most r v → Became w v
give_became w v p most (Gave index x) kept h = record { next = after_give w x; change = first_change w p most x h.2.0 h.2.1 kept h.2.2 h.2.3 h.2.4; same = h.3 }
give_became w v p most (Refused NoSuch) kept h = still w v h.1
give_became w v p most (Refused NotOpen) kept h = still w v h.2
give_became w v p most (Refused Ended) kept h = still w v h.2
give_became w v p most (Refused NothingLeft) kept h = still w v h.2
give_became w v p most (Refused ZeroMax) kept h = still w v h.3
give_became w v p most _ kept h = absurd h

give_at_became : (w v : WorldValue) (p k : ℕ) (r : Answer) → Kept w → GiveAtStep w p k r v → Became w v
give_at_became w v p k (Gave index x) kept h = record { next = after_give w x; change = one_change w p k x h.2.0 h.2.1 kept h.2.2 h.2.5 h.2.6 h.2.7; same = h.3 }
give_at_became w v p k (Refused NoSuch) kept h = still w v h.1
give_at_became w v p k (Refused NotOpen) kept h = still w v h.2
give_at_became w v p k (Refused Ended) kept h = still w v h.2
give_at_became w v p k (Refused NotOutgoing) kept h = still w v h.2
give_at_became w v p k (Refused Given) kept h = still w v h.2
give_at_became w v p k (Refused NotHeld) kept h = still w v h.2
give_at_became w v p k _ kept h = absurd h

load_became : (w v : WorldValue) (i : ℕ) (r : Answer) → Kept w → LoadStep w i r v → Became w v
load_became w v i (Loaded report) kept h = record { next = after_load w h.0; change = load_change w i h.0 kept h.1 h.2; same = h.5 }
load_became w v i Again kept h = still w v h.1
load_became w v i (Refused NoSuch) kept h = still w v h.1
load_became w v i (Refused NotOpen) kept h = still w v h.1
load_became w v i (Refused Stranger) kept h = still w v h.1
load_became w v i _ kept h = absurd h

finish_became : (w v : WorldValue) (p s : ℕ) (r : Answer) → Kept w → FinishStep w p s r v → Became w v
finish_became w v p s (Finished report) kept h = record { next = after_told w (Part p) (done_queries (place_at h.1.0.number s p)); change = finish_change w p s h.1.0 kept h.1.1 h.1.2; same = h.1.5 }
finish_became w v p s (Refused NoSuch) kept h = still w v h.1
finish_became w v p s (Refused NotOpen) kept h = still w v h.2
finish_became w v p s (Refused (NotAll span)) kept h = still w v h.2
finish_became w v p s (Refused NothingDue) kept h = still w v h.2
finish_became w v p s _ kept h = absurd h

send_became : (w v : WorldValue) (node : Node) (r : Answer) → Kept w → SendStep w node r v → Became w v
send_became w v node (Sent index) kept h = record { next = after_send w (w.facts node); change = sends (w.facts node) (kept.facts node); same = h.2 }
send_became w v node (Refused NoSuch) kept h = still w v h.1
send_became w v node _ kept h = absurd h

-- a part of what is true is true
part_true : (w : WorldValue) (q f : Queries) → IsPartOf q f → TrueFacts w f → TrueFacts w q
part_true w q f part t =
    record {
      loaded = λ c k h. t.loaded c k (part.loaded c k h);
      done_begun = λ c h. t.done_begun c (part.done c h);
      done = λ c h. t.done c (part.done c h);
      opened_begun = λ n s h. t.opened_begun n s (lt_of_lt_of_le h (part.opened n));
      opened = λ n s h. t.opened n s (lt_of_lt_of_le h (part.opened n));
      issued = λ n. ⊎_elim (λ (none : q.issued n ≡ Unknown). inl none) (λ (same : q.issued n ≡ f.issued n). subst (λ i. (i ≡ Unknown) ⊎ (WasBegun w n × (i ≡ One (pair_at w n)))) (sym same) (t.issued n)) (part.issued n);
    }

send_part_became : (w v : WorldValue) (node : Node) (said : BoardValue) (r : Answer) → Kept w → SendPartStep w node said r v → Became w v
send_part_became w v node said (Sent index) kept h = record { next = after_send w (queries_of said); change = sends (queries_of said) (part_true w (queries_of said) (w.facts node) h.1 (kept.facts node)); same = h.3 }
send_part_became w v node said (Refused NoSuch) kept h = still w v h.1
send_part_became w v node said (Refused NotKnown) kept h = still w v h.2
send_part_became w v node said _ kept h = absurd h

deliver_became : (w v : WorldValue) (i : ℕ) (node : Node) (r : Answer) → Kept w → DeliverStep w i node r v → Became w v
deliver_became w v i node Delivered kept h = record { next = after_told w node h.1.0; change = tells node h.1.0 (kept.messages i h.1.0 h.1.1); same = h.1.2 }
deliver_became w v i node (Refused NoSuch) kept h = still w v h.1
deliver_became w v i node _ kept h = absurd h

route_became : (w v : WorldValue) (x k : ℕ) (r : Answer) → Kept w → RouteStep w x k r v → Became w v
route_became w v x k (Routed p) kept h = still w v h.2
route_became w v x k (Refused NoSuch) kept h = still w v h.1
route_became w v x k _ kept h = absurd h

serve_became : (w v : WorldValue) (p k after : ℕ) (r : Answer) → Kept w → ServeStep w p k after r v → Became w v
serve_became w v p k after (Served reply) kept h = still w v h.2
serve_became w v p k after (Refused NoSuch) kept h = still w v h.1
serve_became w v p k after _ kept h = absurd h

pub became : (w v : WorldValue) (e : Event) (r : Answer) → Kept w → Step w e r v → Became w v
became w v OpenNext r kept h = open_became w v r kept h
became w v (Begin plan) r kept h = begin_became w v plan r kept h
became w v (BeginFrom old new) r kept h = begin_from_became w v old new r kept h
became w v (Close p) r kept h = close_became w v p r kept h
became w v (Give p most) r kept h = give_became w v p most r kept h
became w v (GiveAt p k) r kept h = give_at_became w v p k r kept h
became w v (Load i) r kept h = load_became w v i r kept h
became w v (Finish p s) r kept h = finish_became w v p s r kept h
became w v (Send node) r kept h = send_became w v node r kept h
became w v (SendPart node said) r kept h = send_part_became w v node said r kept h
became w v (Deliver i node) r kept h = deliver_became w v i node r kept h
became w v (Route x k) r kept h = route_became w v x k r kept h
became w v (Serve p k after) r kept h = serve_became w v p k after r kept h

-- ---- a step, and a run

pub later_step : (w v : WorldValue) (e : Event) (r : Answer) → Kept w → Step w e r v → Later w v
later_step w v e r kept h = let b : Became w v = became w v e r kept h in subst (λ u. Later w u) (sym (same_world v b.next b.same)) (later_change w b.next b.change)

pub keeps_step : (w v : WorldValue) (e : Event) (r : Answer) → Kept w → Step w e r v → Kept v
keeps_step w v e r kept h = let b : Became w v = became w v e r kept h in subst (λ u. Kept u) (sym (same_world v b.next b.same)) (keeps_change w b.next kept b.change)

pub keeps_run : (w : WorldValue) (es : List Event) (rs : List Answer) (v : WorldValue) → Kept w → Run w es rs v → Kept v
keeps_run w [] [] u kept h = subst (λ x. Kept x) (sym (same_world u w h)) kept
keeps_run w (e ∷ es) (r ∷ rs) u kept h = keeps_run h.0 es rs u (keeps_step w h.0 e r kept h.1) h.2
keeps_run w [] (r ∷ rs) u kept h = absurd h
keeps_run w (e ∷ es) [] u kept h = absurd h

pub later_run : (w : WorldValue) (es : List Event) (rs : List Answer) (v : WorldValue) → Kept w → Run w es rs v → Later w v
later_run w [] [] u kept h = subst (λ x. Later w x) (sym (same_world u w h)) (later_by w w refl refl refl (λ n. le_refl (w.opened n)) refl refl)
later_run w (e ∷ es) (r ∷ rs) u kept h = later_trans w h.0 u (later_step w h.0 e r kept h.1) (later_run h.0 es rs u (keeps_step w h.0 e r kept h.1) h.2)
later_run w [] (r ∷ rs) u kept h = absurd h
later_run w (e ∷ es) [] u kept h = absurd h
