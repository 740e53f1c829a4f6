-- What calls of a world with rows leave.
use Rattle.std.proofs.Common.{◌≡◌, ◌≢◌, ℕ, ◌+◌, ◌<◌, ◌==◌, ◌&&◌, not, true, false, List, [], ◌∷◌, ◌++◌, length, Result, Ok, Err, OnOk, inl, inr, refl, sym, ap, subst, ◌∙◌, ⊎_elim}
use Rattle.std.specs.Prelude.{Option, None, Some, IfOk, OnErr}
use Rattle.std.specs.declared.alloc.AllocError.{AllocError}
use Rattle.std.specs.List.{slice_get}
use Rattle.std.proofs.lemmas.Bool.{and_parts, and_from, cases_Bool, cases_eq, both_ways, eqb-true, eq-eqb, not-true, not_from_false}
use Rattle.std.proofs.lemmas.List.{length-map, map-append}
use Rattle.std.proofs.lemmas.Option.{slice_get_within}
use Rattle.squall_key.specs.Keys.{top}
use Rattle.squall_span.specs.Spans.{span_has, interval}
use Rattle.squall_errand.specs.declared.errand.Reply.TheVariants.{Held}
use Rattle.squall_report.specs.declared.report.ReportKind.{ReportKind}
use Rattle.squall_report.specs.Issues.{PlanPair}
use Rattle.squall_plan.specs.declared.range.PlanRange.{PlanRange}
use Rattle.squall_course.specs.Change.{ArePlans}
use Rattle.squall_store.specs.declared.command.Command.{Command}
use Rattle.squall_store.specs.Memory.{Values, value_at, run_on}
use Rattle.squall_protocol.specs.Chunks.{ChunkValue}
use Rattle.squall_protocol.specs.declared.event.Event.{Event}
use Rattle.squall_protocol.specs.declared.event.Event.TheVariants.{OpenNext, Begin, BeginFrom, Close, Give, GiveAt, Load, Finish, Send, SendPart, Deliver, Route, Serve}
use Rattle.squall_protocol.specs.declared.answer.Answer.{Answer}
use Rattle.squall_protocol.specs.declared.answer.Answer.TheVariants.{Opened, Begun, Closed, Gave, Loaded, Again, Finished, Sent as SentAnswer, Delivered, Routed, Served, Refused}
use Rattle.squall_protocol.specs.declared.answer.Refusal.TheVariants.{NoSuch, NotOpen, Ended, NothingLeft, ZeroMax, NotOutgoing, Given, NotHeld, Stranger}
use Rattle.squall_protocol.specs.Worlds.{WorldValue, SameWorld, start}
use Rattle.squall_protocol.specs.Steps.{after_give, after_load, GiveStep, GiveAtStep, LoadStep, Step}
use Rattle.squall_protocol.specs.Promises.{IsReached, Holder, Flight}
use Rattle.squall_protocol.specs.WorldLaws.{same_as_itself, reached_step}
use Rattle.squall_protocol.proofs.ProtocolLaws.{one_carrier}
use Rattle.squall_protocol.specs.ListLaws.{at_front, at_end}
use Rattle.squall_rows.specs.Rows.{RowsValue, KeepsStored, KeepsCarried, AreOneMap}
use Rattle.squall_rows.specs.RowSteps.{Plain, Ask, Answered, Ran, MovesRows, TakesRows, InstallsRows, PlainStep, RestartStep, RowStep}
use Rattle.squall_rows.proofs.Quiet.{HasRows, Quiet, unchanged}
use Rattle.squall_rows.proofs.Plain.{open_quiet, begin_quiet, begin_from_quiet, close_quiet, finish_quiet, send_quiet, send_part_quiet, deliver_quiet, route_quiet, serve_quiet}
use Rattle.squall_rows.proofs.Follow.{new_is_held_nowhere}
use Rattle.squall_world.specs.Nets.{NetValue}
use Rattle.squall_world.specs.Views.{view}
use Rattle.squall_world_rows.specs.declared.sent.Sent.{Sent}
use Rattle.squall_world_rows.specs.Seen.{BytesRow, RowNetValue, stored_in, carried_by, seen, brings, with_loaded, sent_after, IsLoad, IsKept, MovesNone}
use Rattle.squall_world_rows.specs.Maps.{map_of, no_rows}
use Rattle.squall_world_rows.specs.Runs.{IsRowWorld}
use Rattle.squall_world_rows.proofs.Carried.{map_is, has_map}
use Rattle.squall_world_rows.proofs.Slots.{chunks_of, chunk_at, slot_at, loaded_chunks, loaded_rows}
use Rattle.squall_world_rows.proofs.Kept.{new_slot, quiet_noted, gift_noted, load_noted}
use Rattle.squall_world_rows.proofs.Come.{come_on, come_back, comes_first}

abbrev pub net_with : NetValue → List Values → List Sent → RowNetValue
net_with net rows sent = record { net = net; rows = rows; sent = sent }

-- the step is one with rows, and what always holds does
pub record Goes (n : RowNetValue) (e : Event) (a : Answer) (m : RowNetValue) : Type 0 where
  pub step : PlainStep (seen n) e a (seen m)
  pub kept : IsRowWorld m

module _ (n : RowNetValue) (is : IsRowWorld n) (reached : IsReached (view n.net)) where
  -- ---- events that move no rows

  -- no chunk comes or goes, and rows of held keys stay
  pub quiet_goes : (e : Event) (a : Answer) (net : NetValue) (rows : List Values) → Step (view n.net) e a (view net) → Quiet (view n.net) (view net)
      → KeepsStored (seen n) (seen (net_with net rows n.sent)) → MovesRows (seen n) e a (seen (net_with net rows n.sent)) → Goes n e a (net_with net rows n.sent)
  quiet_goes e a net rows step quiet stored moves =
      let plain : PlainStep (seen n) e a (seen (net_with net rows n.sent)) = (step, stored, (λ i k x key there flight. refl), moves) in
      record {
        step = plain;
        kept = record {
          chunks = is.chunks ∙ sym quiet.chunks;
          loaded = quiet_noted (view n.net) (view net) n.sent quiet is.loaded;
          come = come_on (seen n) (seen (net_with net rows n.sent)) (Plain e) (Answered a) is.come plain;
        };
      }

  abbrev Passes : Event → Answer → NetValue → Type 0
  Passes e a net = Goes n e a (net_with net n.rows n.sent)

  passes : (e : Event) (a : Answer) (net : NetValue) → Step (view n.net) e a (view net) → Quiet (view n.net) (view net) → MovesRows (seen n) e a (seen (net_with net n.rows n.sent)) → Passes e a net
  passes e a net step quiet moves = quiet_goes e a net n.rows step quiet (λ p k key before after. refl) moves

  pub event_passes : (e : Event) (a : Answer) (net : NetValue) → MovesNone e → Step (view n.net) e a (view net) → Passes e a net
  event_passes OpenNext a net none h = passes OpenNext a net h (open_quiet (view n.net) (view net) a h) tt
  event_passes (Begin plan) a net none h = passes (Begin plan) a net h (begin_quiet (view n.net) (view net) plan a h) tt
  event_passes (BeginFrom old new) a net none h = passes (BeginFrom old new) a net h (begin_from_quiet (view n.net) (view net) old new a h) tt
  event_passes (Close p) a net none h = passes (Close p) a net h (close_quiet (view n.net) (view net) p a h) tt
  event_passes (Give p most) a net none h = absurd none
  event_passes (GiveAt p k) a net none h = absurd none
  event_passes (Load i) a net none h = absurd none
  event_passes (Finish p s) a net none h = passes (Finish p s) a net h (finish_quiet (view n.net) (view net) p s a h) tt
  event_passes (Send node) a net none h = passes (Send node) a net h (send_quiet (view n.net) (view net) node a h) tt
  event_passes (SendPart node said) a net none h = passes (SendPart node said) a net h (send_part_quiet (view n.net) (view net) node said a h) tt
  event_passes (Deliver i node) a net none h = passes (Deliver i node) a net h (deliver_quiet (view n.net) (view net) i node a h) tt
  event_passes (Route x k) a net none h = passes (Route x k) a net h (route_quiet (view n.net) (view net) x k a h) tt
  event_passes (Serve p k after) a net none h = passes (Serve p k after) a net h (serve_quiet (view n.net) (view net) p k after a h) tt

  -- ---- gifts

  -- the chunk is kept with the rows of its source
  gift_goes : (e : Event) (i : ℕ) (x : ChunkValue) (net : NetValue) (batch : Values) → Step (view n.net) e (Gave i x) (view net) → i ≡ length (view n.net).chunks → SameWorld (view net) (after_give (view n.net) x)
      → ((k : ℕ) → k < top → span_has x.span k ≡ true → value_at batch k ≡ stored_in n.rows x.source k)
      → (TakesRows (seen n) i x (seen (net_with net n.rows (n.sent ++ new_slot x batch ∷ []))) → MovesRows (seen n) e (Gave i x) (seen (net_with net n.rows (n.sent ++ new_slot x batch ∷ []))))
      → Goes n e (Gave i x) (net_with net n.rows (n.sent ++ new_slot x batch ∷ []))
  gift_goes e i x net batch step index same copy moves = record {
    step = plain;
    kept = record {
      chunks = map-append (λ (s : Sent). s.chunk) n.sent (new_slot x batch ∷ []) ∙ ap (λ xs. xs ++ x ∷ []) is.chunks ∙ sym same.chunks;
      loaded = gift_noted (view n.net) (view net) x batch n.sent reached (reached_step (view n.net) (view net) e (Gave i x) reached step) same is.loaded;
      come = come_on (seen n) (seen m) (Plain e) (Answered (Gave i x)) is.come plain;
    };
  }
    where
      m : RowNetValue
      m = net_with net n.rows (n.sent ++ new_slot x batch ∷ [])

      place : i ≡ length n.sent
      place = index ∙ ap length (sym is.chunks) ∙ length-map n.sent (λ (s : Sent). s.chunk)

      carried : KeepsCarried (seen n) (seen m)
      carried j k y key there flight =
          let slot = slot_at n.sent n.net.chunks is.chunks j y there in
          ap (λ o. carried_by o k) (at_front n.sent (new_slot x batch ∷ []) j slot.slot slot.there ∙ sym slot.there)

      takes : TakesRows (seen n) i x (seen m)
      takes k key inside = ap (λ o. carried_by o k) (ap (slice_get (n.sent ++ new_slot x batch ∷ [])) place ∙ at_end n.sent (new_slot x batch)) ∙ copy k key inside

      plain : PlainStep (seen n) e (Gave i x) (seen m)
      plain = (step, (λ p k key before after. refl), carried, moves takes)

  -- nothing was given
  none_given : (e : Event) (a : Answer) (net : NetValue) (sent : List Sent) → sent ≡ n.sent → Passes e a net → Goes n e a (net_with net n.rows sent)
  none_given e a net sent same goes = subst (λ l. Goes n e a (net_with net n.rows l)) (sym same) goes

  pub give_goes : (p most : ℕ) (a : Answer) (net : NetValue) (copy : Values) (sent : List Sent) → GiveStep (view n.net) p most a (view net) → IsKept a copy n.sent sent
      → ((k : ℕ) → k < top → value_at copy k ≡ stored_in n.rows p k) → Goes n (Give p most) a (net_with net n.rows sent)
  give_goes p most (Gave i x) net copy sent h kept same =
      subst (λ l. Goes n (Give p most) (Gave i x) (net_with net n.rows l)) (sym kept.1)
      (gift_goes (Give p most) i x net kept.0 h h.1 h.3 (λ k key inside. kept.2 k inside ∙ same k key ∙ ap (λ q. stored_in n.rows q k) (sym h.2.4.source)) (λ takes. takes))
  give_goes p most (Refused NoSuch) net copy sent h kept same = none_given (Give p most) (Refused NoSuch) net sent kept (passes (Give p most) (Refused NoSuch) net h (unchanged (view n.net) (view net) h.1) tt)
  give_goes p most (Refused NotOpen) net copy sent h kept same = none_given (Give p most) (Refused NotOpen) net sent kept (passes (Give p most) (Refused NotOpen) net h (unchanged (view n.net) (view net) h.2) tt)
  give_goes p most (Refused Ended) net copy sent h kept same = none_given (Give p most) (Refused Ended) net sent kept (passes (Give p most) (Refused Ended) net h (unchanged (view n.net) (view net) h.2) tt)
  give_goes p most (Refused NothingLeft) net copy sent h kept same = none_given (Give p most) (Refused NothingLeft) net sent kept (passes (Give p most) (Refused NothingLeft) net h (unchanged (view n.net) (view net) h.2) tt)
  give_goes p most (Refused ZeroMax) net copy sent h kept same = none_given (Give p most) (Refused ZeroMax) net sent kept (passes (Give p most) (Refused ZeroMax) net h (unchanged (view n.net) (view net) h.3) tt)
  give_goes p most _ net copy sent h kept same = absurd h

  pub give_at_goes : (p j : ℕ) (a : Answer) (net : NetValue) (copy : Values) (sent : List Sent) → GiveAtStep (view n.net) p j a (view net) → IsKept a copy n.sent sent
      → ((k : ℕ) → span_has (interval j (j + 1)) k ≡ true → value_at copy k ≡ stored_in n.rows p k) → Goes n (GiveAt p j) a (net_with net n.rows sent)
  give_at_goes p j (Gave i x) net copy sent h kept same =
      subst (λ l. Goes n (GiveAt p j) (Gave i x) (net_with net n.rows l)) (sym kept.1)
      (gift_goes (GiveAt p j) i x net kept.0 h h.1 h.3
      (λ k key inside. kept.2 k inside ∙ same k (subst (λ s. span_has s k ≡ true) h.2.6 inside) ∙ ap (λ q. stored_in n.rows q k) (sym h.2.7.source)) (λ takes. takes))
  give_at_goes p j (Refused NoSuch) net copy sent h kept same = none_given (GiveAt p j) (Refused NoSuch) net sent kept (passes (GiveAt p j) (Refused NoSuch) net h (unchanged (view n.net) (view net) h.1) tt)
  give_at_goes p j (Refused NotOpen) net copy sent h kept same = none_given (GiveAt p j) (Refused NotOpen) net sent kept (passes (GiveAt p j) (Refused NotOpen) net h (unchanged (view n.net) (view net) h.2) tt)
  give_at_goes p j (Refused Ended) net copy sent h kept same = none_given (GiveAt p j) (Refused Ended) net sent kept (passes (GiveAt p j) (Refused Ended) net h (unchanged (view n.net) (view net) h.2) tt)
  give_at_goes p j (Refused NotOutgoing) net copy sent h kept same = none_given (GiveAt p j) (Refused NotOutgoing) net sent kept (passes (GiveAt p j) (Refused NotOutgoing) net h (unchanged (view n.net) (view net) h.2) tt)
  give_at_goes p j (Refused Given) net copy sent h kept same = none_given (GiveAt p j) (Refused Given) net sent kept (passes (GiveAt p j) (Refused Given) net h (unchanged (view n.net) (view net) h.2) tt)
  give_at_goes p j (Refused NotHeld) net copy sent h kept same = none_given (GiveAt p j) (Refused NotHeld) net sent kept (passes (GiveAt p j) (Refused NotHeld) net h (unchanged (view n.net) (view net) h.2) tt)
  give_at_goes p j _ net copy sent h kept same = absurd h

  -- ---- loads

  -- a chunk brings no row of a key that is held
  brings_no_held : (o : Option Sent) (i p k : ℕ) → slice_get n.sent i ≡ o → k < top → (view n.net).held p k ≡ true → brings o p k ≡ true → ⊥
  brings_no_held None i p k there key held b = both_ways false refl b
  brings_no_held (Some s) i p k there key held b =
      let new = and_parts (not s.loaded) ((p == s.chunk.dest) && span_has s.chunk.span k) b in
      let here = and_parts (p == s.chunk.dest) (span_has s.chunk.span k) new.1 in
      let missing : (view n.net).loaded s.chunk.number s.chunk.dest k ≡ false = is.loaded i k s there here.1 ∙ not-true s.loaded new.0 in
      both_ways ((view n.net).held p k)
      (new_is_held_nowhere one_carrier (view n.net) i p k s.chunk reached key (chunk_at n.sent n.net.chunks is.chunks i s there) here.1 missing) held

  module _ (i : ℕ) (rows : List Values) (outside : (p k : ℕ) → brings (slice_get n.sent i) p k ≡ false → stored_in rows p k ≡ stored_in n.rows p k) where
    -- a key that is held keeps its row
    pub held_stay : (p k : ℕ) → k < top → (view n.net).held p k ≡ true → stored_in rows p k ≡ stored_in n.rows p k
    held_stay p k key held = ⊎_elim
        (λ (yes : brings (slice_get n.sent i) p k ≡ true). absurd (brings_no_held (slice_get n.sent i) i p k refl key held yes))
        (λ (no : brings (slice_get n.sent i) p k ≡ false). outside p k no)
        (cases_Bool (brings (slice_get n.sent i) p k))

    -- the load had no effect
    pub not_loaded : (net : NetValue) (sent : List Sent) → net ≡ n.net → sent ≡ n.sent → RestartStep (seen n) (seen (net_with net rows sent)) × IsRowWorld (net_with net rows sent)
    not_loaded net sent same_net same_sent =
        subst (λ m. RestartStep (seen n) (seen (net_with m rows sent)) × IsRowWorld (net_with m rows sent)) (sym same_net)
        (subst (λ l. RestartStep (seen n) (seen (net_with n.net rows l)) × IsRowWorld (net_with n.net rows l)) (sym same_sent)
        (back, record { chunks = is.chunks; loaded = is.loaded; come = come_back (seen n) (seen (net_with n.net rows n.sent)) is.come back }))
      where
        back : RestartStep (seen n) (seen (net_with n.net rows n.sent))
        back = (same_as_itself (view n.net), (λ p k key before after. held_stay p k key before), (λ j k x key there flight. refl))

    module _ (inside : (p k : ℕ) → brings (slice_get n.sent i) p k ≡ true → stored_in rows p k ≡ carried_by (slice_get n.sent i) k) where
      -- the new keys have the chunk's rows
      installs : (sent : List Sent) (net : NetValue) (x : ChunkValue) → slice_get n.net.chunks i ≡ Some x → InstallsRows (seen n) i x (seen (net_with net rows sent))
      installs sent net x there k key has missing =
          let slot = slot_at n.sent n.net.chunks is.chunks i x there in
          let s = slot.slot in
          let chunk : s.chunk ≡ x = slot.chunk in
          let within : span_has s.chunk.span k ≡ true = subst (λ (y : ChunkValue). span_has y.span k ≡ true) (sym chunk) has in
          let new : s.loaded ≡ false = sym (is.loaded i k s slot.there within) ∙ subst (λ (y : ChunkValue). (view n.net).loaded y.number y.dest k ≡ false) (sym chunk) missing in
          let here : (x.dest == s.chunk.dest) ≡ true = eq-eqb x.dest s.chunk.dest (ap (λ (y : ChunkValue). y.dest) (sym chunk)) in
          let does : brings (Some s) x.dest k ≡ true = and_from (not s.loaded) ((x.dest == s.chunk.dest) && span_has s.chunk.span k) (not_from_false s.loaded new) (and_from (x.dest == s.chunk.dest) (span_has s.chunk.span k) here within) in
          inside x.dest k (subst (λ o. brings o x.dest k ≡ true) (sym slot.there) does)

      -- the chunk came again, or was refused
      stays_out : (a : Answer) (net : NetValue) → Step (view n.net) (Load i) a (view net) → SameWorld (view net) (view n.net) → MovesRows (seen n) (Load i) a (seen (net_with net rows n.sent)) → Goes n (Load i) a (net_with net rows n.sent)
      stays_out a net step same moves = quiet_goes (Load i) a net rows step (unchanged (view n.net) (view net) same) (λ p k key before after. held_stay p k key before) moves

      comes_in : (a : Answer) (net : NetValue) (x : ChunkValue) → Step (view n.net) (Load i) a (view net) → slice_get n.net.chunks i ≡ Some x → SameWorld (view net) (after_load (view n.net) x)
          → MovesRows (seen n) (Load i) a (seen (net_with net rows (with_loaded i n.sent))) → Goes n (Load i) a (net_with net rows (with_loaded i n.sent))
      comes_in a net x step there same moves = record {
        step = plain;
        kept = record {
          chunks = loaded_chunks i n.sent ∙ is.chunks ∙ sym same.chunks;
          loaded = load_noted (view n.net) (view net) i x n.sent reached there is.chunks same is.loaded;
          come = come_on (seen n) (seen (net_with net rows (with_loaded i n.sent))) (Plain (Load i)) (Answered a) is.come plain;
        };
      }
        where
          plain : PlainStep (seen n) (Load i) a (seen (net_with net rows (with_loaded i n.sent)))
          plain = (step, (λ p k key before after. held_stay p k key before), (λ j k y key at flight. loaded_rows i n.sent j k), moves)

      pub load_goes : (a : Answer) (net : NetValue) → LoadStep (view n.net) i a (view net) → Goes n (Load i) a (net_with net rows (sent_after a i n.sent))
      load_goes (Loaded report) net h = comes_in (Loaded report) net h.0 h h.1.chunk h.5 (installs (with_loaded i n.sent) net)
      load_goes Again net h = stays_out Again net h h.1 tt
      load_goes (Refused NoSuch) net h = stays_out (Refused NoSuch) net h h.1 tt
      load_goes (Refused NotOpen) net h = stays_out (Refused NotOpen) net h h.1 tt
      load_goes (Refused Stranger) net h = stays_out (Refused Stranger) net h h.1 tt
      load_goes _ net h = absurd h

  -- a chunk that is loaded is kept
  pub load_within : (i : ℕ) (a : Answer) (net : NetValue) → LoadStep (view n.net) i a (view net) → IsLoad a → i < length n.sent
  load_within i (Loaded report) net h is_load = slice_get_within n.sent i _ (slot_at n.sent n.net.chunks is.chunks i h.0 h.1.chunk).there
  load_within i Again net h is_load = absurd is_load
  load_within i (Refused e) net h is_load = absurd is_load
  load_within i _ net h is_load = absurd is_load

-- ---- answers of calls

pub anyhow : {A E : Type 0} (P : Type 0) (r : Result A E) → P → OnErr r P
anyhow P (Ok a) p = tt
anyhow P (Err e) p = p

-- a call that failed changed nothing that counts
pub no_change : (n m : RowNetValue) → m ≡ n → RestartStep (seen n) (seen m)
no_change n m same = subst (λ k. RestartStep (seen n) (seen k)) (sym same) (same_as_itself (view n.net), (λ p k key before after. refl), (λ i k x key there flight. refl))

module _ (net : NetValue) (rows : List Values) (sent : List Sent) (is : IsRowWorld (net_with net rows sent)) (reached : IsReached (view net)) where
  abbrev n : RowNetValue
  n = net_with net rows sent

  pub pass_kept : (m : NetValue) (e : Event) (r : Result Answer AllocError) → MovesNone e → IfOk r (λ a. Step (view net) e a (view m)) → OnErr r (m ≡ net) → IsRowWorld (net_with m rows sent)
  pass_kept m e (Ok a) none h same = (event_passes n is reached e a m none h).kept
  pass_kept m e (Err x) none h same = subst (λ k. IsRowWorld (net_with k rows sent)) (sym same) is

  pub pass_failed : (m : NetValue) (self : RowNetValue) (r : Result Answer AllocError) → n ≡ self → OnErr r (m ≡ net) → OnErr r (net_with m rows sent ≡ self)
  pass_failed m self (Ok a) view_is same = tt
  pass_failed m self (Err x) view_is same = ap (λ k. net_with k rows sent) same ∙ view_is

  pub passed : (m : NetValue) (self : RowNetValue) (e : Event) (r : Result Answer AllocError) → n ≡ self → MovesNone e → IfOk r (λ a. Step (view net) e a (view m))
      → IfOk r (λ a. PlainStep (seen self) e a (seen (net_with m rows sent)))
  passed m self e (Ok a) view_is none h = subst (λ k. PlainStep (seen k) e a (seen (net_with m rows sent))) view_is (event_passes n is reached e a m none h).step
  passed m self e (Err x) view_is none h = tt

  -- commands

  module _ (p k after : ℕ) (command : Command) (next : List Values) where
    -- what a command on rows does
    pub record HasRun (r : Result BytesRow AllocError) : Type 0 where
      pub reply : IfOk r (λ reply. reply ≡ (run_on command (stored_in rows p k)).1)
      pub made : OnOk r (stored_in next p k ≡ (run_on command (stored_in rows p k)).0)
      pub err : OnErr r (stored_in next p k ≡ stored_in rows p k)
      pub others : (q j : ℕ) → ((q ≡ p) × (j ≡ k) → ⊥) → stored_in next q j ≡ stored_in rows q j

    -- the command ran
    pub ran_step : (reply : BytesRow) → HasRun (Ok reply) → k < top → Step (view net) (Serve p k after) (Served Held) (view net) → RowStep run_on (seen n) (Ask p k after command) (Ran reply) (seen (net_with net next sent))
    ran_step reply h key step = (key, step, h.made, h.reply, (λ q j below held other. h.others q j other), (λ i j x below there flight. refl))

    pub ran_kept : (reply : BytesRow) → HasRun (Ok reply) → k < top → Step (view net) (Serve p k after) (Served Held) (view net) → IsRowWorld (net_with net next sent)
    ran_kept reply h key step = record {
      chunks = is.chunks;
      loaded = is.loaded;
      come = come_on (seen n) (seen (net_with net next sent)) (Ask p k after command) (Ran reply) is.come (ran_step reply h key step);
    }

    -- it did not run
    pub not_run : (x : AllocError) → HasRun (Err x) → RestartStep (seen n) (seen (net_with net next sent))
    not_run x h = (same_as_itself (view net), (λ q j below before later. same q j), (λ i j y below there flight. refl))
      where
        same : (q j : ℕ) → stored_in next q j ≡ stored_in rows q j
        same q j = elim (cases_eq q p) [
          | inl one ↦ elim (cases_eq j k) [
            | inl two ↦ subst (λ a. stored_in next a j ≡ stored_in rows a j) (sym one) (subst (λ b. stored_in next p b ≡ stored_in rows p b) (sym two) h.err)
            | inr two ↦ h.others q j (λ both. two both.1)
          ]
          | inr one ↦ h.others q j (λ both. one both.0)
        ]

    pub not_run_kept : (x : AllocError) → HasRun (Err x) → IsRowWorld (net_with net next sent)
    not_run_kept x h = record { chunks = is.chunks; loaded = is.loaded; come = come_back (seen n) (seen (net_with net next sent)) is.come (not_run x h) }

  -- the partition does not hold the key
  pub not_asked : (p k after : ℕ) (command : Command) (a : Answer) → (a ≢ Served Held) → Step (view net) (Serve p k after) a (view net) → RowStep run_on (seen n) (Ask p k after command) (Answered a) (seen n)
  not_asked p k after command a other step = (other, (step, (λ q j key before later. refl), (λ i j x key there flight. refl), tt))

-- ---- at first

pub first_kept : (old new : List PlanRange) (routers : ℕ) (net : NetValue) (rows : List Values) (sent : List Sent) → ArePlans old new → SameWorld (view net) (start old new routers) → rows ≡ [] → sent ≡ []
    → IsRowWorld (net_with net rows sent)
first_kept old new routers net rows sent plans same no_more none_sent =
    subst (λ r. IsRowWorld (net_with net r sent)) (sym no_more) (subst (λ l. IsRowWorld (net_with net [] l)) (sym none_sent) (record {
      chunks = sym same.chunks;
      loaded = λ i k s there inside. absurd (none i s there);
      come = comes_first old new routers (seen (net_with net [] [])) (record { canonical = plans.old_canonical; ranges = plans.old_ranges }) (record { canonical = plans.new_canonical; ranges = plans.new_ranges }) same (λ p k. refl);
    }))
  where
    none : (i : ℕ) (s : Sent) → slice_get [] i ≡ Some s → ⊥
    none i s e = cc

pub first_empty : (net : NetValue) (rows : List Values) (sent : List Sent) (old new : List PlanRange) (routers : ℕ) → IsReached (view net) → SameWorld (view net) (start old new routers) → rows ≡ [] → sent ≡ []
    → map_of (seen (net_with net rows sent)) ≡ no_rows
first_empty net rows sent old new routers reached same no_more none_sent =
    subst (λ r. map_of (seen (net_with net r sent)) ≡ no_rows) (sym no_more) (subst (λ l. map_of (seen (net_with net [] l)) ≡ no_rows) (sym none_sent)
    (map_is (seen (net_with net [] [])) no_rows reached all_none (λ k past. refl)))
  where
    none : (i : ℕ) (x : ChunkValue) → slice_get [] i ≡ Some x → ⊥
    none i x e = cc

    all_none : HasRows (seen (net_with net [] [])) no_rows
    all_none k key (Holder p) c = refl
    all_none k key (Flight i) c = absurd (none i c.0 (subst (λ xs. slice_get xs i ≡ Some c.0) same.chunks c.1))

-- ---- always

pub map_carried : (w : RowsValue BytesRow) → IsReached w.world → AreOneMap w (map_of w)
map_carried w reached k key = let only = one_carrier w.world reached k key in (only.0, only.1, only.2, has_map w reached k key only.0 only.1)

-- a call that changed nothing changed nothing that counts
pub no_change_if : (n m : RowNetValue) (r : Result Answer AllocError) → OnErr r (m ≡ n) → OnErr r (RestartStep (seen n) (seen m))
no_change_if n m (Ok a) same = tt
no_change_if n m (Err x) same = no_change n m same
