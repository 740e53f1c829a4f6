-- Beside each system of stores there is a run of a world with rows.
use Rattle.std.proofs.Common.{◌≡◌, ℕ, ◌<◌, ◌==◌, Bool, true, false, List, [], ◌∷◌, ◌++◌, length, Result, Ok, Err, Option, None, Some, refl, sym, ap, ◌∙◌, subst, if◌then◌else◌, ⊎_elim, inl, inr, ap₂, arith}
use Rattle.std.specs.List.{slice_get}
use Rattle.std.proofs.lemmas.Bool.{cases_Bool, cond-true, cond-false, eq-eqb, eqb-true, ne_eqb, both_ways}
use Rattle.std.proofs.lemmas.Option.{same_Some, slice_get_within}
use Rattle.squall_key.specs.Keys.{top}
use Rattle.squall_span.specs.Spans.{has, span_has}
use Rattle.squall_plan.specs.declared.range.PlanRange.{PlanRange}
use Rattle.squall_course.specs.Change.{Change}
use Rattle.squall_protocol.specs.Chunks.{ChunkValue}
use Rattle.squall_protocol.specs.declared.event.Event.{Event}
use Rattle.squall_protocol.specs.declared.event.Event.TheVariants.{Give, GiveAt, Load as LoadEvent}
use Rattle.squall_protocol.specs.declared.answer.Answer.{Answer}
use Rattle.squall_protocol.specs.declared.answer.Answer.TheVariants.{Served}
use Rattle.squall_protocol.specs.Worlds.{WorldValue, start}
use Rattle.squall_protocol.specs.Promises.{IsReached, IsInFlight, Carrier, Carries, Holder, Flight}
use Rattle.squall_protocol.specs.WorldLaws.{same_world, same_as_itself, reached_step}
use Rattle.squall_protocol.proofs.ProtocolLaws.{loaded_stays}
use Rattle.squall_protocol.specs.ListLaws.{at_either}
use Rattle.squall_part.specs.declared.giving.GiveFault.{GiveFault}
use Rattle.squall_part.specs.Parts.{PartValue, IsPart}
use Rattle.squall_replay.specs.Calls.{IsSamePart}
use Rattle.squall_nodes.specs.Standing.{PartStands}
use Rattle.squall_nodes.specs.PartCalls.{give_answer, load_answer, with_chunk}
use Rattle.squall_nodes.specs.Systems.{SystemValue, first_change, put_at, with_part}
use Rattle.squall_nodes.specs.Kept.{CarriesIn}
use Rattle.squall_nodes.proofs.Rebuilt.{rebuilt_stands}
use Rattle.squall_nodes.proofs.Systems.{Beside, Follows, part_moved, put_some, goes_on, first_world}
use Rattle.squall_nodes.proofs.Kept.{to_system, to_world}
use Rattle.squall_rows.specs.Rows.{RowsValue, KeepsStored, KeepsCarried, carried_row}
use Rattle.squall_rows.specs.RowSteps.{Act, Outcome, Plain, Ask, Restart, Answered, Ran as RanCommand, Back, PlainStep, RowStep, RowRun}
use Rattle.squall_rows.specs.OneMap.{with_row, after_all, AreMapReplies, RepliesOfOneMap, RowsOfOneMap}
use Rattle.squall_rows.specs.Follows.{RowsFollow}
use Rattle.squall_store.specs.declared.store.Asked.{Asked}
use Rattle.squall_store.specs.declared.store.Asked.TheVariants.{Ran, NotHeld}
use Rattle.squall_store.specs.Acts.{StoreStandsFor, StoreStands, MovesOn, outcome_of, AsksByAct, CarriesRows, GaveRows, GivesWithRows, GivesAtWithRows, HasChunksRows, LoadsWithRows}
use Rattle.squall_store.specs.Systems.{StoresValue, rows_with, copies_with, after_command, after_gift, with_store, MovesNoKey, Done, done_by, StoreCall, StoresCome, IsStoreRun, first_rows, row_at, after_done, AreRepliesOf, StoresReplyAsOneMap, StoresAreOneMap}
use Rattle.squall_store.specs.Systems.StoreCall.{asks, gives, gives_at, loads, restarts, others}
use Rattle.squall_store.specs.Systems.StoresCome.{none_yet, one_more}
use Rattle.squall_store.proofs.Standing.{others_still, beside, keeps, stand}

-- ---- the commands of a run

-- the command of an act, if it ran
abbrev done_one : {Command Reply : Type 0} → Act Command → Outcome Reply → List (Done Command Reply)
done_one (Ask p k after command) (RanCommand reply) = record { key = k; command = command; reply = reply } ∷ []
done_one a o = []

abbrev done_of : {Command Reply : Type 0} → List (Act Command) → List (Outcome Reply) → List (Done Command Reply)
done_of (a ∷ acts) (o ∷ outcomes) = done_one a o ++ done_of acts outcomes
done_of [] outcomes = []
done_of (a ∷ acts) [] = []

append_three : {A : Type 0} (xs ys zs : List A) → (xs ++ ys) ++ zs ≡ xs ++ (ys ++ zs)
append_three [] ys zs = refl
append_three (x ∷ xs) ys zs = ap (λ l. x ∷ l) (append_three xs ys zs)

module _ {Row Command Reply : Type 0} (run : Command → Row → Row × Reply) where
  -- a run that goes on by another
  rows_more : (w v u : RowsValue Row) (acts more : List (Act Command)) (outcomes rest : List (Outcome Reply)) → RowRun run w acts outcomes v → RowRun run v more rest u
      → RowRun run w (acts ++ more) (outcomes ++ rest) u × (done_of (acts ++ more) (outcomes ++ rest) ≡ done_of acts outcomes ++ done_of more rest)
  rows_more w v u [] more [] rest h on = (subst (λ x. RowRun run x more rest u) h on, refl)
  rows_more w v u (a ∷ acts) more (o ∷ outcomes) rest h on =
      let x = rows_more h.0 v u acts more outcomes rest h.2 on in
      ((h.0, h.1, x.0), ap (λ l. done_one a o ++ l) x.1 ∙ sym (append_three (done_one a o) (done_of acts outcomes) (done_of more rest)))
  rows_more w v u [] more (o ∷ outcomes) rest h on = absurd h
  rows_more w v u (a ∷ acts) more [] rest h on = absurd h

  -- the map after acts is that after their commands, and its replies are theirs
  record MapsAgree (m : ℕ → Row) (acts : List (Act Command)) (outcomes : List (Outcome Reply)) : Type 0 where
    rows : after_all run m acts outcomes ≡ after_done run m (done_of acts outcomes)
    replies : AreMapReplies run m acts outcomes → AreRepliesOf run m (done_of acts outcomes)

  nothing_done : (m : ℕ → Row) (acts : List (Act Command)) (outcomes : List (Outcome Reply)) → MapsAgree m acts outcomes → (after_all run m acts outcomes ≡ after_done run m (done_of acts outcomes)) × ((Unit {0} × AreMapReplies run m acts outcomes) → AreRepliesOf run m (done_of acts outcomes))
  nothing_done m acts outcomes h = (h.rows, λ x. h.replies x.1)

  maps_agree : (m : ℕ → Row) (acts : List (Act Command)) (outcomes : List (Outcome Reply)) → MapsAgree m acts outcomes
  maps_agree m [] outcomes = record { rows = refl; replies = λ h. tt }
  maps_agree m (a ∷ acts) [] = record { rows = refl; replies = λ h. tt }
  maps_agree m (Plain e ∷ acts) (o ∷ outcomes) = let x = nothing_done m acts outcomes (maps_agree m acts outcomes) in record { rows = x.0; replies = x.1 }
  maps_agree m (Restart p ∷ acts) (o ∷ outcomes) = let x = nothing_done m acts outcomes (maps_agree m acts outcomes) in record { rows = x.0; replies = x.1 }
  maps_agree m (Ask p k after command ∷ acts) (Answered a ∷ outcomes) = let x = nothing_done m acts outcomes (maps_agree m acts outcomes) in record { rows = x.0; replies = x.1 }
  maps_agree m (Ask p k after command ∷ acts) (Back ∷ outcomes) = let x = nothing_done m acts outcomes (maps_agree m acts outcomes) in record { rows = x.0; replies = x.1 }
  maps_agree m (Ask p k after command ∷ acts) (RanCommand reply ∷ outcomes) =
      let x = maps_agree (with_row m k (run command (m k)).0) acts outcomes in
      record { rows = x.rows; replies = λ h. (h.0, x.replies h.1) }

-- ---- a system of stores beside a world with rows

-- the world with rows has the nodes of the system, and the rows of its stores and copies
record Has {Row : Type 0} (first : Change) (w : RowsValue Row) (s : StoresValue Row) : Type 0 where
  nodes : Beside first w.world s.nodes
  stored : (p k : ℕ) (a : PartValue) → s.nodes.parts p ≡ Some a → k < top → has a.held k ≡ true → w.stored p k ≡ s.rows p k
  carried : (i k : ℕ) (x : ChunkValue) → k < top → slice_get s.nodes.chunks i ≡ Some x → IsInFlight w.world x k → w.carried i k ≡ s.copies i k

-- a run leads from a world to one that has the system, and these commands ran by it
record Comes {Row Command Reply : Type 0} (run : Command → Row → Row × Reply) (first : Change) (w : RowsValue Row) (done : List (Done Command Reply)) (s : StoresValue Row) : Type 0 where
  to : RowsValue Row
  acts : List (Act Command)
  outcomes : List (Outcome Reply)
  by_run : RowRun run w acts outcomes to
  ran : done_of acts outcomes ≡ done
  has : Has first to s

-- keys that are loaded in a world are loaded in the later one
abbrev StayLoaded : WorldValue → WorldValue → Type 0
StayLoaded w v = (n p k : ℕ) → w.loaded n p k ≡ true → v.loaded n p k ≡ true

module _ {Row : Type 0} (first : Change) (w : RowsValue Row) (s : StoresValue Row) (has_all : Has first w s) where
  -- the store of a partition stands for it
  stands_in : (p : ℕ) (a : PartValue) → s.nodes.parts p ≡ Some a → StoreStandsFor w p a (s.rows p)
  stands_in p a there = record { part = has_all.nodes.stands.parts p a there; stored = λ k key held. has_all.stored p k a there key held }

  -- a chunk of the system is one of the world
  chunk_there : (i : ℕ) (x : ChunkValue) → slice_get s.nodes.chunks i ≡ Some x → slice_get w.world.chunks i ≡ Some x
  chunk_there i x e = ap (λ l. slice_get l i) has_all.nodes.stands.chunks ∙ e

  -- a key that is on its way was on its way before, and its row there stays
  carried_on : (v : RowsValue Row) → KeepsCarried w v → StayLoaded w.world v.world → (i k : ℕ) (x : ChunkValue) → k < top → slice_get s.nodes.chunks i ≡ Some x → IsInFlight v.world x k → v.carried i k ≡ s.copies i k
  carried_on v kept later i k x key there flight =
      let before : IsInFlight w.world x k = (flight.0, was (w.world.loaded x.number x.dest k) refl) in
      kept i k x key (chunk_there i x there) before ∙ has_all.carried i k x key there before
    where
      was : (b : Bool) → w.world.loaded x.number x.dest k ≡ b → w.world.loaded x.number x.dest k ≡ false
      was false e = e
      was true e = absurd (both_ways (v.world.loaded x.number x.dest k) flight.1 (later x.number x.dest k e))

-- ---- one store moved

part_stands : {Row : Type 0} (w : RowsValue Row) (p : ℕ) (b : PartValue) (next : ℕ → Row) (on_way : List ChunkValue) (v : RowsValue Row) → StoreStands w p b next on_way v → PartStands w.world p b on_way v.world
part_stands w p b next on_way v stands = record { itself = stands.itself.part; others = stands.others; chunks = stands.chunks; messages = stands.messages }

module _ {Row : Type 0} (first : Change) (w v : RowsValue Row) (s : StoresValue Row) (has_all : Has first w s) (p : ℕ) (b : PartValue) (next : ℕ → Row) (on_way chunks : List ChunkValue)
    (stands : StoreStands w p b next on_way v) where
  -- each store has the rows of its partition
  stored_in : (q k : ℕ) (c : PartValue) → put_at p b s.nodes.parts q ≡ Some c → k < top → has c.held k ≡ true → v.stored q k ≡ rows_with p next s.rows q k
  stored_in q k c there key held = ⊎_elim own other (put_some p b s.nodes.parts q c there)
    where
      own : (q ≡ p) × (b ≡ c) → v.stored q k ≡ rows_with p next s.rows q k
      own here =
          let holds : has b.held k ≡ true = subst (λ (d : PartValue). has d.held k ≡ true) (sym here.1) held in
          subst (λ n. v.stored n k ≡ next k) (sym here.0) (stands.itself.stored k key holds) ∙ sym (cond-true (q == p) (next k) (s.rows q k) (eq-eqb q p here.0))

      other : ((q == p) ≡ false) × (s.nodes.parts q ≡ Some c) → v.stored q k ≡ rows_with p next s.rows q k
      other apart = (stands.stores q c (s.rows q) apart.0 (stands_in first w s has_all q c apart.1)).stored k key held ∙ sym (cond-false (q == p) (next k) (s.rows q k) apart.0)

  -- the nodes of the system with the other partition
  nodes_in : IsPart b → on_way ≡ chunks → IsReached v.world → Beside first v.world (with_part s.nodes p b chunks)
  nodes_in is same reached = part_moved first w.world v.world s.nodes p b on_way chunks has_all.nodes is same reached (part_stands w p b next on_way v stands)

-- the same rows at each key
same_rows : {Row : Type 0} (p : ℕ) (rows : ℕ → ℕ → Row) (q k : ℕ) → rows_with p (rows p) rows q k ≡ rows q k
same_rows p rows q k = ⊎_elim
    (λ (own : (q == p) ≡ true). cond-true (q == p) (rows p k) (rows q k) own ∙ ap (λ n. rows n k) (sym (eqb-true q p own)))
    (λ (other : (q == p) ≡ false). cond-false (q == p) (rows p k) (rows q k) other)
    (cases_Bool (q == p))

-- what is promised of calls of stores, and of rows beside a world
pub record Laws {Row Command Reply : Type 0} (run : Command → Row → Row × Reply) : Type 0 where
  pub asking : AsksByAct run
  pub giving : GivesWithRows Row
  pub giving_at : GivesAtWithRows Row
  pub loading : LoadsWithRows Row
  pub moves : RowsFollow Row

-- ---- calls

module _ {Row Command Reply : Type 0} (run : Command → Row → Row × Reply) (first : Change) (w : RowsValue Row) (s : StoresValue Row) (has_all : Has first w s) where
  abbrev on : List (Done Command Reply) → StoresValue Row → Type 0
  on done t = Comes run first w done t

  -- no act
  no_act : (t : StoresValue Row) → Has first w t → on [] t
  no_act t h = record { to = w; acts = []; outcomes = []; by_run = refl; ran = refl; has = h }

  -- one act by which no command ran
  plain_act : (v : RowsValue Row) (e : Event) (a : Answer) (t : StoresValue Row) → PlainStep w e a v → Has first v t → on [] t
  plain_act v e a t step h = record { to = v; acts = Plain e ∷ []; outcomes = Answered a ∷ []; by_run = (v, step, refl); ran = refl; has = h }

  -- ---- commands

  -- the store was asked, in the same world
  has_asked : (v : RowsValue Row) (p : ℕ) (a : PartValue) (next : ℕ → Row) → s.nodes.parts p ≡ Some a → v.world ≡ w.world → KeepsCarried w v → StoreStands w p a next w.world.chunks v → Has first v (after_command s p next)
  has_asked v p a next there same kept stands = record {
    nodes = subst (λ x. Beside first x s.nodes) (sym same) has_all.nodes;
    stored = stored;
    carried = λ i k x key chunk flight.
        let before : IsInFlight w.world x k = subst (λ u. IsInFlight u x k) same flight in
        kept i k x key (chunk_there first w s has_all i x chunk) before ∙ has_all.carried i k x key chunk before;
  }
    where
      stored : (q k : ℕ) (c : PartValue) → s.nodes.parts q ≡ Some c → k < top → has c.held k ≡ true → v.stored q k ≡ rows_with p next s.rows q k
      stored q k c here key held = ⊎_elim
          (λ (own : (q == p) ≡ true).
          let is : q ≡ p = eqb-true q p own in
          let one : c ≡ a = same_Some c a (sym here ∙ subst (λ n. s.nodes.parts n ≡ Some a) (sym is) there) in
          subst (λ n. v.stored n k ≡ next k) (sym is) (stands.itself.stored k key (subst (λ (d : PartValue). has d.held k ≡ true) one held)) ∙ sym (cond-true (q == p) (next k) (s.rows q k) own))
          (λ (other : (q == p) ≡ false). (stands.stores q c (s.rows q) other (stands_in first w s has_all q c here)).stored k key held ∙ sym (cond-false (q == p) (next k) (s.rows q k) other))
          (cases_Bool (q == p))

  asked : (p k after : ℕ) (command : Command) (a : PartValue) (next : ℕ → Row) (answer : Asked Reply) → s.nodes.parts p ≡ Some a
      → (v : RowsValue Row) × RowStep run w (Ask p k after command) (outcome_of answer) v × StoreStands w p a next w.world.chunks v
      → on (done_by k command answer) (after_command s p next)
  asked p k after command a next (Ran reply) there (v, step, stands) = record {
    to = v;
    acts = Ask p k after command ∷ [];
    outcomes = RanCommand reply ∷ [];
    by_run = (v, step, refl);
    ran = refl;
    has = has_asked v p a next there (same_world v.world w.world step.1.2) step.5 stands;
  }
  asked p k after command a next (NotHeld reply) there (v, step, stands) = record {
    to = v;
    acts = Ask p k after command ∷ [];
    outcomes = Answered (Served reply) ∷ [];
    by_run = (v, step, refl);
    ran = refl;
    has = has_asked v p a next there (same_world v.world w.world step.1.0.2) step.1.2 stands;
  }

  -- ---- gifts

  -- the next chunk carries the rows of the store, and the others what they carried
  gift_carried : (v : RowsValue Row) (p : ℕ) (r : Result ChunkValue GiveFault) → KeepsCarried w v → StayLoaded w.world v.world → CarriesRows v (length w.world.chunks) r (s.rows p)
      → (i k : ℕ) (x : ChunkValue) → k < top → slice_get (with_chunk s.nodes.chunks r) i ≡ Some x → IsInFlight v.world x k → v.carried i k ≡ copies_with (length s.nodes.chunks) (s.rows p) r s.copies i k
  gift_carried v p (Err f) kept later rows i k x key there flight = carried_on first w s has_all v kept later i k x key there flight
  gift_carried v p (Ok y) kept later rows i k x key there flight = ⊎_elim old new (at_either s.nodes.chunks y i x there)
    where
      count : length w.world.chunks ≡ length s.nodes.chunks
      count = ap length has_all.nodes.stands.chunks

      old : slice_get s.nodes.chunks i ≡ Some x → v.carried i k ≡ (if i == length s.nodes.chunks then s.rows p k else s.copies i k)
      old chunk =
          let within = slice_get_within s.nodes.chunks i x chunk in
          carried_on first w s has_all v kept later i k x key chunk flight
          ∙ sym (cond-false (i == length s.nodes.chunks) (s.rows p k) (s.copies i k) (ne_eqb i (length s.nodes.chunks) (λ same. absurd (omega (arith, within, same)))))

      new : (i ≡ length s.nodes.chunks) × (y ≡ x) → v.carried i k ≡ (if i == length s.nodes.chunks then s.rows p k else s.copies i k)
      new last =
          let inside : span_has y.span k ≡ true = subst (λ (z : ChunkValue). span_has z.span k ≡ true) (sym last.1) flight.0 in
          subst (λ n. v.carried n k ≡ s.rows p k) (count ∙ sym last.0) (rows k key inside) ∙ sym (cond-true (i == length s.nodes.chunks) (s.rows p k) (s.copies i k) (eq-eqb i (length s.nodes.chunks) last.0))

  -- what the system is after it
  has_given : (v : RowsValue Row) (p : ℕ) (b : PartValue) (r : Result ChunkValue GiveFault) → IsPart b → IsReached v.world → KeepsCarried w v → StayLoaded w.world v.world
      → GaveRows w p b (s.rows p) r v → Has first v (after_gift s p b r)
  has_given v p b r is reached kept later gave = record {
    nodes = nodes_in first w v s has_all p b (s.rows p) (with_chunk w.world.chunks r) (with_chunk s.nodes.chunks r) gave.0 is (ap (λ l. with_chunk l r) has_all.nodes.stands.chunks) reached;
    stored = λ q k c there key held. stored_in first w v s has_all p b (s.rows p) (with_chunk w.world.chunks r) (with_chunk s.nodes.chunks r) gave.0 q k c there key held ∙ same_rows p s.rows q k;
    carried = gift_carried v p r kept later gave.1;
  }

  still_loaded : StayLoaded w.world w.world
  still_loaded n p k loaded = loaded

  given : (p : ℕ) (b : PartValue) (r : Result ChunkValue GiveFault) (e : Event) (o : Option Answer) → IsPart b → MovesOn w e o (GaveRows w p b (s.rows p) r) → on [] (after_gift s p b r)
  given p b r e None is gave = no_act (after_gift s p b r) (has_given w p b r is has_all.nodes.reached (λ i k x key there flight. refl) still_loaded gave)
  given p b r e (Some a) is (v, step, gave) =
      plain_act v e a (after_gift s p b r) step (has_given v p b r is (reached_step w.world v.world e a has_all.nodes.reached step.0) step.2 (loaded_stays w.world v.world e a has_all.nodes.reached step.0) gave)

  -- ---- loads, and restarts

  has_moved : (v : RowsValue Row) (p : ℕ) (b : PartValue) (rows : ℕ → Row) → IsPart b → IsReached v.world → KeepsCarried w v → StayLoaded w.world v.world
      → StoreStands w p b rows w.world.chunks v → Has first v (with_store s p b rows)
  has_moved v p b rows is reached kept later stands = record {
    nodes = nodes_in first w v s has_all p b rows w.world.chunks s.nodes.chunks stands is has_all.nodes.stands.chunks reached;
    stored = stored_in first w v s has_all p b rows w.world.chunks s.nodes.chunks stands;
    carried = carried_on first w s has_all v kept later;
  }

  moved : (p : ℕ) (b : PartValue) (rows : ℕ → Row) (e : Event) (o : Option Answer) → IsPart b → MovesOn w e o (StoreStands w p b rows w.world.chunks) → on [] (with_store s p b rows)
  moved p b rows e None is stands = no_act (with_store s p b rows) (has_moved w p b rows is has_all.nodes.reached (λ i k x key there flight. refl) still_loaded stands)
  moved p b rows e (Some a) is (v, step, stands) =
      plain_act v e a (with_store s p b rows) step (has_moved v p b rows is (reached_step w.world v.world e a has_all.nodes.reached step.0) step.2 (loaded_stays w.world v.world e a has_all.nodes.reached step.0) stands)

  restarted : (p : ℕ) (a b : PartValue) (rows : ℕ → Row) → s.nodes.parts p ≡ Some a → IsSamePart a b → IsPart b → ((k : ℕ) → k < top → has a.held k ≡ true → rows k ≡ s.rows p k) → on [] (with_store s p b rows)
  restarted p a b rows there same is stay =
      let v = beside w p rows w.carried w.world in
      let own = stands_in first w s has_all p a there in
      let stands = stand w p rows w.carried w.world b w.world.chunks (record { itself = rebuilt_stands w.world p a b own.part same; others = others_still w.world p; chunks = refl; messages = refl }) in
      record {
        to = v;
        acts = Restart p ∷ [];
        outcomes = Back ∷ [];
        by_run = (v, (same_as_itself w.world, keeps w p rows w.carried w.world a (s.rows p) own stay, (λ i k x key chunk flight. refl)), refl);
        ran = refl;
        has = has_moved v p b rows is has_all.nodes.reached (λ i k x key chunk flight. refl) still_loaded stands;
      }

  -- ---- other calls

  has_followed : (v : RowsValue Row) (t : SystemValue) → Beside first v.world t → KeepsStored w v → KeepsCarried w v → StayLoaded w.world v.world → MovesNoKey s.nodes t → Has first v (record s { nodes = t })
  has_followed v t nodes stored carried later same = record {
    nodes = nodes;
    stored = λ p k b there key held.
        let before = same.held p k b there held in
        let old : w.world.held p k ≡ true = (has_all.nodes.stands.parts p before.0 before.1).held k ∙ before.2 in
        let now : v.world.held p k ≡ true = (nodes.stands.parts p b there).held k ∙ held in
        stored p k key old now ∙ has_all.stored p k before.0 before.1 key before.2;
    carried = λ i k x key there flight. carried_on first w s has_all v carried later i k x key (subst (λ l. slice_get l i ≡ Some x) same.chunks there) flight;
  }

  followed : RowsFollow Row → (t : SystemValue) → MovesNoKey s.nodes t → (u : WorldValue) → Follows w.world u → Beside first u t → on [] (record s { nodes = t })
  followed follow t same u (inl still) nodes =
      no_act (record s { nodes = t }) (has_followed w t (subst (λ x. Beside first x t) still nodes) (λ p k key old now. refl) (λ i k x key there flight. refl) still_loaded same)
  followed follow t same u (inr (e, a, step)) nodes =
      let v = follow w e a u has_all.nodes.reached step in
      let world : v.0.world ≡ u = v.1 in
      plain_act v.0 e a (record s { nodes = t }) v.2
      (has_followed v.0 t (subst (λ x. Beside first x t) (sym world) nodes) v.2.1 v.2.2 (loaded_stays w.world v.0.world e a has_all.nodes.reached v.2.0) same)

  -- ---- any call

  goes : Laws run → (t : StoresValue Row) (now : List (Done Command Reply)) → StoreCall run first s now t → on now t
  goes laws _ _ (asks p k after command a rows answer there key is stay) =
      asked p k after command a rows answer there (laws.asking w p k after command a (s.rows p) rows answer (stands_in first w s has_all p a there) (has_all.nodes.system.parts p a there) key is stay)
  goes laws _ _ (gives p most a b r there is part) =
      given p b r (Give p most) (give_answer (length w.world.chunks) r) part (laws.giving w p most a b (s.rows p) r (stands_in first w s has_all p a there) (has_all.nodes.system.parts p a there) is)
  goes laws _ _ (gives_at p k a b r there is part) =
      given p b r (GiveAt p k) (give_answer (length w.world.chunks) r) part (laws.giving_at w p k a b (s.rows p) r (stands_in first w s has_all p a there) (has_all.nodes.system.parts p a there) is)
  goes laws _ _ (loads i x a b r rows batch chunk there brought is installed stay part) =
      let has_rows : HasChunksRows w i x batch = λ k key inside missing. brought k key inside ∙ sym (has_all.carried i k x key chunk (inside, missing)) in
      moved x.dest b rows (LoadEvent i) (load_answer r) part
      (laws.loading w i x a b (s.rows x.dest) rows batch r has_all.nodes.reached (stands_in first w s has_all x.dest a there) (has_all.nodes.system.parts x.dest a there) (chunk_there first w s has_all i x chunk) has_rows is installed stay)
  goes laws _ _ (restarts p a b rows there same part stay) = restarted p a b rows there same part stay
  goes laws _ _ (others t happens same) =
      let n = goes_on first w.world s.nodes t has_all.nodes happens in
      followed laws.moves t same n.0 n.1 n.2

-- ---- all calls

module _ {Row Command Reply : Type 0} (run : Command → Row → Row × Reply) (laws : Laws run) where
  all_on : (first : Change) (w : RowsValue Row) (s : StoresValue Row) → Has first w s → (done : List (Done Command Reply)) (t : StoresValue Row) → StoresCome run first s done t → Comes run first w done t
  all_on first w s h _ _ none_yet = no_act run first w s h s h
  all_on first w s h _ _ (one_more t u before now come call) =
      let x = all_on first w s h before t come in
      let y = goes run first x.to t x.has laws u now call in
      let z = rows_more run w x.to y.to x.acts y.acts x.outcomes y.outcomes x.by_run y.by_run in
      record { to = y.to; acts = x.acts ++ y.acts; outcomes = x.outcomes ++ y.outcomes; by_run = z.0; ran = z.1 ∙ ap₂ (λ l m. l ++ m) x.ran y.ran; has = y.has }

  module _ (old new : List PlanRange) (routers : ℕ) (s t : StoresValue Row) (done : List (Done Command Reply)) (r : IsStoreRun run old new routers s done t) where
    -- the world as it begins, with the rows of the stores
    abbrev begin : RowsValue Row
    begin = record { world = start old new routers; stored = s.rows; carried = s.copies }

    at_first : Has (first_change old new) begin s
    at_first = record {
      nodes = subst (λ n. Beside (first_change old new) (start old new routers) n) (sym r.starts) (first_world old new routers r.old_plan r.new_plan);
      stored = λ p k a there key held. refl;
      carried = λ i k x key there flight. refl;
    }

    comes : Comes run (first_change old new) begin done t
    comes = all_on (first_change old new) begin s at_first done t r.come

    replies : RepliesOfOneMap run → AreRepliesOf run (first_rows s old) done
    replies one =
        subst (AreRepliesOf run (first_rows s old)) comes.ran ((maps_agree run (first_rows s old) comes.acts comes.outcomes).replies
        (one old new routers begin comes.to comes.acts comes.outcomes r.old_plan r.new_plan (same_as_itself (start old new routers)) comes.by_run))

    -- the row at a carrier is the world's
    row_in : (k : ℕ) → k < top → (y : Carrier) → Carries comes.to.world k y → row_at t y k ≡ carried_row comes.to y k
    row_in k key (Holder p) held = let a = to_system comes.to.world t.nodes (first_change old new) comes.has.nodes k (Holder p) held in sym (comes.has.stored p k a.0 a.1 key a.2)
    row_in k key (Flight i) (x, chunk, flight) = sym (comes.has.carried i k x key (ap (λ l. slice_get l i) (sym comes.has.nodes.stands.chunks) ∙ chunk) flight)

    one_map : RowsOfOneMap run → (k : ℕ) → k < top → (x : Carrier) × CarriesIn t.nodes k x × ((y : Carrier) → CarriesIn t.nodes k y → y ≡ x) × (row_at t x k ≡ after_done run (first_rows s old) done k)
    one_map one k key =
        let x = one old new routers begin comes.to comes.acts comes.outcomes r.old_plan r.new_plan (same_as_itself (start old new routers)) comes.by_run k key in
        let rows = ap (λ m. m k) (maps_agree run (first_rows s old) comes.acts comes.outcomes).rows ∙ ap (λ d. after_done run (first_rows s old) d k) comes.ran in
        (x.0, to_system comes.to.world t.nodes (first_change old new) comes.has.nodes k x.0 x.1, (λ y at. x.2 y (to_world comes.to.world t.nodes (first_change old new) comes.has.nodes k y at)), row_in k key x.0 x.1 ∙ x.3 ∙ rows)

  pub stores_reply_as_one_map : RepliesOfOneMap run → StoresReplyAsOneMap run
  stores_reply_as_one_map one old new routers s t done r = replies old new routers s t done r one

  pub stores_are_one_map : RowsOfOneMap run → StoresAreOneMap run
  stores_are_one_map one old new routers s t done r = one_map old new routers s t done r one
