-- The calls of a store are acts.
use Rattle.std.proofs.Common.{◌≡◌, ◌≢◌, ℕ, ◌+◌, ◌<◌, ◌==◌, ◌&&◌, not, true, false, [], ◌∷◌, ◌++◌, length, refl, sym, ap, ◌∙◌, subst, if◌then◌else◌, ⊎_elim, arith}
use Rattle.std.specs.Prelude.{Bool, Option, None, Some, Result, Ok, Err, nat_le, nat_lt}
use Rattle.std.specs.List.{slice_get}
use Rattle.std.proofs.lemmas.Bool.{and_parts, and_from, both_ways, cases_Bool, cond-true, cond-false, eq-eqb, eqb-true, ne_eqb, not_from_false, leb-true, ltb-true}
use Rattle.std.proofs.lemmas.Option.{same_Some, slice_get_within}
use Rattle.squall_key.specs.Keys.{top}
use Rattle.squall_span.specs.Spans.{Interval, has, span_has, interval}
use Rattle.squall_errand.specs.declared.errand.Reply.{Reply}
use Rattle.squall_errand.specs.declared.errand.Reply.TheVariants.{Held}
use Rattle.squall_protocol.specs.Chunks.{ChunkValue}
use Rattle.squall_protocol.specs.Firsts.{AreFirst}
use Rattle.squall_protocol.specs.declared.event.Node.TheVariants.{Part}
use Rattle.squall_protocol.specs.declared.event.Event.{Event}
use Rattle.squall_protocol.specs.declared.event.Event.TheVariants.{Give, GiveAt, Load as LoadEvent, Finish, Deliver, Serve}
use Rattle.squall_protocol.specs.declared.answer.Answer.{Answer}
use Rattle.squall_protocol.specs.declared.answer.Answer.TheVariants.{Gave, Loaded, Again, Delivered, Served}
use Rattle.squall_protocol.specs.declared.answer.Refusal.{Refusal}
use Rattle.squall_protocol.specs.Worlds.{WorldValue}
use Rattle.squall_protocol.specs.Steps.{Step}
use Rattle.squall_protocol.specs.Promises.{IsReached}
use Rattle.squall_part.specs.declared.loading.LoadFault.TheVariants.{NotOpen as LoadNotOpen, Stranger as LoadStranger, NoMemory as LoadNoMemory}
use Rattle.squall_part.specs.declared.loading.Load.TheVariants.{Again as LoadAgain, Loaded as LoadLoaded}
use Rattle.squall_part.specs.declared.finishing.FinishFault.{FinishFault}
use Rattle.squall_report.specs.declared.report.ReportKind.{ReportKind}
use Rattle.squall_report.specs.Issues.{PlanPair}
use Rattle.squall_part.specs.Parts.{PartValue, IsPart, loaded_by}
use Rattle.squall_part.specs.Giving.{goes_out, is_left}
use Rattle.squall_part.specs.Serving.{IsReply}
use Rattle.squall_nodes.specs.Standing.{StandsForPart, PartStands, Becomes, refused}
use Rattle.squall_nodes.specs.PartCalls.{ServesByStep, GivesByStep, GivesAtByStep, LoadsByStep, FinishesByStep, AbsorbsByStep, give_refusal, load_answer, finish_refusal, finish_answer}
use Rattle.squall_rows.specs.Rows.{RowsValue, KeepsCarried}
use Rattle.squall_rows.specs.RowSteps.{InstallsRows, KeepsOthers, MovesRows}
use Rattle.squall_rows.specs.Follows.{NewIsHeldNowhere}
use Rattle.squall_store.specs.declared.store.Asked.TheVariants.{Ran, NotHeld}
use Rattle.squall_store.specs.Stores.{NewRowsAre, OthersStay}
use Rattle.squall_store.specs.Acts.{StoreStandsFor, StoreStands, MovesOn, AsksByAct, GaveRows, GivesWithRows, GivesAtWithRows, HasChunksRows, LoadsWithRows, FinishesWithRows, AbsorbsWithRows}
use Rattle.squall_store.proofs.Standing.{others_still, beside, here, there, keeps, stand, MovesIn, still, moves_on}

-- ---- commands

-- a partition that is asked is the same
part_still : (w : WorldValue) (p : ℕ) (a : PartValue) → StandsForPart w p a → PartStands w p a w.chunks w
part_still w p a stands = record { itself = stands; others = others_still w p; chunks = refl; messages = refl }

-- the reply is a step that changes nothing
served : ServesByStep → (w : WorldValue) (p k after : ℕ) (a : PartValue) (reply : Reply) → StandsForPart w p a → IsPart a → IsReply a k after reply → Step w (Serve p k after) (Served reply) w
served serves w p k after a reply stands is h =
    let step = serves w p k after a reply stands is h in
    subst (λ v. Step w (Serve p k after) (Served reply) v) step.2 step.1

-- a key that is asked for has the other row, and each other key its own
pub alike : {Row : Type 0} (k : ℕ) (rows next : ℕ → Row) → next k ≡ rows k → ((j : ℕ) → j ≢ k → next j ≡ rows j) → (j : ℕ) → next j ≡ rows j
alike k rows next own others j = ⊎_elim
    (λ (same : (j == k) ≡ true). subst (λ n. next n ≡ rows n) (sym (eqb-true j k same)) own)
    (λ (apart : (j == k) ≡ false). others j (λ e. both_ways (j == k) apart (eq-eqb j k e)))
    (cases_Bool (j == k))

-- the reply is another one than Held
not_held : (reply : Reply) → reply ≢ Held → Served reply ≢ Served Held
not_held reply other e = other (let same : reply ≡ Held = cc in same)

pub asks : {Row Command Reply : Type 0} (run : Command → Row → Row × Reply) → ServesByStep → AsksByAct run
asks run serves w p k after command a rows next (Ran reply) stands is key h others =
    let step = served serves w.world p k after a Held stands.part is h.0 in
    let row = stands.stored k key h.0 in (
      beside w p next w.carried w.world,
      (key, step, here w p next w.carried w.world k ∙ h.1 ∙ ap (λ r. (run command r).0) (sym row), h.2 ∙ ap (λ r. (run command r).1) (sym row), beside_others, (λ i j x inside there flight. refl)),
      stand w p next w.carried w.world a w.world.chunks (part_still w.world p a stands.part),
    )
  where
    beside_others : KeepsOthers p k w (beside w p next w.carried w.world)
    beside_others q j inside held apart = ⊎_elim
        (λ (own : (q == p) ≡ true).
        let same : q ≡ p = eqb-true q p own in
        let holds : has a.held j ≡ true = sym (stands.part.held j) ∙ subst (λ n. w.world.held n j ≡ true) same held in
        subst (λ n. (beside w p next w.carried w.world).stored n j ≡ w.stored n j) (sym same)
        (here w p next w.carried w.world j ∙ others j (λ e. apart (same, e)) ∙ sym (stands.stored j inside holds)))
        (λ (other : (q == p) ≡ false). there w p next w.carried w.world q j other)
        (cases_Bool (q == p))
asks run serves w p k after command a rows next (NotHeld reply) stands is key h others =
    let step = served serves w.world p k after a reply stands.part is h.0 in
    let same = alike k rows next h.2 others in (
      beside w p next w.carried w.world,
      (not_held reply h.1, (step, keeps w p next w.carried w.world a rows stands (λ j inside held. same j), (λ i j x inside there flight. refl), tt)),
      stand w p next w.carried w.world a w.world.chunks (part_still w.world p a stands.part),
    )

-- ---- gifts

-- what holds of the world after it
map_moves : {Row : Type 0} (w : RowsValue Row) (event : Event) (answer : Option Answer) (P Q : RowsValue Row → Type 0) → ((v : RowsValue Row) → P v → Q v) → MovesOn w event answer P → MovesOn w event answer Q
map_moves w event None P Q f h = f w h
map_moves w event (Some answer) P Q f h = (h.0, h.1, f h.0 h.2)

-- the first keys that are left are held
first_held : (a : PartValue) (sub most k : ℕ) (s : Interval) → AreFirst (is_left a sub) most s → span_has s k ≡ true → has a.held k ≡ true
first_held a sub most k s first inside =
    let within = and_parts (nat_le s.lo k) (nat_lt k s.hi) inside in
    (and_parts (goes_out a sub k) (has a.held k) (first.keys k (leb-true s.lo k within.0) (ltb-true k s.hi within.1))).1

-- the one key of a span is held
one_held : (a : PartValue) (j k : ℕ) (s : Interval) → s ≡ interval j (j + 1) → has a.held j ≡ true → span_has s k ≡ true → has a.held k ≡ true
one_held a j k s is held inside =
    let one : span_has (interval j (j + 1)) k ≡ true = subst (λ t. span_has t k ≡ true) is inside in
    let within = and_parts (nat_le j k) (nat_lt k (j + 1)) one in
    let low = leb-true j k within.0 in
    let high = ltb-true k (j + 1) within.1 in
    let same : j ≡ k = omega (arith, low, high) in
    subst (λ n. has a.held n ≡ true) same held

module _ {Row : Type 0} (w : RowsValue Row) (p : ℕ) (a b : PartValue) (rows : ℕ → Row) (x : ChunkValue) (stands : StoreStandsFor w p a rows)
    (held : (k : ℕ) → span_has x.span k ≡ true → has a.held k ≡ true) (source : x.source ≡ p) where
  abbrev index : ℕ
  index = length w.world.chunks

  -- the next chunk carries the store's rows
  abbrev loaded_up : ℕ → ℕ → Row
  loaded_up j k = if j == index then rows k else w.carried j k

  abbrev after : WorldValue → RowsValue Row
  after u = beside w p rows loaded_up u

  next_chunk : (k : ℕ) → loaded_up index k ≡ rows k
  next_chunk k = cond-true (index == index) (rows k) (w.carried index k) (eq-eqb index index refl)

  others_fly : (u : WorldValue) → KeepsCarried w (after u)
  others_fly u j k y key there flight =
      let within = slice_get_within w.world.chunks j y there in
      cond-false (j == index) (rows k) (w.carried j k) (ne_eqb j index (λ same. absurd (omega (arith, within, same))))

  pub takes : (u : WorldValue) (k : ℕ) → k < top → span_has x.span k ≡ true → (after u).carried index k ≡ w.stored x.source k
  takes u k key inside = next_chunk k ∙ sym (stands.stored k key (held k inside)) ∙ ap (λ n. w.stored n k) (sym source)

  pub gave : (event : Event) → ((u : WorldValue) → MovesRows w event (Gave index x) (after u)) → Becomes w.world event (Some (Gave index x)) (PartStands w.world p b (w.world.chunks ++ x ∷ []))
      → MovesOn w event (Some (Gave index x)) (GaveRows w p b rows (Ok x))
  gave event moves h =
      let u = h.0 in
      (after u, (h.1, keeps w p rows loaded_up u a rows stands (λ k key has. refl), others_fly u, moves u), (stand w p rows loaded_up u b (w.world.chunks ++ x ∷ []) h.2, (λ k key inside. next_chunk k)))

-- a gift that is refused moves no rows
none_given : {Row : Type 0} (w : RowsValue Row) (p most : ℕ) (v : WorldValue → RowsValue Row) (o : Option Refusal) → MovesIn w (Give p most) (refused o) v
none_given w p most v None = tt
none_given w p most v (Some r) = λ u. tt

none_given_at : {Row : Type 0} (w : RowsValue Row) (p k : ℕ) (v : WorldValue → RowsValue Row) (o : Option Refusal) → MovesIn w (GiveAt p k) (refused o) v
none_given_at w p k v None = tt
none_given_at w p k v (Some r) = λ u. tt

pub gives : {Row : Type 0} → GivesByStep → GivesWithRows Row
gives steps w p most a b rows (Ok x) stands is h =
    gave w p a b rows x stands (λ k inside. first_held a h.0 most k x.span h.2 inside) (h.3.source ∙ stands.part.id) (Give p most)
    (takes w p a b rows x stands (λ k inside. first_held a h.0 most k x.span h.2 inside) (h.3.source ∙ stands.part.id)) (steps w.world p most a b (Ok x) stands.part is h)
gives steps w p most a b rows (Err f) stands is h =
    map_moves w (Give p most) (refused (give_refusal f)) (StoreStands w p b rows w.world.chunks) (GaveRows w p b rows (Err f)) (λ v s. (s, tt))
    (moves_on w p a b rows rows w.world.chunks (Give p most) (refused (give_refusal f)) stands (λ k key held. refl) (none_given w p most (beside w p rows w.carried) (give_refusal f)) (steps w.world p most a b (Err f) stands.part is h))

pub gives_at : {Row : Type 0} → GivesAtByStep → GivesAtWithRows Row
gives_at steps w p j a b rows (Ok x) stands is h =
    gave w p a b rows x stands (λ k inside. one_held a j k x.span h.5 h.4 inside) (h.6.source ∙ stands.part.id) (GiveAt p j)
    (takes w p a b rows x stands (λ k inside. one_held a j k x.span h.5 h.4 inside) (h.6.source ∙ stands.part.id)) (steps w.world p j a b (Ok x) stands.part is h)
gives_at steps w p j a b rows (Err f) stands is h =
    map_moves w (GiveAt p j) (refused (give_refusal f)) (StoreStands w p b rows w.world.chunks) (GaveRows w p b rows (Err f)) (λ v s. (s, tt))
    (moves_on w p a b rows rows w.world.chunks (GiveAt p j) (refused (give_refusal f)) stands (λ k key held. refl) (none_given_at w p j (beside w p rows w.carried) (give_refusal f)) (steps w.world p j a b (Err f) stands.part is h))

-- ---- loads

not_new : (c d : Bool) → d ≡ true → (c && not d) ≡ false
not_new true d e = ap not e
not_new false d e = refl

-- a key that is held is not new
kept : {Row : Type 0} (a : PartValue) (x : ChunkValue) (rows next : ℕ → Row) → OthersStay a x rows next → (k : ℕ) → k < top → has a.held k ≡ true → next k ≡ rows k
kept a x rows next others k key held = others k (not_new (span_has x.span k && not (has (loaded_by a x.number) k)) (has a.held k) held)

-- the rows of the keys that are new are the chunk's
brings : {Row : Type 0} → NewIsHeldNowhere → (w : RowsValue Row) (i : ℕ) (x : ChunkValue) (a : PartValue) (rows next batch : ℕ → Row) (report : ReportKind PlanPair) → IsReached w.world
    → StoreStandsFor w x.dest a rows → slice_get w.world.chunks i ≡ Some x → HasChunksRows w i x batch → NewRowsAre batch a x next
    → (u : WorldValue) → MovesRows w (LoadEvent i) (Loaded report) (beside w x.dest next w.carried u)
brings nowhere w i x a rows next batch report reached stands there chunks installed u y also =
    subst (λ z. InstallsRows w i z (beside w x.dest next w.carried u)) (same_Some x y (sym there ∙ also)) (λ k key inside missing.
    let unloaded : has (loaded_by a x.number) k ≡ false = sym (stands.part.loaded x.number k) ∙ missing in
    let unheld : has a.held k ≡ false = sym (stands.part.held k) ∙ nowhere w.world i x.dest k x reached key there inside missing in
    let new = and_from (span_has x.span k && not (has (loaded_by a x.number) k)) (not (has a.held k))
    (and_from (span_has x.span k) (not (has (loaded_by a x.number) k)) inside (not_from_false (has (loaded_by a x.number) k) unloaded)) (not_from_false (has a.held k) unheld) in
    here w x.dest next w.carried u k ∙ installed k new ∙ chunks k key inside missing)

pub loads : {Row : Type 0} → LoadsByStep → NewIsHeldNowhere → LoadsWithRows Row
loads steps nowhere w i x a b rows next batch (Ok (LoadLoaded report)) reached stands is there chunks h installed others =
    moves_on w x.dest a b rows next w.world.chunks (LoadEvent i) (Some (Loaded report)) stands (kept a x rows next others)
    (brings nowhere w i x a rows next batch report reached stands there chunks installed) (steps w.world i x a b (Ok (LoadLoaded report)) stands.part is there h)
loads steps nowhere w i x a b rows next batch (Ok LoadAgain) reached stands is there chunks h installed others =
    moves_on w x.dest a b rows next w.world.chunks (LoadEvent i) (Some Again) stands (kept a x rows next others) (λ u. tt) (steps w.world i x a b (Ok LoadAgain) stands.part is there h)
loads steps nowhere w i x a b rows next batch (Err LoadNotOpen) reached stands is there chunks h installed others =
    moves_on w x.dest a b rows next w.world.chunks (LoadEvent i) (load_answer (Err LoadNotOpen)) stands (kept a x rows next others) (λ u. tt) (steps w.world i x a b (Err LoadNotOpen) stands.part is there h)
loads steps nowhere w i x a b rows next batch (Err LoadStranger) reached stands is there chunks h installed others =
    moves_on w x.dest a b rows next w.world.chunks (LoadEvent i) (load_answer (Err LoadStranger)) stands (kept a x rows next others) (λ u. tt) (steps w.world i x a b (Err LoadStranger) stands.part is there h)
loads steps nowhere w i x a b rows next batch (Err LoadNoMemory) reached stands is there chunks h installed others =
    still w x.dest a b rows next w.world.chunks stands (kept a x rows next others)
    (subst (λ c. PartStands w.world x.dest c w.world.chunks w.world) (sym h.1) (part_still w.world x.dest a stands.part))

-- ---- calls that leave rows alone

none_finished : {Row : Type 0} (w : RowsValue Row) (p s : ℕ) (v : WorldValue → RowsValue Row) (r : Result (ReportKind PlanPair) FinishFault) → MovesIn w (Finish p s) (finish_answer r) v
none_finished w p s v (Ok report) = λ u. tt
none_finished w p s v (Err f) = none_refused (finish_refusal f)
  where
    none_refused : (o : Option Refusal) → MovesIn w (Finish p s) (refused o) v
    none_refused None = tt
    none_refused (Some r) = λ u. tt

pub finishes : {Row : Type 0} → FinishesByStep → FinishesWithRows Row
finishes steps w p s a b rows r stands is h =
    moves_on w p a b rows rows w.world.chunks (Finish p s) (finish_answer r) stands (λ k key held. refl) (none_finished w p s (beside w p rows w.carried) r) (steps w.world p s a b r stands.part is h)

pub absorbs : {Row : Type 0} → AbsorbsByStep → AbsorbsWithRows Row
absorbs steps w p i a b rows said stands is board message h =
    moves_on w p a b rows rows w.world.chunks (Deliver i (Part p)) (Some Delivered) stands (λ k key held. refl) (λ u. tt) (steps w.world p i a b said stands.part is board message h)
