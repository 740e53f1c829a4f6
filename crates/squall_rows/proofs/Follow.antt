-- To each step of the protocol there is one with rows.
use Rattle.std.proofs.Common.{◌≡◌, ℕ, ◌<◌, ◌==◌, ◌&&◌, not, true, false, List, [], ◌∷◌, length, refl, sym, ◌∙◌, subst, ⊎_elim, if◌then◌else◌}
use Rattle.std.specs.Prelude.{Some, Bool}
use Rattle.std.specs.List.{slice_get}
use Rattle.std.proofs.lemmas.Bool.{and_parts, and_from, cases_Bool, eqb-true, eq-eqb, ne_eqb, not-true, not_from_false, cond-true, cond-false, both_ways, false_from_ne_true}
use Rattle.squall_key.specs.Keys.{top}
use Rattle.squall_span.specs.Spans.{span_has}
use Rattle.squall_protocol.specs.Chunks.{ChunkValue}
use Rattle.squall_protocol.specs.declared.event.Event.{Event}
use Rattle.squall_protocol.specs.declared.event.Event.TheVariants.{OpenNext, Begin, BeginFrom, Close, Give, GiveAt, Load, Finish, Send, SendPart, Deliver, Route, Serve}
use Rattle.squall_protocol.specs.declared.answer.Answer.{Answer}
use Rattle.squall_protocol.specs.declared.answer.Answer.TheVariants.{Gave, Loaded, Again, Refused}
use Rattle.squall_protocol.specs.Worlds.{WorldValue}
use Rattle.squall_protocol.specs.Steps.{Step, GiveStep, GiveAtStep, LoadStep}
use Rattle.squall_protocol.specs.Promises.{Holder, Flight, OneCarrier}
use Rattle.squall_protocol.specs.ListLaws.{at_one}
use Rattle.squall_rows.specs.Rows.{RowsValue, KeepsStored, KeepsCarried}
use Rattle.squall_rows.specs.RowSteps.{TakesRows, InstallsRows, KeepsOthers, PlainStep}
use Rattle.squall_rows.specs.Follows.{RowsFollow, CommandsFollow, NewIsHeldNowhere}
use Rattle.squall_rows.proofs.OneMap.{Promised}

-- a list has nothing at its length
none_at_length : {A : Type 0} (xs : List A) (x : A) → slice_get xs (length xs) ≡ Some x → ⊥
none_at_length [] x e = cc
none_at_length (y ∷ xs) x e = none_at_length xs x e

apart : (q j : ℕ) → Holder q ≡ Flight j → ⊥
apart q j e = cc

-- a key in flight is held by no partition
held_nowhere : (w : WorldValue) → OneCarrier w → (i p k : ℕ) (x : ChunkValue) → k < top → slice_get w.chunks i ≡ Some x → span_has x.span k ≡ true → w.loaded x.number x.dest k ≡ false → w.held p k ≡ false
held_nowhere w one i p k x key there inside missing = false_from_ne_true (w.held p k) (λ held.
    let only = one k key in
    apart p i (only.2 (Holder p) held ∙ sym (only.2 (Flight i) (x, there, (inside, missing)))))

pub new_is_held_nowhere : Promised → NewIsHeldNowhere
new_is_held_nowhere one w i p k x reached key there inside missing = held_nowhere w (one w reached) i p k x key there inside missing

module _ {Row : Type 0} (w : RowsValue Row) (u : WorldValue) where
  -- the rows stay
  abbrev still : RowsValue Row
  still = record { world = u; stored = w.stored; carried = w.carried }

  stays : KeepsStored w still
  stays p k key before after = refl

  flies : KeepsCarried w still
  flies i k x key there flight = refl

  -- a chunk takes its source's rows
  abbrev given : ℕ → ChunkValue → RowsValue Row
  given i x = record { world = u; stored = w.stored; carried = λ j k. if j == i then w.stored x.source k else w.carried j k }

  given_flies : (i : ℕ) (x : ChunkValue) → i ≡ length w.world.chunks → KeepsCarried w (given i x)
  given_flies i x new j k y key there flight =
      cond-false (j == i) (w.stored x.source k) (w.carried j k) (ne_eqb j i (λ same. none_at_length w.world.chunks y (subst (λ n. slice_get w.world.chunks n ≡ Some y) (same ∙ new) there)))

  given_takes : (i : ℕ) (x : ChunkValue) → TakesRows w i x (given i x)
  given_takes i x k key inside = cond-true (i == i) (w.stored x.source k) (w.carried i k) (eq-eqb i i refl)

  -- a destination installs the rows of the keys that are new
  abbrev is_new : ChunkValue → ℕ → ℕ → Bool
  is_new x p k = (p == x.dest) && (span_has x.span k && not (w.world.loaded x.number x.dest k))

  abbrev installed : ℕ → ChunkValue → RowsValue Row
  installed i x = record { world = u; stored = λ p k. if is_new x p k then w.carried i k else w.stored p k; carried = w.carried }

  -- a key that is new is in flight, so no partition holds it
  installed_stays : OneCarrier w.world → (i : ℕ) (x : ChunkValue) → slice_get w.world.chunks i ≡ Some x → KeepsStored w (installed i x)
  installed_stays one i x there p k key before after = ⊎_elim
      (λ (new : is_new x p k ≡ true).
      let here = and_parts (p == x.dest) (span_has x.span k && not (w.world.loaded x.number x.dest k)) new in
      let fresh = and_parts (span_has x.span k) (not (w.world.loaded x.number x.dest k)) here.1 in
      absurd (both_ways (w.world.held p k) (held_nowhere w.world one i p k x key there fresh.0 (not-true (w.world.loaded x.number x.dest k) fresh.1)) before))
      (λ (old : is_new x p k ≡ false). cond-false (is_new x p k) (w.carried i k) (w.stored p k) old)
      (cases_Bool (is_new x p k))

  installed_installs : (i : ℕ) (x : ChunkValue) → InstallsRows w i x (installed i x)
  installed_installs i x k key inside missing =
      cond-true (is_new x x.dest k) (w.carried i k) (w.stored x.dest k)
      (and_from (x.dest == x.dest) (span_has x.span k && not (w.world.loaded x.number x.dest k)) (eq-eqb x.dest x.dest refl)
      (and_from (span_has x.span k) (not (w.world.loaded x.number x.dest k)) inside (not_from_false (w.world.loaded x.number x.dest k) missing)))

  -- ---- each event

  abbrev Follows : Event → Answer → Type 0
  Follows e a = (v : RowsValue Row) × (v.world ≡ u) × PlainStep w e a v

  give_follows : (p most : ℕ) (a : Answer) → GiveStep w.world p most a u → Follows (Give p most) a
  give_follows p most (Gave i x) h = (given i x, refl, (h, (λ q k key before after. refl), given_flies i x h.1, given_takes i x))
  give_follows p most (Refused r) h = (still, refl, (h, stays, flies, tt))
  give_follows p most _ h = absurd h

  give_at_follows : (p k : ℕ) (a : Answer) → GiveAtStep w.world p k a u → Follows (GiveAt p k) a
  give_at_follows p k (Gave i x) h = (given i x, refl, (h, (λ q j key before after. refl), given_flies i x h.1, given_takes i x))
  give_at_follows p k (Refused r) h = (still, refl, (h, stays, flies, tt))
  give_at_follows p k _ h = absurd h

  load_follows : OneCarrier w.world → (i : ℕ) (a : Answer) → LoadStep w.world i a u → Follows (Load i) a
  load_follows one i (Loaded report) h =
      let x : ChunkValue = h.0 in (
        installed i x,
        refl,
        (
          h,
          installed_stays one i x h.1.chunk,
          (λ j k y key there flight. refl),
          (λ y there. subst (λ z. InstallsRows w i z (installed i x)) (at_one w.world.chunks i x y h.1.chunk there) (installed_installs i x)),
        ),
      )
  load_follows one i Again h = (still, refl, (h, stays, flies, tt))
  load_follows one i (Refused r) h = (still, refl, (h, stays, flies, tt))
  load_follows one i _ h = absurd h

  follows : OneCarrier w.world → (e : Event) (a : Answer) → Step w.world e a u → Follows e a
  follows one OpenNext a h = (still, refl, (h, stays, flies, tt))
  follows one (Begin plan) a h = (still, refl, (h, stays, flies, tt))
  follows one (BeginFrom old new) a h = (still, refl, (h, stays, flies, tt))
  follows one (Close p) a h = (still, refl, (h, stays, flies, tt))
  follows one (Give p most) a h = give_follows p most a h
  follows one (GiveAt p k) a h = give_at_follows p k a h
  follows one (Load i) a h = load_follows one i a h
  follows one (Finish p s) a h = (still, refl, (h, stays, flies, tt))
  follows one (Send node) a h = (still, refl, (h, stays, flies, tt))
  follows one (SendPart node said) a h = (still, refl, (h, stays, flies, tt))
  follows one (Deliver i node) a h = (still, refl, (h, stays, flies, tt))
  follows one (Route x k) a h = (still, refl, (h, stays, flies, tt))
  follows one (Serve p k after) a h = (still, refl, (h, stays, flies, tt))

pub rows_follow : {Row : Type 0} → Promised → RowsFollow Row
rows_follow one w e a u reached step = follows w u (one w.world reached) e a step

-- ---- commands

module _ {Row Command Reply : Type 0} (run : Command → Row → Row × Reply) (w : RowsValue Row) (u : WorldValue) (p k : ℕ) (command : Command) where
  abbrev here : ℕ → ℕ → Bool
  here q j = (q == p) && (j == k)

  -- the row of the one key at the one partition is another
  abbrev ran : RowsValue Row
  ran = record { world = u; stored = λ q j. if here q j then (run command (w.stored p k)).0 else w.stored q j; carried = w.carried }

  ran_stored : ran.stored p k ≡ (run command (w.stored p k)).0
  ran_stored = cond-true (here p k) (run command (w.stored p k)).0 (w.stored p k) (and_from (p == p) (k == k) (eq-eqb p p refl) (eq-eqb k k refl))

  ran_others : KeepsOthers p k w ran
  ran_others q j below held other = ⊎_elim
      (λ (same : here q j ≡ true). let both = and_parts (q == p) (j == k) same in absurd (other (eqb-true q p both.0, eqb-true j k both.1)))
      (λ (differs : here q j ≡ false). cond-false (here q j) (run command (w.stored p k)).0 (w.stored q j) differs)
      (cases_Bool (here q j))

  ran_flies : KeepsCarried w ran
  ran_flies i j x below there flight = refl

pub commands_follow : {Row Command Reply : Type 0} (run : Command → Row → Row × Reply) → CommandsFollow run
commands_follow run w p k after command u key step = (
  ran run w u p k command,
  refl,
  ((run command (w.stored p k)).1, (key, step, ran_stored run w u p k command, refl, ran_others run w u p k command, ran_flies run w u p k command)),
)
