-- A world with rows in which one partition has other rows.
use Rattle.std.proofs.Common.{◌≡◌, ℕ, ◌<◌, ◌==◌, true, false, List, refl, sym, ◌∙◌, subst, if◌then◌else◌, ⊎_elim}
use Rattle.std.specs.Prelude.{Option, None, Some}
use Rattle.std.proofs.lemmas.Bool.{cases_Bool, cond-true, cond-false, eq-eqb, eqb-true}
use Rattle.squall_key.specs.Keys.{top}
use Rattle.squall_span.specs.Spans.{has}
use Rattle.squall_protocol.specs.Chunks.{ChunkValue}
use Rattle.squall_protocol.specs.declared.event.Node.TheVariants.{Part}
use Rattle.squall_protocol.specs.declared.event.Event.{Event}
use Rattle.squall_protocol.specs.declared.answer.Answer.{Answer}
use Rattle.squall_protocol.specs.Worlds.{WorldValue}
use Rattle.squall_part.specs.Parts.{PartValue}
use Rattle.squall_nodes.specs.Standing.{OthersStand, PartStands, Becomes}
use Rattle.squall_rows.specs.Rows.{RowsValue, KeepsStored}
use Rattle.squall_rows.specs.RowSteps.{MovesRows}
use Rattle.squall_store.specs.Acts.{StoreStandsFor, StoreStands, MovesOn}

-- values stand for other nodes in the same world as before
pub others_still : (w : WorldValue) (p : ℕ) → OthersStand w w (Part p)
others_still w p = record {
  parts = λ q a apart stands. stands;
  leader = λ l apart stands. stands;
  routers = λ r x apart stands. stands;
  absent = λ q apart gone. gone;
  first = refl;
}

module _ {Row : Type 0} (w : RowsValue Row) (p : ℕ) (next : ℕ → Row) (carried : ℕ → ℕ → Row) (u : WorldValue) where
  -- the partition has these rows, other partitions have theirs, and chunks carry these
  abbrev pub beside : RowsValue Row
  beside = record { world = u; stored = λ q k. if q == p then next k else w.stored q k; carried = carried }

  pub here : (k : ℕ) → beside.stored p k ≡ next k
  here k = cond-true (p == p) (next k) (w.stored p k) (eq-eqb p p refl)

  pub there : (q k : ℕ) → (q == p) ≡ false → beside.stored q k ≡ w.stored q k
  there q k apart = cond-false (q == p) (next k) (w.stored q k) apart

  -- a key that a partition holds keeps its row, if the store's keys do
  pub keeps : (a : PartValue) (rows : ℕ → Row) → StoreStandsFor w p a rows → ((k : ℕ) → k < top → has a.held k ≡ true → next k ≡ rows k) → KeepsStored w beside
  keeps a rows stands same q k key before after = ⊎_elim
      (λ (own : (q == p) ≡ true).
      let is : q ≡ p = eqb-true q p own in
      let held : has a.held k ≡ true = sym (stands.part.held k) ∙ subst (λ n. w.world.held n k ≡ true) is before in
      subst (λ n. beside.stored n k ≡ w.stored n k) (sym is) (here k ∙ same k key held ∙ sym (stands.stored k key held)))
      (λ (other : (q == p) ≡ false). there q k other)
      (cases_Bool (q == p))

  -- the store stands for the partition, if its partition does
  pub stand : (b : PartValue) (on_way : List ChunkValue) → PartStands w.world p b on_way u → StoreStands w p b next on_way beside
  stand b on_way stands = record {
    itself = record { part = stands.itself; stored = λ k key held. here k };
    others = stands.others;
    stores = λ q c rows apart other. record {
      part = stands.others.parts q c apart other.part;
      stored = λ k key held. there q k apart ∙ other.stored k key held;
    };
    chunks = stands.chunks;
    messages = stands.messages;
  }

-- rows move with the answer, if there is one
abbrev pub MovesIn : {Row : Type 0} → RowsValue Row → Event → Option Answer → (WorldValue → RowsValue Row) → Type 0
MovesIn w event None v = Unit {0}
MovesIn w event (Some answer) v = (u : WorldValue) → MovesRows w event answer (v u)

-- the store stands for its partition in the same world, if no key that it holds has another row
pub still : {Row : Type 0} (w : RowsValue Row) (p : ℕ) (a b : PartValue) (rows next : ℕ → Row) (on_way : List ChunkValue)
    → StoreStandsFor w p a rows → ((k : ℕ) → k < top → has a.held k ≡ true → next k ≡ rows k) → PartStands w.world p b on_way w.world → StoreStands w p b next on_way w
still w p a b rows next on_way stands same part = record {
  itself = record {
    part = part.itself;
    stored = λ k key held.
        let before : has a.held k ≡ true = sym (stands.part.held k) ∙ part.itself.held k ∙ held in
        stands.stored k key before ∙ sym (same k key before);
  };
  others = part.others;
  stores = λ q c others apart other. other;
  chunks = part.chunks;
  messages = part.messages;
}

-- what a call of the partition comes to is what the store's call comes to
pub moves_on : {Row : Type 0} (w : RowsValue Row) (p : ℕ) (a b : PartValue) (rows next : ℕ → Row) (on_way : List ChunkValue) (event : Event) (answer : Option Answer)
    → StoreStandsFor w p a rows → ((k : ℕ) → k < top → has a.held k ≡ true → next k ≡ rows k)
    → MovesIn w event answer (beside w p next w.carried) → Becomes w.world event answer (PartStands w.world p b on_way)
    → MovesOn w event answer (StoreStands w p b next on_way)
moves_on w p a b rows next on_way event None stands same moves h = still w p a b rows next on_way stands same h
moves_on w p a b rows next on_way event (Some answer) stands same moves h =
    let u = h.0 in
    (beside w p next w.carried u, (h.1, keeps w p next w.carried u a rows stands same, (λ i k x key inside flight. refl), moves u), stand w p next w.carried u b on_way h.2)
