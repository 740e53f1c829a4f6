-- Whether chunks were loaded is noted rightly, whatever happens.
use Rattle.std.proofs.Common.{◌≡◌, ◌≢◌, ◌⊎◌, ℕ, ◌+◌, ◌==◌, ◌&&◌, ◌||◌, true, false, List, [], ◌∷◌, ◌++◌, length, refl, sym, subst, ◌∙◌, ⊎_elim}
use Rattle.std.specs.Prelude.{Some, Bool, map}
use Rattle.std.specs.List.{slice_get}
use Rattle.std.proofs.lemmas.Bool.{and_parts, and_from, or_left, or_right, or_cases, cases_Bool, cases_eq, both_ways, eqb-true, eq-eqb, false_from_ne_true}
use Rattle.std.proofs.lemmas.Option.{same_Some}
use Rattle.squall_span.specs.Spans.{span_has}
use Rattle.squall_store.specs.Memory.{Values}
use Rattle.squall_protocol.specs.Chunks.{ChunkValue}
use Rattle.squall_protocol.specs.Worlds.{WorldValue, SameWorld}
use Rattle.squall_protocol.specs.Steps.{after_give, after_load}
use Rattle.squall_protocol.specs.Promises.{IsReached}
use Rattle.squall_protocol.proofs.ProtocolLaws.{loaded_chunk, one_chunk}
use Rattle.squall_protocol.specs.ListLaws.{at_front, at_end, at_either}
use Rattle.squall_rows.proofs.Quiet.{Quiet}
use Rattle.squall_world_rows.specs.declared.sent.Sent.{Sent}
use Rattle.squall_world_rows.specs.Seen.{with_loaded}
use Rattle.squall_world_rows.proofs.Slots.{chunks_of, chunk_at, Before, slot_before}

-- of each chunk it is noted whether its keys are loaded
abbrev pub Noted : WorldValue → List Sent → Type 0
Noted w sent = (i k : ℕ) (s : Sent) → slice_get sent i ≡ Some s → span_has s.chunk.span k ≡ true → w.loaded s.chunk.number s.chunk.dest k ≡ s.loaded

pub quiet_noted : (w v : WorldValue) (sent : List Sent) → Quiet w v → Noted w sent → Noted v sent
quiet_noted w v sent q noted i k s there inside = q.loaded s.chunk.number s.chunk.dest k ∙ noted i k s there inside

-- ---- gifts

abbrev pub new_slot : ChunkValue → Values → Sent
new_slot x rows = record { chunk = x; rows = rows; loaded = false }

none_at_length : {A : Type 0} (xs : List A) (x : A) → slice_get xs (length xs) ≡ Some x → ⊥
none_at_length [] x e = cc
none_at_length (y ∷ xs) x e = none_at_length xs x e

-- no key of a chunk that is given is loaded
fresh : (w v : WorldValue) (x : ChunkValue) → IsReached w → IsReached v → SameWorld v (after_give w x) → (k : ℕ) → span_has x.span k ≡ true → w.loaded x.number x.dest k ≡ false
fresh w v x before after same k inside = false_from_ne_true (w.loaded x.number x.dest k) (λ loaded.
    let c = loaded_chunk w before x.number x.dest k loaded in
    let on_way = subst (λ xs. slice_get xs (length w.chunks) ≡ Some x) (sym same.chunks) (at_end w.chunks x) in
    let was = subst (λ xs. slice_get xs c.0 ≡ Some c.1) (sym same.chunks) (at_front w.chunks (x ∷ []) c.0 c.1 c.2) in
    let at : c.0 ≡ length w.chunks = one_chunk v after c.0 (length w.chunks) k c.1 x was on_way c.3 c.4 inside in
    none_at_length w.chunks c.1 (subst (λ n. slice_get w.chunks n ≡ Some c.1) at c.2))

pub gift_noted : (w v : WorldValue) (x : ChunkValue) (rows : Values) (sent : List Sent) → IsReached w → IsReached v → SameWorld v (after_give w x) → Noted w sent → Noted v (sent ++ new_slot x rows ∷ [])
gift_noted w v x rows sent before after same noted i k s there inside = ⊎_elim
    (λ (old : slice_get sent i ≡ Some s). same.loaded s.chunk.number s.chunk.dest k ∙ noted i k s old inside)
    (λ (new : (i ≡ length sent) × (new_slot x rows ≡ s)).
    let has = subst (λ (t : Sent). span_has t.chunk.span k ≡ true) (sym new.1) inside in
    subst (λ (t : Sent). v.loaded t.chunk.number t.chunk.dest k ≡ t.loaded) new.1 (same.loaded x.number x.dest k ∙ fresh w v x before after same k has))
    (at_either sent (new_slot x rows) i s there)

-- ---- loads

-- a key of another chunk is not loaded with this one
module _ (w : WorldValue) (reached : IsReached w) (i : ℕ) (x : ChunkValue) (there : slice_get w.chunks i ≡ Some x) where
  abbrev loads_now : ℕ → ℕ → ℕ → Bool
  loads_now n q k = (n == x.number) && ((q == x.dest) && span_has x.span k)

  other_chunk : (j k : ℕ) (y : ChunkValue) → slice_get w.chunks j ≡ Some y → span_has y.span k ≡ true → loads_now y.number y.dest k ≡ true → i ≡ j
  other_chunk j k y here inside now =
      let a = and_parts (y.number == x.number) ((y.dest == x.dest) && span_has x.span k) now in
      let b = and_parts (y.dest == x.dest) (span_has x.span k) a.1 in
      let number : x.number ≡ y.number = sym (eqb-true y.number x.number a.0) in
      one_chunk w reached i j k x y there here number b.1 inside

  itself_now : (k : ℕ) → span_has x.span k ≡ true → loads_now x.number x.dest k ≡ true
  itself_now k inside = and_from (x.number == x.number) ((x.dest == x.dest) && span_has x.span k) (eq-eqb x.number x.number refl) (and_from (x.dest == x.dest) (span_has x.span k) (eq-eqb x.dest x.dest refl) inside)

or_false : (a b : Bool) → b ≡ false → (a || b) ≡ a
or_false true b e = refl
or_false false b e = e

pub load_noted : (w v : WorldValue) (i : ℕ) (x : ChunkValue) (sent : List Sent) → IsReached w → slice_get w.chunks i ≡ Some x → chunks_of sent ≡ w.chunks → SameWorld v (after_load w x)
    → Noted w sent → Noted v (with_loaded i sent)
load_noted w v i x sent reached there chunks same noted j k s here inside = ⊎_elim itself other (cases_eq i j)
  where
    before : Before sent i j s
    before = slot_before i sent j s here

    has : span_has before.slot.chunk.span k ≡ true
    has = subst (λ (y : ChunkValue). span_has y.span k ≡ true) before.chunk inside

    at : slice_get w.chunks j ≡ Some before.slot.chunk
    at = chunk_at sent w.chunks chunks j before.slot before.there

    after : (b : Bool) → (w.loaded before.slot.chunk.number before.slot.chunk.dest k || loads_now w reached i x there before.slot.chunk.number before.slot.chunk.dest k) ≡ b → v.loaded s.chunk.number s.chunk.dest k ≡ b
    after b e = subst (λ (y : ChunkValue). v.loaded y.number y.dest k ≡ b) (sym before.chunk) (same.loaded before.slot.chunk.number before.slot.chunk.dest k ∙ e)

    itself : i ≡ j → v.loaded s.chunk.number s.chunk.dest k ≡ s.loaded
    itself is =
        let chunk : x ≡ before.slot.chunk = same_Some x before.slot.chunk (sym there ∙ subst (λ n. slice_get w.chunks n ≡ Some before.slot.chunk) (sym is) at) in
        let now = subst (λ (y : ChunkValue). loads_now w reached i x there y.number y.dest k ≡ true) chunk (itself_now w reached i x there k (subst (λ (y : ChunkValue). span_has y.span k ≡ true) (sym chunk) has)) in
        after true (or_right (w.loaded before.slot.chunk.number before.slot.chunk.dest k) (loads_now w reached i x there before.slot.chunk.number before.slot.chunk.dest k) now) ∙ sym (before.itself is)

    other : i ≢ j → v.loaded s.chunk.number s.chunk.dest k ≡ s.loaded
    other apart =
        let no = false_from_ne_true (loads_now w reached i x there before.slot.chunk.number before.slot.chunk.dest k) (λ now. apart (other_chunk w reached i x there j k before.slot.chunk at has now)) in
        after before.slot.loaded (or_false (w.loaded before.slot.chunk.number before.slot.chunk.dest k) (loads_now w reached i x there before.slot.chunk.number before.slot.chunk.dest k) no
        ∙ noted j k before.slot before.there has)
        ∙ sym (before.other apart)
