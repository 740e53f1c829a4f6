-- Chunks that are kept: those of a world, one by one.
use Rattle.std.proofs.Common.{◌≡◌, ◌≢◌, ◌<◌, ℕ, zero, suc, true, get_or, set, length, List, [], ◌∷◌, ◌++◌, refl, sym, ap, subst, ◌∙◌, arith}
use Rattle.std.specs.Prelude.{Option, None, Some, map}
use Rattle.std.specs.Option.{option_map}
use Rattle.std.specs.List.{slice_get}
use Rattle.std.proofs.lemmas.Option.{slice_get-map, same_Some}
use Rattle.squall_protocol.specs.Chunks.{ChunkValue}
use Rattle.squall_protocol.specs.declared.answer.Answer.{Answer}
use Rattle.squall_protocol.specs.declared.answer.Answer.TheVariants.{Loaded}
use Rattle.squall_world_rows.specs.declared.sent.Sent.{Sent}
use Rattle.squall_world_rows.specs.Seen.{BytesRow, carried_by, with_loaded, sent_after}

abbrev pub chunks_of : List Sent → List ChunkValue
chunks_of sent = map (λ (s : Sent). s.chunk) sent

nothing : (i : ℕ) (s : Sent) → slice_get [] i ≡ Some s → ⊥
nothing i s e = cc

no_chunk : (i : ℕ) (x : ChunkValue) → slice_get [] i ≡ Some x → ⊥
no_chunk i x e = cc

-- the chunk that is kept at an index is the world's
pub chunk_at : (sent : List Sent) (chunks : List ChunkValue) → chunks_of sent ≡ chunks → (i : ℕ) (s : Sent) → slice_get sent i ≡ Some s → slice_get chunks i ≡ Some s.chunk
chunk_at sent chunks same i s there =
    subst (λ xs. slice_get xs i ≡ Some s.chunk) same (slice_get-map (λ (t : Sent). t.chunk) sent i ∙ ap (option_map (λ (t : Sent). t.chunk)) there)

pub record Slot (sent : List Sent) (i : ℕ) (x : ChunkValue) : Type 0 where
  pub slot : Sent
  pub there : slice_get sent i ≡ Some slot
  pub chunk : slot.chunk ≡ x

slot_in : (sent : List Sent) (i : ℕ) (x : ChunkValue) → slice_get (chunks_of sent) i ≡ Some x → Slot sent i x
slot_in [] i x e = absurd (no_chunk i x e)
slot_in (s ∷ sent) zero x e = record { slot = s; there = refl; chunk = same_Some s.chunk x e }
slot_in (s ∷ sent) (suc i) x e = let rest = slot_in sent i x e in record { slot = rest.slot; there = rest.there; chunk = rest.chunk }

-- each chunk of the world is kept
pub slot_at : (sent : List Sent) (chunks : List ChunkValue) → chunks_of sent ≡ chunks → (i : ℕ) (x : ChunkValue) → slice_get chunks i ≡ Some x → Slot sent i x
slot_at sent chunks same i x there = slot_in sent i x (subst (λ xs. slice_get xs i ≡ Some x) (sym same) there)

-- ---- a chunk that was loaded

loaded_length : (i : ℕ) (sent : List Sent) → length (with_loaded i sent) ≡ length sent
loaded_length i [] = refl
loaded_length zero (s ∷ sent) = refl
loaded_length (suc i) (s ∷ sent) = ap suc (loaded_length i sent)

-- an answer adds no chunk that is kept
pub sent_length : (a : Answer) (i : ℕ) (sent : List Sent) → length (sent_after a i sent) ≡ length sent
sent_length (Loaded report) i sent = loaded_length i sent
sent_length _ i sent = refl

pub loaded_chunks : (i : ℕ) (sent : List Sent) → chunks_of (with_loaded i sent) ≡ chunks_of sent
loaded_chunks i [] = refl
loaded_chunks zero (s ∷ sent) = refl
loaded_chunks (suc i) (s ∷ sent) = ap (λ xs. s.chunk ∷ xs) (loaded_chunks i sent)

-- the code puts the chunk back at its index
pub loaded_set : (i : ℕ) (sent : List Sent) (d : Sent) → i < length sent → set sent i (record (get_or sent i d) { loaded = true }) ≡ with_loaded i sent
loaded_set i [] d h = absurd (omega (arith, h))
loaded_set zero (t ∷ sent) d h = refl
loaded_set (suc i) (t ∷ sent) d h = ap (λ l. t ∷ l) (loaded_set i sent d (omega (arith, h)))

pub loaded_rows : (i : ℕ) (sent : List Sent) (j k : ℕ) → carried_by (slice_get (with_loaded i sent) j) k ≡ carried_by (slice_get sent j) k
loaded_rows i [] j k = refl
loaded_rows zero (s ∷ sent) zero k = refl
loaded_rows zero (s ∷ sent) (suc j) k = refl
loaded_rows (suc i) (s ∷ sent) zero k = refl
loaded_rows (suc i) (s ∷ sent) (suc j) k = loaded_rows i sent j k

-- what was kept before
pub record Before (sent : List Sent) (i j : ℕ) (s : Sent) : Type 0 where
  pub slot : Sent
  pub there : slice_get sent j ≡ Some slot
  pub chunk : s.chunk ≡ slot.chunk
  pub itself : i ≡ j → s.loaded ≡ true
  pub other : i ≢ j → s.loaded ≡ slot.loaded

pub slot_before : (i : ℕ) (sent : List Sent) (j : ℕ) (s : Sent) → slice_get (with_loaded i sent) j ≡ Some s → Before sent i j s
slot_before i [] j s e = absurd (nothing j s e)
slot_before zero (t ∷ sent) zero s e =
    let same = sym (same_Some (record t { loaded = true }) s e) in
    record { slot = t; there = refl; chunk = ap (λ (u : Sent). u.chunk) same; itself = λ h. ap (λ (u : Sent). u.loaded) same; other = λ h. absurd (h refl) }
slot_before zero (t ∷ sent) (suc j) s e = record { slot = s; there = e; chunk = refl; itself = λ h. absurd (omega (arith, h)); other = λ h. refl }
slot_before (suc i) (t ∷ sent) zero s e =
    let same = sym (same_Some t s e) in
    record { slot = t; there = refl; chunk = ap (λ (u : Sent). u.chunk) same; itself = λ h. absurd (omega (arith, h)); other = λ h. ap (λ (u : Sent). u.loaded) same }
slot_before (suc i) (t ∷ sent) (suc j) s e =
    let rest = slot_before i sent j s e in
    record { slot = rest.slot; there = rest.there; chunk = rest.chunk; itself = λ h. rest.itself (omega (arith, h)); other = λ h. rest.other (λ same. h (ap suc same)) }
