-- The map of a world with rows has of each key the row at its one carrier.
use Rattle.std.proofs.Common.{◌≡◌, ◌⊎◌, ℕ, zero, suc, ◌+◌, ◌<◌, ◌==◌, ◌&&◌, ◌||◌, not, true, false, List, [], ◌∷◌, refl, sym, ap, subst, ◌∙◌, ⊎_elim, arith, if◌then◌else◌}
use Rattle.std.specs.Prelude.{None, Some, nat_lt}
use Rattle.std.specs.List.{slice_get, list_any}
use Rattle.std.proofs.lemmas.Bool.{and_parts, and_from, or_cases, cases_Bool, cond-true, cond-false, both_ways, eqb-true, not-true, not_from_false, lt-ltb, ltb-true, false_from_ne_true}
use Rattle.squall_key.specs.Keys.{top}
use Rattle.squall_span.specs.Spans.{span_has}
use Rattle.squall_protocol.specs.Chunks.{ChunkValue}
use Rattle.squall_protocol.specs.Worlds.{WorldValue}
use Rattle.squall_protocol.specs.Promises.{IsReached, Carrier, Holder, Flight, Carries}
use Rattle.squall_protocol.proofs.ProtocolLaws.{one_carrier, holder_there}
use Rattle.squall_rows.specs.Rows.{RowsValue, carried_row}
use Rattle.squall_rows.proofs.Quiet.{HasRows}
use Rattle.squall_world_rows.specs.Seen.{BytesRow}
use Rattle.squall_world_rows.specs.Maps.{is_on_way, row_on_way, row_held, map_of}

apart : (q j : ℕ) → Holder q ≡ Flight j → ⊥
apart q j e = cc

nothing : (i : ℕ) (x : ChunkValue) → slice_get [] i ≡ Some x → ⊥
nothing i x e = cc

one_inside : (x y : ChunkValue) → Some x ≡ Some y → x ≡ y
one_inside x y e = cc

module _ (w : RowsValue BytesRow) (k : ℕ) (r : BytesRow) where
  -- each of these chunks that has the key on its way has this row
  abbrev AllFlying : ℕ → List ChunkValue → Type 0
  AllFlying n xs = (j : ℕ) (y : ChunkValue) → slice_get xs j ≡ Some y → is_on_way w.world k y ≡ true → w.carried (n + j) k ≡ r

  later : (n : ℕ) (y : ChunkValue) (xs : List ChunkValue) → AllFlying n (y ∷ xs) → AllFlying (n + 1) xs
  later n y xs all j z there flies =
      let moved : n + suc j ≡ (n + 1) + j = omega arith in subst (λ m. w.carried m k ≡ r) moved (all (suc j) z there flies)

  flying_first : (n : ℕ) (y : ChunkValue) (xs : List ChunkValue) → AllFlying n (y ∷ xs) → is_on_way w.world k y ≡ true → row_on_way w k n (y ∷ xs) ≡ r
  flying_first n y xs all flies =
      let moved : n + 0 ≡ n = omega arith in
      cond-true (is_on_way w.world k y) (w.carried n k) (row_on_way w k (n + 1) xs) flies ∙ subst (λ m. w.carried m k ≡ r) moved (all 0 y refl flies)

  -- a chunk that has the key on its way is found
  flight_found : (xs : List ChunkValue) (n i : ℕ) (x : ChunkValue) → slice_get xs i ≡ Some x → is_on_way w.world k x ≡ true → AllFlying n xs → row_on_way w k n xs ≡ r
  flight_found [] n i x there flies all = absurd (nothing i x there)
  flight_found (y ∷ xs) n zero x there flies all = flying_first n y xs all (subst (λ z. is_on_way w.world k z ≡ true) (sym (one_inside y x there)) flies)
  flight_found (y ∷ xs) n (suc i) x there flies all = ⊎_elim
      (λ (yes : is_on_way w.world k y ≡ true). flying_first n y xs all yes)
      (λ (rests : is_on_way w.world k y ≡ false).
      cond-false (is_on_way w.world k y) (w.carried n k) (row_on_way w k (n + 1) xs) rests ∙ flight_found xs (n + 1) i x there flies (later n y xs all))
      (cases_Bool (is_on_way w.world k y))

  -- a partition that holds the key is found
  holder_found : (ps : List ℕ) (p : ℕ) → list_any (λ q. q == p) ps ≡ true → w.world.held p k ≡ true → ((q : ℕ) → w.world.held q k ≡ true → w.stored q k ≡ r) → row_held w k ps ≡ r
  holder_found [] p there held all = absurd (both_ways false refl there)
  holder_found (q ∷ ps) p there held all = ⊎_elim
      (λ (yes : w.world.held q k ≡ true). cond-true (w.world.held q k) (w.stored q k) (row_held w k ps) yes ∙ all q yes)
      (λ (none : w.world.held q k ≡ false). cond-false (w.world.held q k) (w.stored q k) (row_held w k ps) none ∙ holder_found ps p (elsewhere none) held all)
      (cases_Bool (w.world.held q k))
    where
      elsewhere : w.world.held q k ≡ false → list_any (λ m. m == p) ps ≡ true
      elsewhere none = ⊎_elim
          (λ (same : (q == p) ≡ true). absurd (both_ways (w.world.held q k) none (subst (λ m. w.world.held m k ≡ true) (sym (eqb-true q p same)) held)))
          (λ (rest : list_any (λ m. m == p) ps ≡ true). rest)
          (or_cases (q == p) (list_any (λ m. m == p) ps) there)

  -- if no partition holds the key, it is on its way
  none_holds : (ps : List ℕ) → ((q : ℕ) → w.world.held q k ≡ false) → row_held w k ps ≡ row_on_way w k 0 w.world.chunks
  none_holds [] none = refl
  none_holds (q ∷ ps) none = cond-false (w.world.held q k) (w.stored q k) (row_held w k ps) (none q) ∙ none_holds ps none

  -- whatever carries the key has the row, so the map has it
  found : IsReached w.world → k < top → ((y : Carrier) → Carries w.world k y → carried_row w y k ≡ r) → (x : Carrier) → Carries w.world k x → ((y : Carrier) → Carries w.world k y → y ≡ x)
      → row_held w k w.world.parts ≡ r
  found reached key all (Holder p) c only = holder_found w.world.parts p (holder_there w.world reached p k key c) c (λ q held. all (Holder q) held)
  found reached key all (Flight i) c only =
      none_holds w.world.parts (λ q. false_from_ne_true (w.world.held q k) (λ held. apart q i (only (Holder q) held)))
      ∙ flight_found w.world.chunks 0 i c.0 c.1 (and_from (span_has c.0.span k) (not (w.world.loaded c.0.number c.0.dest k)) c.2.0 (not_from_false (w.world.loaded c.0.number c.0.dest k) c.2.1))
      (λ j y there flies.
      let both = and_parts (span_has y.span k) (not (w.world.loaded y.number y.dest k)) flies in
      let same : j ≡ 0 + j = omega arith in
      subst (λ m. w.carried m k ≡ r) same (all (Flight j) (y, there, (both.0, not-true (w.world.loaded y.number y.dest k) both.1))))

-- ---- the map

-- if whatever carries a key has a map's row of it, and a number that is no key has none in it, then that is the map of the world
pub map_is : (w : RowsValue BytesRow) (m : ℕ → BytesRow) → IsReached w.world → HasRows w m → ((k : ℕ) → nat_lt k top ≡ false → m k ≡ None) → map_of w ≡ m
map_is w m reached rows beyond = λ i. λ k. each k i
  where
    each : (k : ℕ) → map_of w k ≡ m k
    each k = ⊎_elim
        (λ (key : nat_lt k top ≡ true).
        let only = one_carrier w.world reached k (ltb-true k top key) in
        cond-true (nat_lt k top) (row_held w k w.world.parts) None key
        ∙ found w k (m k) reached (ltb-true k top key) (rows k (ltb-true k top key)) only.0 only.1 only.2)
        (λ (past : nat_lt k top ≡ false). cond-false (nat_lt k top) (row_held w k w.world.parts) None past ∙ sym (beyond k past))
        (cases_Bool (nat_lt k top))

-- a number that is no key has no row
pub beyond_keys : (w : RowsValue BytesRow) (k : ℕ) → nat_lt k top ≡ false → map_of w k ≡ None
beyond_keys w k past = cond-false (nat_lt k top) (row_held w k w.world.parts) None past

-- whatever carries a key has the map's row of it
pub has_map : (w : RowsValue BytesRow) → IsReached w.world → HasRows w (map_of w)
has_map w reached k key y c =
    let only = one_carrier w.world reached k key in
    let same : (z : Carrier) → Carries w.world k z → carried_row w z k ≡ carried_row w y k = λ z d. ap (λ x. carried_row w x k) (only.2 z d ∙ sym (only.2 y c)) in
    sym (cond-true (nat_lt k top) (row_held w k w.world.parts) None (lt-ltb k top key)
    ∙ found w k (carried_row w y k) reached key same only.0 only.1 only.2)
