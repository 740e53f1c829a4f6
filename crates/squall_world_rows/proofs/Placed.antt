-- Rows in a list, by the numbers of partitions.
use Rattle.std.proofs.Common.{◌≡◌, ◌≢◌, ◌<◌, ◌==◌, ◌&&◌, not, true, false, ℕ, zero, suc, List, [], ◌∷◌, ◌++◌, length, get_or, set, Some, Result, Ok, Err, IfOk, OnOk, OnErr, refl, sym, ap, subst, ◌∙◌, inl, inr}
use Rattle.std.specs.declared.alloc.AllocError.{AllocError}
use Rattle.std.proofs.lemmas.Bool.{and_parts, and_from, or_left, cases_eq, both_ways, eqb-true, eq-eqb, not-true, not_from_false, false_from_ne_true}
use Rattle.squall_span.specs.Spans.{Interval, has, span_has}
use Rattle.squall_store.specs.declared.command.Command.{Command}
use Rattle.squall_world_rows.specs.declared.sent.Sent.{Sent}
use Rattle.std.proofs.lemmas.List.{get_or-set_same, get_or-set_other}
use Rattle.std.proofs.lemmas.Option.{slice_get_read, get_or_from_slice_get}
use Rattle.squall_store.specs.Memory.{Values, value_at, run_on}
use Rattle.squall_world_rows.specs.Seen.{BytesRow, stored_in, carried_by, brings}

same_place : (rows : List Values) (p : ℕ) → get_or (rows ++ [] ∷ []) p [] ≡ get_or rows p []
same_place [] zero = refl
same_place [] (suc p) = refl
same_place (r ∷ rows) zero = refl
same_place (r ∷ rows) (suc p) = same_place rows p

-- a partition without rows is added at the end
pub grown : (rows : List Values) (p k : ℕ) → stored_in (rows ++ [] ∷ []) p k ≡ stored_in rows p k
grown rows p k = ap (λ (r : Values). value_at r k) (same_place rows p)

-- one partition has other rows
pub put_here : (rows : List Values) (p : ℕ) (r : Values) (k : ℕ) → p < length rows → stored_in (set rows p r) p k ≡ value_at r k
put_here rows p r k h = ap (λ (v : Values). value_at v k) (get_or-set_same rows p r [] h)

pub put_other : (rows : List Values) (p q : ℕ) (r : Values) (k : ℕ) → q ≢ p → stored_in (set rows p r) q k ≡ stored_in rows q k
put_other rows p q r k h = ap (λ (v : Values). value_at v k) (get_or-set_other rows p q r [] h)

-- what was read there
pub read_here : (rows : List Values) (p : ℕ) (r : Values) (k : ℕ) → p < length rows → r ≡ get_or rows p r → value_at r k ≡ stored_in rows p k
read_here rows p r k h e = sym (ap (λ (v : Values). value_at v k) (get_or_from_slice_get rows p r [] (slice_get_read rows (length rows) p r refl h e)))

-- ---- a command at one partition

-- the rows of the partition at its place were changed as the command says
pub record RanAt (rows next : List Values) (p k : ℕ) (command : Command) (r : Result BytesRow AllocError) : Type 0 where
  pub reply : IfOk r (λ reply. reply ≡ (run_on command (stored_in rows p k)).1)
  pub made : OnOk r (stored_in next p k ≡ (run_on command (stored_in rows p k)).0)
  pub err : OnErr r (stored_in next p k ≡ stored_in rows p k)
  pub others : (q j : ℕ) → ((q ≡ p) × (j ≡ k) → ⊥) → stored_in next q j ≡ stored_in rows q j

module _ (before rows : List Values) (same : (q j : ℕ) → stored_in rows q j ≡ stored_in before q j) (p : ℕ) (one other : Values) (low : p < length rows) (read : one ≡ get_or rows p one) where
  -- the row that was read there
  was : (k : ℕ) → value_at one k ≡ stored_in before p k
  was k = read_here rows p one k low read ∙ same p k

  pub ran_at : (k : ℕ) (command : Command) (r : Result BytesRow AllocError) → IfOk r (λ reply. reply ≡ (run_on command (value_at one k)).1) → OnOk r (value_at other k ≡ (run_on command (value_at one k)).0)
      → OnErr r (value_at other k ≡ value_at one k) → ((j : ℕ) → j ≢ k → value_at other j ≡ value_at one j) → RanAt before (set rows p other) p k command r
  ran_at k command r reply made err others = record {
    reply = subst (λ row. IfOk r (λ reply. reply ≡ (run_on command row).1)) (was k) reply;
    made = subst (λ row. OnOk r (stored_in (set rows p other) p k ≡ (run_on command row).0)) (was k) (subst (λ row. OnOk r (row ≡ (run_on command (value_at one k)).0)) (sym (put_here rows p other k low)) made);
    err = subst (λ row. OnErr r (stored_in (set rows p other) p k ≡ row)) (was k) (subst (λ row. OnErr r (row ≡ value_at one k)) (sym (put_here rows p other k low)) err);
    others = all_others;
  }
    where
      all_others : (q j : ℕ) → ((q ≡ p) × (j ≡ k) → ⊥) → stored_in (set rows p other) q j ≡ stored_in before q j
      all_others q j apart = elim (cases_eq q p) [
        | inl here ↦ subst (λ m. stored_in (set rows p other) m j ≡ stored_in before m j) (sym here) (put_here rows p other j low ∙ others j (λ e. apart (here, e)) ∙ was j)
        | inr there ↦ put_other rows p q other j there ∙ same q j
      ]

  -- ---- rows that are put in place

  pub put_inside : {A E : Type 0} (r : Result A E) (span : Interval) (batch : Values) → OnOk r ((k : ℕ) → has (span ∷ []) k ≡ true → value_at other k ≡ value_at batch k)
      → OnOk r ((k : ℕ) → span_has span k ≡ true → stored_in (set rows p other) p k ≡ value_at batch k)
  put_inside (Ok x) span batch h = λ k inside. put_here rows p other k low ∙ h k (or_left (span_has span k) (has [] k) inside)
  put_inside (Err e) span batch h = tt

  pub put_outside : (span : Interval) → ((k : ℕ) → has (span ∷ []) k ≡ false → value_at other k ≡ value_at one k) → (q k : ℕ) → ((q ≡ p) × (span_has span k ≡ true) → ⊥) → stored_in (set rows p other) q k ≡ stored_in before q k
  put_outside span h q k apart = elim (cases_eq q p) [
    | inl here ↦
        let no : span_has span k ≡ false = false_from_ne_true (span_has span k) (λ e. apart (here, e)) in
        subst (λ m. stored_in (set rows p other) m k ≡ stored_in before m k) (sym here) (put_here rows p other k low ∙ h k (rw no refl) ∙ was k)
    | inr there ↦ put_other rows p q other k there ∙ same q k
  ]

-- ---- the rows of a chunk

-- unless the chunk was loaded, its rows are put in place
pub brought : {A E : Type 0} (r : Result A E) (before rows : List Values) (s : Sent) → s.loaded ≡ false
    → OnOk r ((k : ℕ) → span_has s.chunk.span k ≡ true → stored_in rows s.chunk.dest k ≡ value_at s.rows k)
    → OnOk r ((p k : ℕ) → brings (Some s) p k ≡ true → stored_in rows p k ≡ carried_by (Some s) k)
brought (Ok x) before rows s new h = λ p k b.
    let here = and_parts (p == s.chunk.dest) (span_has s.chunk.span k) (and_parts (not s.loaded) ((p == s.chunk.dest) && span_has s.chunk.span k) b).1 in
    subst (λ m. stored_in rows m k ≡ value_at s.rows k) (sym (eqb-true p s.chunk.dest here.0)) (h k here.1)
brought (Err e) before rows s new h = tt

pub left_alone : (before rows : List Values) (s : Sent) → s.loaded ≡ false → ((p k : ℕ) → ((p ≡ s.chunk.dest) × (span_has s.chunk.span k ≡ true) → ⊥) → stored_in rows p k ≡ stored_in before p k)
    → (p k : ℕ) → brings (Some s) p k ≡ false → stored_in rows p k ≡ stored_in before p k
left_alone before rows s new h p k b = h p k (λ both. both_ways (brings (Some s) p k) b
    (and_from (not s.loaded) ((p == s.chunk.dest) && span_has s.chunk.span k) (not_from_false s.loaded new) (and_from (p == s.chunk.dest) (span_has s.chunk.span k) (eq-eqb p s.chunk.dest both.0) both.1)))

-- a chunk that was loaded brings nothing
pub brings_none : (s : Sent) (p k : ℕ) → s.loaded ≡ true → brings (Some s) p k ≡ true → ⊥
brings_none s p k old b = both_ways s.loaded (not-true s.loaded (and_parts (not s.loaded) ((p == s.chunk.dest) && span_has s.chunk.span k) b).0) old
