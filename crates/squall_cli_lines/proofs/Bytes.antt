-- What is known of bytes and counts over several reads and writes.
use Rattle.std.proofs.Common.{◌≡◌, ℕ, ◌+◌, ◌-◌, ◌<◌, ◌≤◌, List, ◌++◌, length, take, drop, Option, Result, Ok, Err, inl, inr, true, sym, subst, ◌∙◌, ap, arith, refl}
use Rattle.std.proofs.lemmas.List.{length-drop, drop-drop}
use Rattle.std.proofs.lemmas.Bool.{false≢true}
use Rattle.std.proofs.lemmas.Bool.Decides.{nat_tests}
use Rattle.std.specs.Prelude.{is_ok}
use Rattle.squall_cli_device.specs.Counts.{counted, is_idle, one_more, times_more, IsCountedSince}
use Rattle.squall_cli_device.specs.States.{SourceState, SinkState, NoReadFails, GaveAll, NoWriteFails}
use Rattle.squall_cli_lines.specs.declared.RunFault.{RunFault}
use Rattle.squall_cli_lines.specs.declared.RunFault.TheVariants.{Read, Write}
use Rattle.squall_cli_lines.specs.Script.{read_limit}
use Rattle.squall_cli_lines.specs.Heeding.{HeedsReads, HeedsWrites}
use Rattle.std.proofs.Math.Seq.{take-add}
use Rattle.std.proofs.KnownBytes.{Appends-trans}
use Rattle.std.specs.Io.KnownBytes.{Appends, IsAtEnd}

-- one more write
pub send_step : (a b c : Option (List ℕ)) (bytes rest next : List ℕ) (n : ℕ) → length rest ≤ length bytes → rest ≡ drop (length bytes - length rest) bytes → Appends a b (take (length bytes - length rest) bytes) → n ≤ length rest → Appends b c (take n rest) → next ≡ drop n rest → (length next ≤ length bytes) × (next ≡ drop (length bytes - length next) bytes) × Appends a c (take (length bytes - length next) bytes)
send_step a b c bytes rest next n within is sent less took next_is =
    let k = length bytes - length rest in
    let len : length next ≡ length rest - n = ap length next_is ∙ length-drop n rest in
    let far : length bytes - length next ≡ k + n = omega arith in
    let here : next ≡ drop (k + n) bytes = next_is ∙ ap (drop n) is ∙ drop-drop n k bytes in
    let both : take k bytes ++ take n rest ≡ take (k + n) bytes = ap (λ w. take k bytes ++ take n w) is ∙ sym (take-add k n bytes) in (
      omega arith,
      here ∙ ap (λ m. drop m bytes) (sym far),
      subst (λ w. Appends a c w) (both ∙ ap (λ m. take m bytes) (sym far)) (Appends-trans a b c _ _ sent took),
    )

-- a write that took some bytes is not counted as an empty one
pub not_idle : (room n m : ℕ) → (n ≡ 0 → ⊥) → counted (is_idle {E = Unit {0}} room (Ok n)) m ≡ m
not_idle room n m h = grind (arith, nat_tests)

-- one that was counted
pub counted_now : (n k m : ℕ) → m ≡ one_more k → k ≡ n → IsCountedSince n m
counted_now n k m is same = grind (arith, nat_tests)

pub idle_counted : (room n ends k m : ℕ) → 0 < room → n ≡ 0 → m ≡ counted (is_idle {E = Unit {0}} room (Ok n)) k → k ≡ ends → IsCountedSince ends m
idle_counted room n ends k m some none is same =
    let yes : is_idle {E = Unit {0}} room (Ok n) ≡ true = grind (arith, nat_tests) in
    counted_now ends k m (is ∙ ap (λ b. counted b k) yes) same

-- So many reads of one input were made, and none of them failed or found the end.
pub record IsReading (turn : ℕ) (old now : SourceState) : Type 0 where
  pub used : times_more turn old.reads ≤ now.reads
  pub reads : now.reads ≤ old.reads + turn
  pub faults : NoReadFails old now
  pub ends : now.ends ≡ old.ends

pub reading_start : (old : SourceState) → IsReading 0 old old
reading_start old = record { used = omega arith; reads = omega arith; faults = refl; ends = refl }

module _ (turn : ℕ) (old now next : SourceState) (i : IsReading turn old now) where
  -- a read that gave bytes
  pub reading_more : (room n : ℕ) → next.reads ≡ one_more now.reads → next.faults ≡ now.faults → next.ends ≡ counted (is_idle {E = Unit {0}} room (Ok n)) now.ends → (n ≡ 0 → ⊥)
      → IsReading (turn + 1) old next
  reading_more room n made kept ends some = record {
    used = omega (arith, i.used, made);
    reads = omega (arith, i.reads, made);
    faults = kept ∙ i.faults;
    ends = ends ∙ not_idle room n now.ends some ∙ i.ends;
  }

  -- one that found the end
  pub gave_all : (room n : ℕ) → 0 < room → n ≡ 0 → next.ends ≡ counted (is_idle {E = Unit {0}} room (Ok n)) now.ends → IsAtEnd next.remaining → GaveAll old next
  gave_all room n some none ends over = (idle_counted room n old.ends now.ends next.ends some none ends i.ends, over)

  module _ {T : Type 0} (below : turn < read_limit) (made : next.reads ≡ one_more now.reads) where
    -- one that failed
    pub heeds_fault : next.faults ≡ one_more now.faults → HeedsReads {T = T} (Err Read) old next
    heeds_fault failed = ((λ _. inl (counted_now old.faults now.faults next.faults failed i.faults)), (λ no. absurd (no refl)), omega (arith, i.reads, made))

    -- one that did not, before any other answer than `Read`
    pub heeds_other : (result : Result T RunFault) → (result ≡ Err Read → ⊥) → next.faults ≡ now.faults → HeedsReads result old next
    heeds_other result other kept = ((λ e. absurd (other e)), (λ _. kept ∙ i.faults), omega (arith, i.reads, made))

-- as many reads as there may be
pub heeds_limit : {T : Type 0} (turn : ℕ) (old now : SourceState) → IsReading turn old now → turn ≡ read_limit → HeedsReads {T = T} (Err Read) old now
heeds_limit turn old now i all = ((λ _. inr (omega (arith, i.used, all))), (λ no. absurd (no refl)), omega (arith, i.reads, all))

-- the error of another result is the same
pub error_is : {T U E : Type 0} (r : Result T E) (s : Result U E) (x y : E) → r ≡ Err x → r ≡ Err y → s ≡ Err x → s ≡ Err y
error_is r s x y p q t = let e : x ≡ y = cc in t ∙ ap Err e

-- what is fine is no error
pub fine_is_no_error : {T E : Type 0} (x : T) (y : E) → Ok x ≡ Err y → ⊥
fine_is_no_error x y e = false≢true (sym (ap is_ok e))

-- no write failed before, and what was told of those that followed holds of all
pub heeds_later : {T : Type 0} (result : Result T RunFault) (old now new : SinkState) → NoWriteFails old now → HeedsWrites result now new → HeedsWrites result old new
heeds_later result old now new kept h = (
  (λ e. rw (sym kept.0, sym kept.1) (h.0 e)),
  (λ no. let k = h.1 no in (k.0 ∙ kept.0, k.1 ∙ kept.1)),
)

-- a fault of another call is the same fault
pub heeds_passed : {T U : Type 0} (e : RunFault) (old new : SinkState) → HeedsWrites {T = T} (Err e) old new → HeedsWrites {T = U} (Err e) old new
heeds_passed e old new h = (
  (λ w. h.0 (error_is (Err e) (Err e) e Write refl w refl)),
  (λ no. h.1 (λ w. no (error_is (Err e) (Err e) e Write refl w refl))),
)
