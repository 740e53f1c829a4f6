-- A partition that gave holds no key that it did not hold.
use Rattle.std.proofs.Common.{◌≡◌, ℕ, Bool, true, false, [], ◌∷◌, Ok, refl, sym, ap, ◌∙◌}
use Rattle.std.specs.Prelude.{◌&&◌, not}
use Rattle.squall_span.specs.Spans.{Interval, has}
use Rattle.squall_span.specs.SpanLaws.{has-minus}
use Rattle.squall_protocol.specs.Chunks.{ChunkValue}
use Rattle.squall_part.specs.Parts.{PartValue, IsPart}
use Rattle.squall_part.specs.Giving.{after_giving, IsGiven, IsGivenAt}
use Rattle.squall_replay.specs.declared.call.Call.TheVariants.{Give as GiveCall, GiveAt as GiveAtCall}
use Rattle.squall_replay.specs.declared.call.Answer.TheVariants.{Gave}
use Rattle.squall_store.specs.Memory.{Values, value_at}
use Rattle.squall_store_log.specs.Steps.{Rows, Calls}

first_of_both : (a b : Bool) → (a && b) ≡ true → a ≡ true
first_of_both true b e = refl
first_of_both false b e = absurd cc

pub held_before : (p q : PartValue) (s : Interval) → q ≡ after_giving p s → (k : ℕ) → has q.held k ≡ true → has p.held k ≡ true
held_before p q s e k h =
    first_of_both (has p.held k) (not (has (s ∷ []) k)) (sym (has-minus p.held (s ∷ []) k) ∙ ap (λ (x : PartValue). has x.held k) (sym e) ∙ h)

pub gave : (s t : Rows) (most : ℕ) (c : ChunkValue) → IsGiven s.part most (Ok c) t.part → IsPart t.part → t.rows ≡ s.rows → Calls s (GiveCall most) (Gave c) t
gave s t most c given left same = record {
  happens = given;
  left = left;
  held = held_before s.part t.part c.span given.4;
  rows = λ k h. ap (λ (r : Values). value_at r k) same;
}

pub gave_at : (s t : Rows) (key : ℕ) (c : ChunkValue) → IsGivenAt s.part key (Ok c) t.part → IsPart t.part → t.rows ≡ s.rows → Calls s (GiveAtCall key) (Gave c) t
gave_at s t key c given left same = record {
  happens = given;
  left = left;
  held = held_before s.part t.part c.span given.7;
  rows = λ k h. ap (λ (r : Values). value_at r k) same;
}
