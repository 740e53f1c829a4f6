-- A loaded key lies in a chunk all of which is loaded.
use Rattle.std.proofs.Common.{◌≡◌, ◌⊎◌, ℕ, ◌==◌, ◌&&◌, ◌||◌, true, false, List, [], ◌∷◌, refl, sym, ◌∙◌, subst, inl, inr, ⊎_elim}
use Rattle.std.specs.Prelude.{Some, Bool}
use Rattle.std.specs.List.{slice_get}
use Rattle.std.proofs.lemmas.Bool.{and_parts, and_from, or_left, or_right, cases_Bool, both_ways, eqb-true}
use Rattle.squall_span.specs.Spans.{span_has}
use Rattle.squall_plan.specs.declared.range.PlanRange.{PlanRange}
use Rattle.squall_protocol.specs.Chunks.{ChunkValue}
use Rattle.squall_protocol.specs.declared.event.Event.{Event}
use Rattle.squall_protocol.specs.declared.event.Event.TheVariants.{OpenNext, Begin, BeginFrom, Close, Give, GiveAt, Load, Finish, Send, SendPart, Deliver, Route, Serve}
use Rattle.squall_protocol.specs.declared.answer.Answer.{Answer}
use Rattle.squall_protocol.specs.declared.answer.Answer.TheVariants.{Gave, Loaded, Again, Refused}
use Rattle.squall_protocol.specs.declared.answer.Refusal.TheVariants.{NoSuch, NotOpen, Ended, NothingLeft, ZeroMax, NotOutgoing, Given, NotHeld, Stranger}
use Rattle.squall_protocol.specs.Worlds.{WorldValue, SameWorld, start}
use Rattle.squall_protocol.specs.Steps.{after_give, after_load, GiveStep, GiveAtStep, LoadStep, Step, Run}
use Rattle.squall_protocol.specs.Promises.{IsReached}
use Rattle.squall_protocol.proofs.ProtocolLaws.{one_chunk}
use Rattle.squall_protocol.specs.ListLaws.{at_front, at_one}
use Rattle.squall_rows.specs.Whole.{ChunksLoadWhole}
use Rattle.squall_rows.proofs.Quiet.{Quiet, unchanged}
use Rattle.squall_rows.proofs.Plain.{open_quiet, begin_quiet, begin_from_quiet, close_quiet, finish_quiet, send_quiet, send_part_quiet, deliver_quiet, route_quiet, serve_quiet}

-- the chunk in which a loaded key came
record Came (w : WorldValue) (n q k : ℕ) : Type 0 where
  index : ℕ
  chunk : ChunkValue
  there : slice_get w.chunks index ≡ Some chunk
  number : chunk.number ≡ n
  dest : chunk.dest ≡ q
  inside : span_has chunk.span k ≡ true
  whole : (j : ℕ) → span_has chunk.span j ≡ true → w.loaded n q j ≡ true

abbrev AllCame : WorldValue → Type 0
AllCame w = (n q k : ℕ) → w.loaded n q k ≡ true → Came w n q k

-- ---- one step

quiet_came : (w v : WorldValue) → Quiet w v → AllCame w → AllCame v
quiet_came w v same all n q k h =
    let c : Came w n q k = all n q k (sym (same.loaded n q k) ∙ h) in
    record {
      index = c.index;
      chunk = c.chunk;
      there = subst (λ xs. slice_get xs c.index ≡ Some c.chunk) (sym same.chunks) c.there;
      number = c.number;
      dest = c.dest;
      inside = c.inside;
      whole = λ j has. same.loaded n q j ∙ c.whole j has;
    }

gave_came : (w v : WorldValue) (x : ChunkValue) → SameWorld v (after_give w x) → AllCame w → AllCame v
gave_came w v x same all n q k h =
    let c : Came w n q k = all n q k (sym (same.loaded n q k) ∙ h) in
    record {
      index = c.index;
      chunk = c.chunk;
      there = subst (λ xs. slice_get xs c.index ≡ Some c.chunk) (sym same.chunks) (at_front w.chunks (x ∷ []) c.index c.chunk c.there);
      number = c.number;
      dest = c.dest;
      inside = c.inside;
      whole = λ j has. same.loaded n q j ∙ c.whole j has;
    }

or_either : (a b : Bool) → (a || b) ≡ true → (a ≡ true) ⊎ (b ≡ true)
or_either true b e = inl refl
or_either false b e = inr e

loaded_came : (w v : WorldValue) (i : ℕ) (x : ChunkValue) → slice_get w.chunks i ≡ Some x → SameWorld v (after_load w x) → AllCame w → AllCame v
loaded_came w v i x there same all n q k h = ⊎_elim before now (or_either (w.loaded n q k) ((n == x.number) && ((q == x.dest) && span_has x.span k)) (sym (same.loaded n q k) ∙ h))
  where
    before : w.loaded n q k ≡ true → Came v n q k
    before old =
        let c : Came w n q k = all n q k old in
        record {
          index = c.index;
          chunk = c.chunk;
          there = subst (λ xs. slice_get xs c.index ≡ Some c.chunk) (sym same.chunks) c.there;
          number = c.number;
          dest = c.dest;
          inside = c.inside;
          whole = λ j has. same.loaded n q j ∙ or_left (w.loaded n q j) ((n == x.number) && ((q == x.dest) && span_has x.span j)) (c.whole j has);
        }

    now : ((n == x.number) && ((q == x.dest) && span_has x.span k)) ≡ true → Came v n q k
    now new =
        let a = and_parts (n == x.number) ((q == x.dest) && span_has x.span k) new in
        let b = and_parts (q == x.dest) (span_has x.span k) a.1 in
        record {
          index = i;
          chunk = x;
          there = subst (λ xs. slice_get xs i ≡ Some x) (sym same.chunks) there;
          number = sym (eqb-true n x.number a.0);
          dest = sym (eqb-true q x.dest b.0);
          inside = b.1;
          whole = λ j has. same.loaded n q j ∙ or_right (w.loaded n q j) ((n == x.number) && ((q == x.dest) && span_has x.span j))
              (and_from (n == x.number) ((q == x.dest) && span_has x.span j) a.0 (and_from (q == x.dest) (span_has x.span j) b.0 has));
        }

give_came : (w v : WorldValue) (p most : ℕ) (r : Answer) → GiveStep w p most r v → AllCame w → AllCame v
give_came w v p most (Gave i x) h all = gave_came w v x h.3 all
give_came w v p most (Refused NoSuch) h all = quiet_came w v (unchanged w v h.1) all
give_came w v p most (Refused NotOpen) h all = quiet_came w v (unchanged w v h.2) all
give_came w v p most (Refused Ended) h all = quiet_came w v (unchanged w v h.2) all
give_came w v p most (Refused NothingLeft) h all = quiet_came w v (unchanged w v h.2) all
give_came w v p most (Refused ZeroMax) h all = quiet_came w v (unchanged w v h.3) all
give_came w v p most _ h all = absurd h

give_at_came : (w v : WorldValue) (p k : ℕ) (r : Answer) → GiveAtStep w p k r v → AllCame w → AllCame v
give_at_came w v p k (Gave i x) h all = gave_came w v x h.3 all
give_at_came w v p k (Refused NoSuch) h all = quiet_came w v (unchanged w v h.1) all
give_at_came w v p k (Refused NotOpen) h all = quiet_came w v (unchanged w v h.2) all
give_at_came w v p k (Refused Ended) h all = quiet_came w v (unchanged w v h.2) all
give_at_came w v p k (Refused NotOutgoing) h all = quiet_came w v (unchanged w v h.2) all
give_at_came w v p k (Refused Given) h all = quiet_came w v (unchanged w v h.2) all
give_at_came w v p k (Refused NotHeld) h all = quiet_came w v (unchanged w v h.2) all
give_at_came w v p k _ h all = absurd h

load_came : (w v : WorldValue) (i : ℕ) (r : Answer) → LoadStep w i r v → AllCame w → AllCame v
load_came w v i (Loaded report) h all = loaded_came w v i h.0 h.1.chunk h.5 all
load_came w v i Again h all = quiet_came w v (unchanged w v h.1) all
load_came w v i (Refused NoSuch) h all = quiet_came w v (unchanged w v h.1) all
load_came w v i (Refused NotOpen) h all = quiet_came w v (unchanged w v h.1) all
load_came w v i (Refused Stranger) h all = quiet_came w v (unchanged w v h.1) all
load_came w v i _ h all = absurd h

step_came : (w v : WorldValue) (e : Event) (r : Answer) → Step w e r v → AllCame w → AllCame v
step_came w v OpenNext r h all = quiet_came w v (open_quiet w v r h) all
step_came w v (Begin plan) r h all = quiet_came w v (begin_quiet w v plan r h) all
step_came w v (BeginFrom old new) r h all = quiet_came w v (begin_from_quiet w v old new r h) all
step_came w v (Close p) r h all = quiet_came w v (close_quiet w v p r h) all
step_came w v (Give p most) r h all = give_came w v p most r h all
step_came w v (GiveAt p k) r h all = give_at_came w v p k r h all
step_came w v (Load i) r h all = load_came w v i r h all
step_came w v (Finish p s) r h all = quiet_came w v (finish_quiet w v p s r h) all
step_came w v (Send node) r h all = quiet_came w v (send_quiet w v node r h) all
step_came w v (SendPart node said) r h all = quiet_came w v (send_part_quiet w v node said r h) all
step_came w v (Deliver i node) r h all = quiet_came w v (deliver_quiet w v i node r h) all
step_came w v (Route x k) r h all = quiet_came w v (route_quiet w v x k r h) all
step_came w v (Serve p k after) r h all = quiet_came w v (serve_quiet w v p k after r h) all

-- ---- all steps

run_came : (w : WorldValue) (es : List Event) (rs : List Answer) (v : WorldValue) → Run w es rs v → AllCame w → AllCame v
run_came w [] [] v h all = quiet_came w v (unchanged w v h) all
run_came w (e ∷ es) (r ∷ rs) v h all = run_came h.0 es rs v h.2 (step_came w h.0 e r h.1 all)
run_came w [] (r ∷ rs) v h all = absurd h
run_came w (e ∷ es) [] v h all = absurd h

none_came : (old new : List PlanRange) (routers : ℕ) → AllCame (start old new routers)
none_came old new routers n q k h = absurd (both_ways false refl h)

came : (w : WorldValue) → IsReached w → AllCame w
came w reached = run_came (start reached.old reached.new reached.routers) reached.events reached.answers w reached.run (none_came reached.old reached.new reached.routers)

-- the chunk in which a key came is the one that has it
one_way : (w : WorldValue) (i j k : ℕ) (x : ChunkValue) → IsReached w → slice_get w.chunks i ≡ Some x → span_has x.span j ≡ true → span_has x.span k ≡ true
    → w.loaded x.number x.dest j ≡ true → w.loaded x.number x.dest k ≡ true
one_way w i j k x reached there has_j has_k h =
    let c : Came w x.number x.dest j = came w reached x.number x.dest j h in
    let at : c.index ≡ i = one_chunk w reached c.index i j c.chunk x c.there there c.number c.inside has_j in
    let same : c.chunk ≡ x = at_one w.chunks i c.chunk x (subst (λ n. slice_get w.chunks n ≡ Some c.chunk) at c.there) there in
    c.whole k (subst (λ (y : ChunkValue). span_has y.span k ≡ true) (sym same) has_k)

pub chunks_load_whole : ChunksLoadWhole
chunks_load_whole w i j k x reached there has_j has_k = ⊎_elim
    (λ (yes : w.loaded x.number x.dest j ≡ true). yes ∙ sym (one_way w i j k x reached there has_j has_k yes))
    (λ (no : w.loaded x.number x.dest j ≡ false). ⊎_elim
    (λ (other : w.loaded x.number x.dest k ≡ true). absurd (both_ways (w.loaded x.number x.dest j) no (one_way w i k j x reached there has_k has_j other)))
    (λ (none : w.loaded x.number x.dest k ≡ false). no ∙ sym none)
    (cases_Bool (w.loaded x.number x.dest k)))
    (cases_Bool (w.loaded x.number x.dest j))
