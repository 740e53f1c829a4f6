-- What comes of an entry at its node.
use Rattle.std.proofs.Common.{◌≡◌, ℕ, [], ◌∷◌, ◌++◌, List, refl, sym, ap, ◌∙◌, subst}
use Rattle.std.specs.Prelude.{None, Some}
use Rattle.std.specs.List.{slice_get}
use Rattle.squall_protocol.specs.Chunks.{ChunkValue}
use Rattle.squall_protocol.specs.declared.event.Node.{Node}
use Rattle.squall_protocol.specs.declared.event.Node.TheVariants.{Part}
use Rattle.squall_protocol.specs.declared.event.Event.{Event}
use Rattle.squall_protocol.specs.declared.event.Event.TheVariants.{Load}
use Rattle.squall_protocol.specs.declared.answer.Answer.{Answer}
use Rattle.squall_protocol.specs.declared.answer.Answer.TheVariants.{Gave, Refused}
use Rattle.squall_protocol.specs.declared.answer.Refusal.TheVariants.{NoSuch}
use Rattle.squall_protocol.specs.Worlds.{WorldValue}
use Rattle.squall_protocol.specs.Steps.{LoadStep, Step}
use Rattle.squall_protocol.specs.WorldLaws.{same_world}
use Rattle.squall_protocol.specs.ListLaws.{at_one}
use Rattle.squall_protocol.proofs.ProtocolLaws.{one_step}
use Rattle.squall_audit.specs.Apart.{IsAt}
use Rattle.squall_audit.specs.Lines.{Own, Gift, Arrival, IsNotYet}
use Rattle.squall_audit.specs.Logs.{Comes}
use Rattle.squall_audit.proofs.OneLine.{IsArrived, arrival_line, load_at}
use Rattle.squall_judge.specs.declared.turn.Turn.TheVariants.{Taken, Waits}
use Rattle.squall_judge.specs.Turns.{IsTurn, IsOther, IsDone, IsMade}
use Rattle.squall_judge.proofs.Events.{NotGiven, own_comes, gift_comes, own_done, gift_done, same_chunks, given_chunks}

-- ---- own events

pub own_waits : (w v : WorldValue) (m : Node) (e : Event) (a : Answer) (chunks : List ChunkValue) → IsMade w m e None v → chunks ≡ w.chunks → IsTurn w m (Own e a) Waits v chunks
own_waits w v m e a chunks made known = (made.0, (λ can. made.1 a can.0 (own_done w can.0 m e a can.1)), known ∙ ap (λ (z : WorldValue). z.chunks) (sym made.0))

pub gift_waits : (w v : WorldValue) (m : Node) (e : Event) (x : ChunkValue) (chunks : List ChunkValue) → IsMade w m e None v → chunks ≡ w.chunks → IsTurn w m (Gift e x) Waits v chunks
gift_waits w v m e x chunks made known =
    (made.0, (λ can. let done = gift_done w can.0 m e x can.1 in made.1 (Gave done.0 x) can.0 done.1), known ∙ ap (λ (z : WorldValue). z.chunks) (sym made.0))

pub own_taken : (w v : WorldValue) (m : Node) (e : Event) (a : Answer) (chunks : List ChunkValue) → IsDone w m e a v → NotGiven a → chunks ≡ w.chunks → IsTurn w m (Own e a) Taken v chunks
own_taken w v m e a chunks done never known = (own_comes w v m e a never done, known ∙ sym (same_chunks w v e a never done.step))

pub gift_taken : (w v : WorldValue) (m : Node) (e : Event) (i : ℕ) (x : ChunkValue) (chunks : List ChunkValue) → IsDone w m e (Gave i x) v → chunks ≡ w.chunks → IsTurn w m (Gift e x) Taken v (chunks ++ x ∷ [])
gift_taken w v m e i x chunks done known = (gift_comes w v m e i x done, ap (λ xs. xs ++ x ∷ []) known ∙ sym (given_chunks w v e i x done.step))

-- the event gave a chunk, or it was answered otherwise
pub own_gave : (w v : WorldValue) (m : Node) (e : Event) (a : Answer) (i : ℕ) (x : ChunkValue) → IsDone w m e (Gave i x) v → IsOther w m (Own e a)
own_gave w v m e a i x done = record { line = Gift e x; one = refl; other = never; comes = (v, gift_comes w v m e i x done) }
  where
    never : Gift e x ≡ Own e a → ⊥
    never h = cc

pub own_other : (w v : WorldValue) (m : Node) (e : Event) (a b : Answer) → IsDone w m e b v → NotGiven b → (b ≡ a → ⊥) → IsOther w m (Own e a)
own_other w v m e a b done never other = record { line = Own e b; one = refl; other = λ h. other (same h); comes = (v, own_comes w v m e b never done) }
  where
    same : Own e b ≡ Own e a → b ≡ a
    same h = cc

pub gift_own : (w v : WorldValue) (m : Node) (e : Event) (x : ChunkValue) (b : Answer) → IsDone w m e b v → NotGiven b → IsOther w m (Gift e x)
gift_own w v m e x b done never = record { line = Own e b; one = refl; other = apart; comes = (v, own_comes w v m e b never done) }
  where
    apart : Own e b ≡ Gift e x → ⊥
    apart h = cc

pub gift_other : (w v : WorldValue) (m : Node) (e : Event) (x : ChunkValue) (i : ℕ) (y : ChunkValue) → IsDone w m e (Gave i y) v → (y ≡ x → ⊥) → IsOther w m (Gift e x)
gift_other w v m e x i y done other = record { line = Gift e y; one = refl; other = λ h. other (same h); comes = (v, gift_comes w v m e i y done) }
  where
    same : Gift e y ≡ Gift e x → y ≡ x
    same h = cc

-- ---- arrivals

-- the chunk came so to its node, at some index
record IsLoad (w u : WorldValue) (m : Node) (x : ChunkValue) (a : Answer) : Type 0 where
  index : ℕ
  chunk : slice_get w.chunks index ≡ Some x
  place : m ≡ Part x.dest
  step : LoadStep w index a u
  there : a ≡ Refused NoSuch → ⊥

arrival_done : (w u : WorldValue) (m : Node) (x : ChunkValue) (a : Answer) → Comes w m (Arrival x a) u → IsLoad w u m x a
arrival_done w u m x a (quiet, h) =
    let y : IsArrived w x a h.event h.answer = arrival_line w u x a h.event h.answer h.step h.line in
    let at : (z : ChunkValue) × (slice_get w.chunks y.index ≡ Some z) × (m ≡ Part z.dest) = subst (λ f. IsAt w f m) y.event h.here in
    record {
      index = y.index;
      chunk = y.chunk;
      place = at.2 ∙ ap (λ (z : ChunkValue). Part z.dest) (at_one w.chunks y.index at.0 x at.1 y.chunk);
      step = subst (λ b. LoadStep w y.index b u) (sym y.answer) (subst (λ f. Step w f h.answer u) y.event h.step);
      there = λ is. h.there (subst (λ r. IsNotYet h.event r) (sym (sym y.answer ∙ is)) tt);
    }

not_yet_load : (i : ℕ) (a : Answer) → (a ≡ Refused NoSuch → ⊥) → IsNotYet (Load i) a → ⊥
not_yet_load i (Refused NoSuch) such y = such refl
not_yet_load i _ such y = y

load_comes : (w v : WorldValue) (m : Node) (x : ChunkValue) (i : ℕ) (a : Answer) → slice_get w.chunks i ≡ Some x → m ≡ Part x.dest → LoadStep w i a v → (a ≡ Refused NoSuch → ⊥) → Comes w m (Arrival x a) v
load_comes w v m x i a at is step such = (refl, record { event = Load i; answer = a; step = step; there = not_yet_load i a such; here = (x, at, is); line = (x, at, refl) })

pub arrival_elsewhere : (w : WorldValue) (m : Node) (x : ChunkValue) (a : Answer) (chunks : List ChunkValue) → (m ≡ Part x.dest → ⊥) → chunks ≡ w.chunks → IsTurn w m (Arrival x a) Waits w chunks
arrival_elsewhere w m x a chunks never known = (refl, (λ can. never (arrival_done w can.0 m x a can.1).place), known)

pub arrival_absent : (w : WorldValue) (m : Node) (x : ChunkValue) (a : Answer) (chunks : List ChunkValue) → ((i : ℕ) → slice_get chunks i ≡ Some x → ⊥) → chunks ≡ w.chunks → IsTurn w m (Arrival x a) Waits w chunks
arrival_absent w m x a chunks none known =
    (refl, (λ can. let d = arrival_done w can.0 m x a can.1 in none d.index (subst (λ xs. slice_get xs d.index ≡ Some x) (sym known) d.chunk)), known)

pub arrival_early : (w v : WorldValue) (m : Node) (x : ChunkValue) (a : Answer) (i : ℕ) (chunks : List ChunkValue) → slice_get chunks i ≡ Some x → chunks ≡ w.chunks → LoadStep w i (Refused NoSuch) v → IsTurn w m (Arrival x a) Waits v chunks
arrival_early w v m x a i chunks at known step = (same, (λ can. never can.0 (arrival_done w can.0 m x a can.1)), known ∙ ap (λ (z : WorldValue). z.chunks) (sym same))
  where
    same : v ≡ w
    same = same_world v w step.1

    here : slice_get w.chunks i ≡ Some x
    here = subst (λ xs. slice_get xs i ≡ Some x) known at

    never : (u : WorldValue) → IsLoad w u m x a → ⊥
    never u d = d.there (one_step w u v (Load i) a (Refused NoSuch) (load_at w u i d.index x here d.chunk a d.there d.step) step).0

not_gave : (w v : WorldValue) (i : ℕ) (a : Answer) → LoadStep w i a v → NotGiven a
not_gave w v i a step j x is = subst (λ b. LoadStep w i b v) is step

pub arrival_taken : (w v : WorldValue) (m : Node) (x : ChunkValue) (a : Answer) (i : ℕ) (chunks : List ChunkValue) → m ≡ Part x.dest → slice_get chunks i ≡ Some x → chunks ≡ w.chunks → LoadStep w i a v
    → (a ≡ Refused NoSuch → ⊥) → IsTurn w m (Arrival x a) Taken v chunks
arrival_taken w v m x a i chunks is at known step such =
    (load_comes w v m x i a (subst (λ xs. slice_get xs i ≡ Some x) known at) is step such, known ∙ sym (same_chunks w v (Load i) a (not_gave w v i a step) step))

pub arrival_other : (w v : WorldValue) (m : Node) (x : ChunkValue) (a b : Answer) (i : ℕ) (chunks : List ChunkValue) → m ≡ Part x.dest → slice_get chunks i ≡ Some x → chunks ≡ w.chunks → LoadStep w i b v
    → (b ≡ Refused NoSuch → ⊥) → (b ≡ a → ⊥) → IsOther w m (Arrival x a)
arrival_other w v m x a b i chunks is at known step such other =
    record { line = Arrival x b; one = refl; other = λ h. other (same h); comes = (v, load_comes w v m x i b (subst (λ xs. slice_get xs i ≡ Some x) known at) is step such) }
  where
    same : Arrival x b ≡ Arrival x a → b ≡ a
    same h = cc
