-- Events that are written as they are: where they happen, what is written, and what they leave.
use Rattle.std.proofs.Common.{◌≡◌, ℕ, [], ◌∷◌, ◌++◌, false, refl, sym, ap, subst, true≢false}
use Rattle.std.specs.Prelude.{Some}
use Rattle.squall_report.specs.Queries.{Queries}
use Rattle.squall_protocol.specs.Chunks.{ChunkValue}
use Rattle.squall_protocol.specs.declared.event.Node.{Node}
use Rattle.squall_protocol.specs.declared.event.Node.TheVariants.{Leader, Part, Router}
use Rattle.squall_protocol.specs.declared.event.Event.{Event}
use Rattle.squall_protocol.specs.declared.event.Event.TheVariants.{OpenNext, Begin, BeginFrom, Close, Give, GiveAt, Load, Finish, Send, SendPart, Deliver, Route, Serve}
use Rattle.squall_protocol.specs.declared.answer.Answer.{Answer}
use Rattle.squall_protocol.specs.declared.answer.Answer.TheVariants.{Opened, Begun, Closed, Gave, Loaded, Again, Finished, Sent, Delivered, Routed, Served, Refused}
use Rattle.squall_protocol.specs.declared.answer.Refusal.TheVariants.{NoSuch, NotDone, NoMore, Running, NoNumber, NotOpen, Ended, NothingLeft, ZeroMax, NotOutgoing, Given, NotHeld, Stranger, NotAll, NothingDue, NotKnown}
use Rattle.squall_protocol.specs.Worlds.{WorldValue}
use Rattle.squall_protocol.specs.Steps.{Step}
use Rattle.squall_protocol.specs.WorldLaws.{same_world}
use Rattle.squall_protocol.proofs.ProtocolLaws.{one_step}
use Rattle.squall_audit.specs.Apart.{IsAt}
use Rattle.squall_audit.specs.Lines.{Line, Own, Gift, Arrival, Hearing, IsLine, IsNotYet}
use Rattle.squall_audit.specs.Logs.{is_sent, Comes}
use Rattle.squall_audit.proofs.OneLine.{IsOwn, IsGiven, own_line, gift_line}
use Rattle.squall_judge.specs.Turns.{place_of, IsDone}

-- ---- where it happens

same_some : (m n : Node) → Some m ≡ Some n → m ≡ n
same_some m n h = cc

at_place : (w : WorldValue) (e : Event) (m : Node) → place_of e ≡ Some m → IsAt w e m
at_place w OpenNext m h = sym (same_some Leader m h)
at_place w (Begin plan) m h = sym (same_some Leader m h)
at_place w (BeginFrom old new) m h = sym (same_some Leader m h)
at_place w (Close p) m h = sym (same_some (Part p) m h)
at_place w (Give p most) m h = sym (same_some (Part p) m h)
at_place w (GiveAt p k) m h = sym (same_some (Part p) m h)
at_place w (Load i) m h = absurd (cc)
at_place w (Finish p s) m h = sym (same_some (Part p) m h)
at_place w (Send node) m h = absurd (cc)
at_place w (SendPart node said) m h = absurd (cc)
at_place w (Deliver i node) m h = absurd (cc)
at_place w (Route r k) m h = sym (same_some (Router r) m h)
at_place w (Serve p k after) m h = sym (same_some (Part p) m h)

is_quiet : (e : Event) (a : Answer) (m : Node) → place_of e ≡ Some m → is_sent (Own e a) ≡ false
is_quiet OpenNext a m h = refl
is_quiet (Begin plan) a m h = refl
is_quiet (BeginFrom old new) a m h = refl
is_quiet (Close p) a m h = refl
is_quiet (Give p most) a m h = refl
is_quiet (GiveAt p k) a m h = refl
is_quiet (Load i) a m h = refl
is_quiet (Finish p s) a m h = refl
is_quiet (Send node) a m h = refl
is_quiet (SendPart node said) a m h = absurd (cc)
is_quiet (Deliver i node) a m h = refl
is_quiet (Route r k) a m h = refl
is_quiet (Serve p k after) a m h = refl

-- ---- what is written

-- nothing was given
abbrev pub NotGiven : Answer → Type 0
NotGiven a = (i : ℕ) (x : ChunkValue) → a ≡ Gave i x → ⊥

is_own : (w : WorldValue) (e : Event) (a : Answer) (m : Node) → place_of e ≡ Some m → NotGiven a → IsLine w e a (Own e a)
is_own w OpenNext a m h never = refl
is_own w (Begin plan) a m h never = refl
is_own w (BeginFrom old new) a m h never = refl
is_own w (Close p) a m h never = refl
is_own w (Give p most) (Gave i x) m h never = absurd (never i x refl)
is_own w (Give p most) _ m h never = refl
is_own w (GiveAt p k) (Gave i x) m h never = absurd (never i x refl)
is_own w (GiveAt p k) _ m h never = refl
is_own w (Load i) a m h never = absurd (cc)
is_own w (Finish p s) a m h never = refl
is_own w (Send node) a m h never = absurd (cc)
is_own w (SendPart node said) a m h never = absurd (cc)
is_own w (Deliver i node) a m h never = absurd (cc)
is_own w (Route r k) a m h never = refl
is_own w (Serve p k after) a m h never = refl

is_gift : (w v : WorldValue) (e : Event) (i : ℕ) (x : ChunkValue) (m : Node) → place_of e ≡ Some m → Step w e (Gave i x) v → IsLine w e (Gave i x) (Gift e x)
is_gift w v OpenNext i x m h step = absurd step
is_gift w v (Begin plan) i x m h step = absurd step
is_gift w v (BeginFrom old new) i x m h step = absurd step
is_gift w v (Close p) i x m h step = absurd step
is_gift w v (Give p most) i x m h step = refl
is_gift w v (GiveAt p k) i x m h step = refl
is_gift w v (Load j) i x m h step = absurd (cc)
is_gift w v (Finish p s) i x m h step = absurd step
is_gift w v (Send node) i x m h step = absurd (cc)
is_gift w v (SendPart node said) i x m h step = absurd (cc)
is_gift w v (Deliver j node) i x m h step = absurd (cc)
is_gift w v (Route r k) i x m h step = absurd step
is_gift w v (Serve p k after) i x m h step = absurd step

pub own_comes : (w v : WorldValue) (m : Node) (e : Event) (a : Answer) → NotGiven a → IsDone w m e a v → Comes w m (Own e a) v
own_comes w v m e a never d =
    (is_quiet e a m d.place, record { event = e; answer = a; step = d.step; there = d.there; here = at_place w e m d.place; line = is_own w e a m d.place never })

pub gift_comes : (w v : WorldValue) (m : Node) (e : Event) (i : ℕ) (x : ChunkValue) → IsDone w m e (Gave i x) v → Comes w m (Gift e x) v
gift_comes w v m e i x d =
    (refl, record { event = e; answer = Gave i x; step = d.step; there = d.there; here = at_place w e m d.place; line = is_gift w v e i x m d.place d.step })

-- ---- what is written of an event is of what happened

placed : (w v : WorldValue) (f : Event) (b : Answer) (m : Node) (l : Line) → Step w f b v → IsAt w f m → is_sent l ≡ false → IsLine w f b l
    → ((x : ChunkValue) (a : Answer) → l ≡ Arrival x a → ⊥) → ((q : Queries) → l ≡ Hearing q → ⊥) → place_of f ≡ Some m
placed w v OpenNext b m l h at quiet line here heard = ap Some (sym at)
placed w v (Begin plan) b m l h at quiet line here heard = ap Some (sym at)
placed w v (BeginFrom old new) b m l h at quiet line here heard = ap Some (sym at)
placed w v (Close p) b m l h at quiet line here heard = ap Some (sym at)
placed w v (Give p most) b m l h at quiet line here heard = ap Some (sym at)
placed w v (GiveAt p k) b m l h at quiet line here heard = ap Some (sym at)
placed w v (Load i) b m l h at quiet line here heard = absurd (here line.0 b line.2)
placed w v (Finish p s) b m l h at quiet line here heard = ap Some (sym at)
placed w v (Send node) b m l h at quiet line here heard = absurd (true≢false (subst (λ k. is_sent k ≡ false) line quiet))
placed w v (SendPart node said) (Sent i) m l h at quiet line here heard = absurd (true≢false (subst (λ k. is_sent k ≡ false) line quiet))
placed w v (SendPart node said) (Refused r) m l h at quiet line here heard = absurd (true≢false (subst (λ k. is_sent k ≡ false) line quiet))
placed w v (SendPart node said) _ m l h at quiet line here heard = absurd h
placed w v (Deliver i node) b m l h at quiet line here heard = absurd (heard line.0 line.2)
placed w v (Route r k) b m l h at quiet line here heard = ap Some (sym at)
placed w v (Serve p k after) b m l h at quiet line here heard = ap Some (sym at)

pub own_done : (w v : WorldValue) (m : Node) (e : Event) (a : Answer) → Comes w m (Own e a) v → IsDone w m e a v
own_done w v m e a (quiet, h) =
    let x : IsOwn e h.event a h.answer = own_line w v e a h.event h.answer h.step h.line in
    let d : IsDone w m h.event h.answer v =
    record { place = placed w v h.event h.answer m (Own e a) h.step h.here quiet h.line (λ y b is. no_arrival y b is) (λ q is. no_hearing q is); step = h.step; there = h.there } in
    subst (λ f. IsDone w m f a v) (sym x.event) (subst (λ b. IsDone w m h.event b v) (sym x.answer) d)
  where
    no_arrival : (y : ChunkValue) (b : Answer) → Own e a ≡ Arrival y b → ⊥
    no_arrival y b is = cc

    no_hearing : (q : Queries) → Own e a ≡ Hearing q → ⊥
    no_hearing q is = cc

pub gift_done : (w v : WorldValue) (m : Node) (e : Event) (x : ChunkValue) → Comes w m (Gift e x) v → (i : ℕ) × IsDone w m e (Gave i x) v
gift_done w v m e x (quiet, h) =
    let y : IsGiven e h.event x h.answer = gift_line w v e x h.event h.answer h.step h.line in
    let d : IsDone w m h.event h.answer v =
    record { place = placed w v h.event h.answer m (Gift e x) h.step h.here quiet h.line (λ c b is. no_arrival c b is) (λ q is. no_hearing q is); step = h.step; there = h.there } in
    (y.index, subst (λ f. IsDone w m f (Gave y.index x) v) (sym y.event) (subst (λ b. IsDone w m h.event b v) y.answer d))
  where
    no_arrival : (c : ChunkValue) (b : Answer) → Gift e x ≡ Arrival c b → ⊥
    no_arrival c b is = cc

    no_hearing : (q : Queries) → Gift e x ≡ Hearing q → ⊥
    no_hearing q is = cc

-- ---- chunks

-- only a gift adds a chunk
pub same_chunks : (w v : WorldValue) (e : Event) (a : Answer) → NotGiven a → Step w e a v → v.chunks ≡ w.chunks
same_chunks w v OpenNext (Opened s) never h = h.3.chunks
same_chunks w v OpenNext (Refused (NotDone s q)) never h = h.2.chunks
same_chunks w v OpenNext (Refused NoMore) never h = h.1.chunks
same_chunks w v OpenNext _ never h = absurd h
same_chunks w v (Begin plan) (Begun n parts) never h = h.5.chunks
same_chunks w v (Begin plan) (Refused Running) never h = h.1.chunks
same_chunks w v (Begin plan) (Refused NoNumber) never h = h.2.chunks
same_chunks w v (Begin plan) _ never h = absurd h
same_chunks w v (BeginFrom old new) (Begun n parts) never h = h.6.chunks
same_chunks w v (BeginFrom old new) (Refused Running) never h = h.1.chunks
same_chunks w v (BeginFrom old new) (Refused NoNumber) never h = h.2.chunks
same_chunks w v (BeginFrom old new) _ never h = absurd h
same_chunks w v (Close p) (Closed n) never h = h.1.3.chunks
same_chunks w v (Close p) (Refused NoSuch) never h = h.1.chunks
same_chunks w v (Close p) _ never h = absurd h
same_chunks w v (Give p most) (Gave i x) never h = absurd (never i x refl)
same_chunks w v (Give p most) (Refused NoSuch) never h = h.1.chunks
same_chunks w v (Give p most) (Refused NotOpen) never h = h.2.chunks
same_chunks w v (Give p most) (Refused Ended) never h = h.2.chunks
same_chunks w v (Give p most) (Refused NothingLeft) never h = h.2.chunks
same_chunks w v (Give p most) (Refused ZeroMax) never h = h.3.chunks
same_chunks w v (Give p most) _ never h = absurd h
same_chunks w v (GiveAt p k) (Gave i x) never h = absurd (never i x refl)
same_chunks w v (GiveAt p k) (Refused NoSuch) never h = h.1.chunks
same_chunks w v (GiveAt p k) (Refused NotOpen) never h = h.2.chunks
same_chunks w v (GiveAt p k) (Refused Ended) never h = h.2.chunks
same_chunks w v (GiveAt p k) (Refused NotOutgoing) never h = h.2.chunks
same_chunks w v (GiveAt p k) (Refused Given) never h = h.2.chunks
same_chunks w v (GiveAt p k) (Refused NotHeld) never h = h.2.chunks
same_chunks w v (GiveAt p k) _ never h = absurd h
same_chunks w v (Load i) (Loaded report) never h = h.5.chunks
same_chunks w v (Load i) Again never h = h.1.chunks
same_chunks w v (Load i) (Refused NoSuch) never h = h.1.chunks
same_chunks w v (Load i) (Refused NotOpen) never h = h.1.chunks
same_chunks w v (Load i) (Refused Stranger) never h = h.1.chunks
same_chunks w v (Load i) _ never h = absurd h
same_chunks w v (Finish p s) (Finished report) never h = h.1.5.chunks
same_chunks w v (Finish p s) (Refused NoSuch) never h = h.1.chunks
same_chunks w v (Finish p s) (Refused NotOpen) never h = h.2.chunks
same_chunks w v (Finish p s) (Refused (NotAll span)) never h = h.2.chunks
same_chunks w v (Finish p s) (Refused NothingDue) never h = h.2.chunks
same_chunks w v (Finish p s) _ never h = absurd h
same_chunks w v (Send node) (Sent i) never h = h.2.chunks
same_chunks w v (Send node) (Refused NoSuch) never h = h.1.chunks
same_chunks w v (Send node) _ never h = absurd h
same_chunks w v (SendPart node said) (Sent i) never h = h.3.chunks
same_chunks w v (SendPart node said) (Refused NoSuch) never h = h.1.chunks
same_chunks w v (SendPart node said) (Refused NotKnown) never h = h.2.chunks
same_chunks w v (SendPart node said) _ never h = absurd h
same_chunks w v (Deliver i node) Delivered never h = h.1.2.chunks
same_chunks w v (Deliver i node) (Refused NoSuch) never h = h.1.chunks
same_chunks w v (Deliver i node) _ never h = absurd h
same_chunks w v (Route r k) (Routed p) never h = h.2.chunks
same_chunks w v (Route r k) (Refused NoSuch) never h = h.1.chunks
same_chunks w v (Route r k) _ never h = absurd h
same_chunks w v (Serve p k after) (Served reply) never h = h.2.chunks
same_chunks w v (Serve p k after) (Refused NoSuch) never h = h.1.chunks
same_chunks w v (Serve p k after) _ never h = absurd h

pub given_chunks : (w v : WorldValue) (e : Event) (i : ℕ) (x : ChunkValue) → Step w e (Gave i x) v → v.chunks ≡ w.chunks ++ x ∷ []
given_chunks w v OpenNext i x h = absurd h
given_chunks w v (Begin plan) i x h = absurd h
given_chunks w v (BeginFrom old new) i x h = absurd h
given_chunks w v (Close p) i x h = absurd h
given_chunks w v (Give p most) i x h = h.3.chunks
given_chunks w v (GiveAt p k) i x h = h.3.chunks
given_chunks w v (Load j) i x h = absurd h
given_chunks w v (Finish p s) i x h = absurd h
given_chunks w v (Send node) i x h = absurd h
given_chunks w v (SendPart node said) i x h = absurd h
given_chunks w v (Deliver j node) i x h = absurd h
given_chunks w v (Route r k) i x h = absurd h
given_chunks w v (Serve p k after) i x h = absurd h

-- ---- not yet

same_yet : (w v : WorldValue) (e : Event) (a : Answer) → Step w e a v → IsNotYet e a → v ≡ w
same_yet w v OpenNext (Refused NoSuch) h y = absurd h
same_yet w v OpenNext _ h y = absurd y
same_yet w v (Begin plan) (Refused NoSuch) h y = absurd h
same_yet w v (Begin plan) _ h y = absurd y
same_yet w v (BeginFrom old new) (Refused NoSuch) h y = absurd h
same_yet w v (BeginFrom old new) (Refused Running) h y = same_world v w h.1
same_yet w v (BeginFrom old new) _ h y = absurd y
same_yet w v (Close p) (Refused NoSuch) h y = same_world v w h.1
same_yet w v (Close p) _ h y = absurd y
same_yet w v (Give p most) (Refused NoSuch) h y = same_world v w h.1
same_yet w v (Give p most) _ h y = absurd y
same_yet w v (GiveAt p k) (Refused NoSuch) h y = same_world v w h.1
same_yet w v (GiveAt p k) _ h y = absurd y
same_yet w v (Load i) (Refused NoSuch) h y = same_world v w h.1
same_yet w v (Load i) _ h y = absurd y
same_yet w v (Finish p s) (Refused NoSuch) h y = same_world v w h.1
same_yet w v (Finish p s) _ h y = absurd y
same_yet w v (Send node) (Refused NoSuch) h y = same_world v w h.1
same_yet w v (Send node) _ h y = absurd y
same_yet w v (SendPart node said) (Refused NoSuch) h y = same_world v w h.1
same_yet w v (SendPart node said) _ h y = absurd y
same_yet w v (Deliver i node) (Refused NoSuch) h y = same_world v w h.1
same_yet w v (Deliver i node) _ h y = absurd y
same_yet w v (Route r k) (Refused NoSuch) h y = same_world v w h.1
same_yet w v (Route r k) _ h y = absurd y
same_yet w v (Serve p k after) (Refused NoSuch) h y = same_world v w h.1
same_yet w v (Serve p k after) _ h y = absurd y

pub not_yet : (w v : WorldValue) (m : Node) (e : Event) (a : Answer) → Step w e a v → IsNotYet e a → (v ≡ w) × ((b : Answer) (u : WorldValue) → IsDone w m e b u → ⊥)
not_yet w v m e a h y = (same_yet w v e a h y, λ b u d. d.there (subst (λ c. IsNotYet e c) (one_step w v u e a b h d.step).0 y))
