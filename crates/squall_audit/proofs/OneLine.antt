-- A node's own log decides what it answers: if two worlds are the same to it, then an event of it has one line in both.
use Rattle.std.proofs.Common.{◌≡◌, ◌≢◌, ◌⊎◌, ℕ, suc, ◌==◌, not, true, false, List, [], ◌∷◌, ◌++◌, refl, sym, ap, ap₂, ◌∙◌, subst, inl, inr, ⊎_elim}
use Rattle.std.specs.Prelude.{Some}
use Rattle.std.specs.List.{slice_get, list_any}
use Rattle.std.proofs.lemmas.Bool.{or_left, or_right}
use Rattle.std.proofs.lemmas.List.Folds.{list_any-append}
use Rattle.squall_plan.specs.declared.range.PlanRange.{PlanRange}
use Rattle.squall_plan.specs.Ranges.{owner_of}
use Rattle.squall_report.specs.Queries.{Queries}
use Rattle.squall_protocol.specs.Chunks.{ChunkValue}
use Rattle.squall_protocol.specs.declared.event.Node.{Node}
use Rattle.squall_protocol.specs.declared.event.Node.TheVariants.{Leader, Part, Router}
use Rattle.squall_protocol.specs.declared.event.Event.{Event}
use Rattle.squall_protocol.specs.declared.event.Event.TheVariants.{OpenNext, Begin, BeginFrom, Close, Give, GiveAt, Load, Finish, Send, SendPart, Deliver, Route, Serve}
use Rattle.squall_protocol.specs.declared.answer.Answer.{Answer}
use Rattle.squall_protocol.specs.declared.answer.Answer.TheVariants.{Gave, Loaded, Again, Sent, Refused}
use Rattle.squall_protocol.specs.declared.answer.Refusal.TheVariants.{NoSuch, NotOpen, Stranger}
use Rattle.squall_protocol.specs.Worlds.{WorldValue, first_course, is_part}
use Rattle.squall_protocol.specs.Steps.{LeavesAt, IsArriving, LoadStep, Step}
use Rattle.squall_protocol.specs.Promises.{IsReached}
use Rattle.squall_protocol.specs.ListLaws.{at_front, at_one}
use Rattle.squall_protocol.proofs.ProtocolLaws.{one_step}
use Rattle.squall_audit.specs.Apart.{SamePart, SameLead}
use Rattle.squall_audit.specs.Lines.{Line, Own, Gift, Arrival, Saying, Hearing, IsLine, IsNotYet, Happens, View, view, after_line, after_lines}
use Rattle.squall_audit.specs.Merging.{Can}
use Rattle.squall_audit.specs.Logs.{is_sent, HasLogs, CanCome, AreOfOneEvent, LogsAnswer}
use Rattle.squall_audit.proofs.Enabled.{Sees, IsThere, can_happen}
use Rattle.squall_audit.proofs.Walk.{Fixed, fixed}
use Rattle.squall_audit.proofs.Filtered.{taken_by}
use Rattle.squall_audit.proofs.Judged.{sent_stays}

-- ---- a world that has all that is there in two

at_back : {A : Type 0} (xs ys : List A) (k : ℕ) (p : A) → slice_get ys k ≡ Some p → (j : ℕ) × (slice_get (xs ++ ys) j ≡ Some p)
at_back [] ys k p e = (k, e)
at_back (x ∷ xs) ys k p e = let there = at_back xs ys k p e in (suc there.0, there.1)

-- where a course from one plan to another may leave a key
abbrev MayBe : List PlanRange → List PlanRange → ℕ → ℕ → Type 0
MayBe old new k p = (p ≡ owner_of new k) ⊎ ((p ≡ owner_of old k) × (owner_of old k ≢ owner_of new k))

left_there : (w : WorldValue) (n k p : ℕ) → LeavesAt w n k p → MayBe (w.old n) (w.new n) k p
left_there w n k p (inl h) = inl h.0
left_there w n k p (inr h) = inr (h.0, h.1)

-- all partitions and chunks of both worlds. To the leader it does not matter what partitions gave and loaded: it finds each key where
-- either course may leave it
abbrev all_there : WorldValue → WorldValue → WorldValue
all_there u v = record u { parts = u.parts ++ v.parts; chunks = u.chunks ++ v.chunks }

abbrev all_left : WorldValue → WorldValue → WorldValue
all_left u v = record u { given = λ n p k. false; loaded = λ n p k. true; closed = λ n p. true; chunks = u.chunks ++ v.chunks }

may_leave : (u v : WorldValue) (k p : ℕ) → MayBe (u.old u.last) (u.new u.last) k p → LeavesAt (all_left u v) u.last k p
may_leave u v k p (inl h) = inl (h, λ e. refl)
may_leave u v k p (inr h) = inr (h.0, h.1, refl, refl)

-- the worlds are the same to the node
record AreSame (u v : WorldValue) (m : Node) : Type 0 where
  seen : view m u ≡ view m v
  first : first_course u ≡ first_course v
  routers : u.routers ≡ v.routers

no_part : (p : ℕ) → Leader ≡ Part p → ⊥
no_part p e = cc

no_lead : (p : ℕ) → Part p ≡ Leader → ⊥
no_lead p e = cc

no_router_part : (r p : ℕ) → Router r ≡ Part p → ⊥
no_router_part r p e = cc

no_router_lead : (r : ℕ) → Router r ≡ Leader → ⊥
no_router_lead r e = cc

same_number : (p q : ℕ) → Part p ≡ Part q → p ≡ q
same_number p q e = cc

module _ (u v : WorldValue) where
  first_parts : (p : ℕ) → is_part u p ≡ true → is_part (all_there u v) p ≡ true
  first_parts p is = list_any-append (λ q. q == p) u.parts v.parts ∙ or_left (is_part u p) (list_any (λ q. q == p) v.parts) is

  second_parts : (p : ℕ) → is_part v p ≡ true → is_part (all_there u v) p ≡ true
  second_parts p is = list_any-append (λ q. q == p) u.parts v.parts ∙ or_right (list_any (λ q. q == p) u.parts) (is_part v p) is

  first_chunks : (i : ℕ) (x : ChunkValue) → slice_get u.chunks i ≡ Some x → (j : ℕ) × (slice_get (u.chunks ++ v.chunks) j ≡ Some x)
  first_chunks i x at = (i, at_front u.chunks v.chunks i x at)

  second_chunks : (i : ℕ) (x : ChunkValue) → slice_get v.chunks i ≡ Some x → (j : ℕ) × (slice_get (u.chunks ++ v.chunks) j ≡ Some x)
  second_chunks i x at = at_back u.chunks v.chunks i x at

  itself_part : (p : ℕ) → SamePart u (all_there u v) p
  itself_part p = record { held = λ k. refl; closed = λ n. refl; given = λ n k. refl; loaded = λ n k. refl }

  -- the first world, and the second one, are as good to a partition, a router or the leader
  part_first : (p : ℕ) → Sees u (all_there u v) (Part p)
  part_first p =
      record { told = refl; part = λ q e. itself_part q; lead = λ e. absurd (no_lead p e); left = λ e. absurd (no_lead p e); first = refl; routers = refl; parts = first_parts; chunks = first_chunks }

  part_second : (p : ℕ) → AreSame u v (Part p) → Sees v (all_there u v) (Part p)
  part_second p d =
      record {
        told = ap (λ (V : View). V.told) d.seen;
        part = λ q e. subst (λ x. SamePart v (all_there u v) x) (same_number p q e) same;
        lead = λ e. absurd (no_lead p e);
        left = λ e. absurd (no_lead p e);
        first = d.first;
        routers = d.routers;
        parts = second_parts;
        chunks = second_chunks;
      }
    where
      same : SamePart v (all_there u v) p
      same =
          record {
            held = λ k. ap (λ (V : View). V.held k) d.seen;
            closed = λ n. ap (λ (V : View). V.closed n) d.seen;
            given = λ n k. ap (λ (V : View). V.given n k) d.seen;
            loaded = λ n k. ap (λ (V : View). V.loaded n k) d.seen;
          }

  router_first : (r : ℕ) → Sees u (all_there u v) (Router r)
  router_first r =
      record {
        told = refl;
        part = λ q e. absurd (no_router_part r q e);
        lead = λ e. absurd (no_router_lead r e);
        left = λ e. absurd (no_router_lead r e);
        first = refl;
        routers = refl;
        parts = first_parts;
        chunks = first_chunks;
      }

  router_second : (r : ℕ) → AreSame u v (Router r) → Sees v (all_there u v) (Router r)
  router_second r d =
      record {
        told = ap (λ (V : View). V.told) d.seen;
        part = λ q e. absurd (no_router_part r q e);
        lead = λ e. absurd (no_router_lead r e);
        left = λ e. absurd (no_router_lead r e);
        first = d.first;
        routers = d.routers;
        parts = second_parts;
        chunks = second_chunks;
      }

  lead_first : Sees u (all_left u v) Leader
  lead_first =
      record {
        told = refl;
        part = λ q e. absurd (no_part q e);
        lead = λ e. record { old = λ n. refl; new = λ n. refl; last = refl; opened = λ n. refl; parts = refl };
        left = λ e k p h. may_leave u v k p (left_there u u.last k p h);
        first = refl;
        routers = refl;
        parts = λ p is. is;
        chunks = first_chunks;
      }

  lead_second : AreSame u v Leader → Sees v (all_left u v) Leader
  lead_second d =
      record {
        told = ap (λ (V : View). V.told) d.seen;
        part = λ q e. absurd (no_part q e);
        lead = λ e. record { old = old; new = new; last = last; opened = λ n. ap (λ (V : View). V.opened n) d.seen; parts = parts };
        left = λ e k p h. may_leave u v k p (subst (λ o. MayBe o (u.new u.last) k p) (sym (old u.last ∙ ap v.old last)) (subst (λ o. MayBe (v.old v.last) o k p) (sym (new u.last ∙ ap v.new last)) (left_there v v.last k p h)));
        first = d.first;
        routers = d.routers;
        parts = λ p is. subst (λ ps. list_any (λ q. q == p) ps ≡ true) (sym parts) is;
        chunks = second_chunks;
      }
    where
      old : (n : ℕ) → u.old n ≡ v.old n
      old n = ap (λ (V : View). V.old n) d.seen

      new : (n : ℕ) → u.new n ≡ v.new n
      new n = ap (λ (V : View). V.new n) d.seen

      last : u.last ≡ v.last
      last = ap (λ (V : View). V.last) d.seen

      parts : u.parts ≡ v.parts
      parts = ap (λ (V : View). V.parts) d.seen

-- ---- the event of a line

no_gift : (e f : Event) (a : Answer) (x : ChunkValue) → Own e a ≡ Gift f x → ⊥
no_gift e f a x h = cc

no_arrival : (e : Event) (a b : Answer) (x : ChunkValue) → Own e a ≡ Arrival x b → ⊥
no_arrival e a b x h = cc

no_saying : (e : Event) (a : Answer) (q : Queries) → Own e a ≡ Saying q → ⊥
no_saying e a q h = cc

no_hearing : (e : Event) (a : Answer) (q : Queries) → Own e a ≡ Hearing q → ⊥
no_hearing e a q h = cc

own_event : (e f : Event) (a b : Answer) → Own e a ≡ Own f b → e ≡ f
own_event e f a b h = cc

own_answer : (e f : Event) (a b : Answer) → Own e a ≡ Own f b → a ≡ b
own_answer e f a b h = cc

-- a line of what a node did itself is of its event and answer, and nothing was given
pub record IsOwn (e f : Event) (a b : Answer) : Type 0 where
  pub event : e ≡ f
  pub answer : a ≡ b
  pub none : (i : ℕ) (x : ChunkValue) → b ≡ Gave i x → ⊥

not_gave : (z v : WorldValue) (f : Event) (b : Answer) (i : ℕ) (x : ChunkValue) → (Step z f (Gave i x) v → ⊥) → Step z f b v → b ≡ Gave i x → ⊥
not_gave z v f b i x never h is = never (subst (λ c. Step z f c v) is h)

no_refused : (r : _) (i : ℕ) (x : ChunkValue) → Refused r ≡ Gave i x → ⊥
no_refused r i x e = cc

module _ (z v : WorldValue) (e : Event) (a : Answer) where
  plain : (f : Event) (b : Answer) → ((i : ℕ) (x : ChunkValue) → Step z f (Gave i x) v → ⊥) → Step z f b v → Own e a ≡ Own f b → IsOwn e f a b
  plain f b never h line = record { event = own_event e f a b line; answer = own_answer e f a b line; none = λ i x is. not_gave z v f b i x (never i x) h is }

  refused : (f : Event) (r : _) → Own e a ≡ Own f (Refused r) → IsOwn e f a (Refused r)
  refused f r line = record { event = own_event e f a (Refused r) line; answer = own_answer e f a (Refused r) line; none = λ i x is. no_refused r i x is }

  pub own_line : (f : Event) (b : Answer) → Step z f b v → IsLine z f b (Own e a) → IsOwn e f a b
  own_line OpenNext b h line = plain OpenNext b (λ i x g. g) h line
  own_line (Begin plan) b h line = plain (Begin plan) b (λ i x g. g) h line
  own_line (BeginFrom old new) b h line = plain (BeginFrom old new) b (λ i x g. g) h line
  own_line (Close p) b h line = plain (Close p) b (λ i x g. g) h line
  own_line (Give p most) (Gave i x) h line = absurd (no_gift e (Give p most) a x line)
  own_line (Give p most) (Refused r) h line = refused (Give p most) r line
  own_line (Give p most) _ h line = absurd h
  own_line (GiveAt p k) (Gave i x) h line = absurd (no_gift e (GiveAt p k) a x line)
  own_line (GiveAt p k) (Refused r) h line = refused (GiveAt p k) r line
  own_line (GiveAt p k) _ h line = absurd h
  own_line (Load i) b h line = absurd (no_arrival e a b line.0 line.2)
  own_line (Finish p s) b h line = plain (Finish p s) b (λ i x g. g) h line
  own_line (Send node) b h line = absurd (no_saying e a (z.facts node) line)
  own_line (SendPart node said) (Sent i) h line = absurd (cc)
  own_line (SendPart node said) (Refused r) h line = refused (SendPart node said) r line
  own_line (SendPart node said) _ h line = absurd h
  own_line (Deliver i node) b h line = absurd (no_hearing e a line.0 line.2)
  own_line (Route r k) b h line = plain (Route r k) b (λ i x g. g) h line
  own_line (Serve p k after) b h line = plain (Serve p k after) b (λ i x g. g) h line

gift_event : (e f : Event) (x y : ChunkValue) → Gift e x ≡ Gift f y → e ≡ f
gift_event e f x y h = cc

gift_chunk : (e f : Event) (x y : ChunkValue) → Gift e x ≡ Gift f y → x ≡ y
gift_chunk e f x y h = cc

gift_arrival : (e : Event) (b : Answer) (x y : ChunkValue) → Gift e x ≡ Arrival y b → ⊥
gift_arrival e b x y h = cc

gift_saying : (e : Event) (x : ChunkValue) (q : Queries) → Gift e x ≡ Saying q → ⊥
gift_saying e x q h = cc

gift_hearing : (e : Event) (x : ChunkValue) (q : Queries) → Gift e x ≡ Hearing q → ⊥
gift_hearing e x q h = cc

-- a line of a gift is of its event, which gave that chunk
pub record IsGiven (e f : Event) (x : ChunkValue) (b : Answer) : Type 0 where
  pub event : e ≡ f
  pub index : ℕ
  pub answer : b ≡ Gave index x

module _ (z v : WorldValue) (e : Event) (x : ChunkValue) where
  no_own : (f : Event) (b : Answer) → Gift e x ≡ Own f b → ⊥
  no_own f b h = no_gift f e b x (sym h)

  pub gift_line : (f : Event) (b : Answer) → Step z f b v → IsLine z f b (Gift e x) → IsGiven e f x b
  gift_line OpenNext b h line = absurd (no_own OpenNext b line)
  gift_line (Begin plan) b h line = absurd (no_own (Begin plan) b line)
  gift_line (BeginFrom old new) b h line = absurd (no_own (BeginFrom old new) b line)
  gift_line (Close p) b h line = absurd (no_own (Close p) b line)
  gift_line (Give p most) (Gave i y) h line = record { event = gift_event e (Give p most) x y line; index = i; answer = ap (Gave i) (sym (gift_chunk e (Give p most) x y line)) }
  gift_line (Give p most) (Refused r) h line = absurd (no_own (Give p most) (Refused r) line)
  gift_line (Give p most) _ h line = absurd h
  gift_line (GiveAt p k) (Gave i y) h line = record { event = gift_event e (GiveAt p k) x y line; index = i; answer = ap (Gave i) (sym (gift_chunk e (GiveAt p k) x y line)) }
  gift_line (GiveAt p k) (Refused r) h line = absurd (no_own (GiveAt p k) (Refused r) line)
  gift_line (GiveAt p k) _ h line = absurd h
  gift_line (Load i) b h line = absurd (gift_arrival e b x line.0 line.2)
  gift_line (Finish p s) b h line = absurd (no_own (Finish p s) b line)
  gift_line (Send node) b h line = absurd (gift_saying e x (z.facts node) line)
  gift_line (SendPart node said) (Sent i) h line = absurd (cc)
  gift_line (SendPart node said) (Refused r) h line = absurd (no_own (SendPart node said) (Refused r) line)
  gift_line (SendPart node said) _ h line = absurd h
  gift_line (Deliver i node) b h line = absurd (gift_hearing e x line.0 line.2)
  gift_line (Route r k) b h line = absurd (no_own (Route r k) b line)
  gift_line (Serve p k after) b h line = absurd (no_own (Serve p k after) b line)

arrival_chunk : (x y : ChunkValue) (a b : Answer) → Arrival x a ≡ Arrival y b → x ≡ y
arrival_chunk x y a b h = cc

arrival_answer : (x y : ChunkValue) (a b : Answer) → Arrival x a ≡ Arrival y b → a ≡ b
arrival_answer x y a b h = cc

arrival_saying : (x : ChunkValue) (a : Answer) (q : Queries) → Arrival x a ≡ Saying q → ⊥
arrival_saying x a q h = cc

arrival_hearing : (x : ChunkValue) (a : Answer) (q : Queries) → Arrival x a ≡ Hearing q → ⊥
arrival_hearing x a q h = cc

-- a line of an arrival is of the load of that chunk, at whatever index
pub record IsArrived (z : WorldValue) (x : ChunkValue) (a : Answer) (f : Event) (b : Answer) : Type 0 where
  pub index : ℕ
  pub event : f ≡ Load index
  pub chunk : slice_get z.chunks index ≡ Some x
  pub answer : a ≡ b

module _ (z v : WorldValue) (x : ChunkValue) (a : Answer) where
  not_own : (f : Event) (b : Answer) → Arrival x a ≡ Own f b → ⊥
  not_own f b h = no_arrival f b a x (sym h)

  not_gift : (f : Event) (y : ChunkValue) → Arrival x a ≡ Gift f y → ⊥
  not_gift f y h = gift_arrival f a y x (sym h)

  pub arrival_line : (f : Event) (b : Answer) → Step z f b v → IsLine z f b (Arrival x a) → IsArrived z x a f b
  arrival_line OpenNext b h line = absurd (not_own OpenNext b line)
  arrival_line (Begin plan) b h line = absurd (not_own (Begin plan) b line)
  arrival_line (BeginFrom old new) b h line = absurd (not_own (BeginFrom old new) b line)
  arrival_line (Close p) b h line = absurd (not_own (Close p) b line)
  arrival_line (Give p most) (Gave i y) h line = absurd (not_gift (Give p most) y line)
  arrival_line (Give p most) (Refused r) h line = absurd (not_own (Give p most) (Refused r) line)
  arrival_line (Give p most) _ h line = absurd h
  arrival_line (GiveAt p k) (Gave i y) h line = absurd (not_gift (GiveAt p k) y line)
  arrival_line (GiveAt p k) (Refused r) h line = absurd (not_own (GiveAt p k) (Refused r) line)
  arrival_line (GiveAt p k) _ h line = absurd h
  arrival_line (Load i) b h line =
      record { index = i; event = refl; chunk = subst (λ y. slice_get z.chunks i ≡ Some y) (sym (arrival_chunk x line.0 a b line.2)) line.1; answer = arrival_answer x line.0 a b line.2 }
  arrival_line (Finish p s) b h line = absurd (not_own (Finish p s) b line)
  arrival_line (Send node) b h line = absurd (arrival_saying x a (z.facts node) line)
  arrival_line (SendPart node said) (Sent i) h line = absurd (cc)
  arrival_line (SendPart node said) (Refused r) h line = absurd (not_own (SendPart node said) (Refused r) line)
  arrival_line (SendPart node said) _ h line = absurd h
  arrival_line (Deliver i node) b h line = absurd (arrival_hearing x a line.0 line.2)
  arrival_line (Route r k) b h line = absurd (not_own (Route r k) b line)
  arrival_line (Serve p k after) b h line = absurd (not_own (Serve p k after) b line)

-- the same comes of a chunk at each of its indices
module _ (z v : WorldValue) (i j : ℕ) (x : ChunkValue) (here : slice_get z.chunks i ≡ Some x) (there : slice_get z.chunks j ≡ Some x) where
  arrives : (y : ChunkValue) → IsArriving z j y → IsArriving z i y
  arrives y h = record { chunk = subst (λ c. slice_get z.chunks i ≡ Some c) (at_one z.chunks j x y there h.chunk) here; dest = h.dest }

  pub load_at : (b : Answer) → (b ≡ Refused NoSuch → ⊥) → LoadStep z j b v → LoadStep z i b v
  load_at (Loaded report) such h = (h.0, arrives h.0 h.1, h.2, h.3, h.4, h.5)
  load_at Again such h = ((h.0.0, arrives h.0.0 h.0.1, h.0.2, h.0.3), h.1)
  load_at (Refused NoSuch) such h = absurd (such refl)
  load_at (Refused NotOpen) such h = ((h.0.0, arrives h.0.0 h.0.1, h.0.2, h.0.3), h.1)
  load_at (Refused Stranger) such h = ((h.0.0, arrives h.0.0 h.0.1, h.0.2, h.0.3), h.1)
  load_at _ such h = absurd h

-- ---- one line of an event

same_gave : (i j : ℕ) (x y : ChunkValue) → Gave i x ≡ Gave j y → x ≡ y
same_gave i j x y e = cc

module _ (z : WorldValue) (m : Node) where
  one_of : (l k : Line) (h : Can z m l) (g : Can z m k) → h.1.event ≡ g.1.event → h.1.answer ≡ g.1.answer
  one_of l k h g same = (one_step z h.0 g.0 h.1.event h.1.answer g.1.answer h.1.step (subst (λ d. Step z d g.1.answer g.0) (sym same) g.1.step)).0

  same_line : (l k : Line) → AreOfOneEvent l k → Can z m l → Can z m k → l ≡ k
  same_line (Own e a) (Own f b) one h g =
      let x : IsOwn e h.1.event a h.1.answer = own_line z h.0 e a h.1.event h.1.answer h.1.step h.1.line in
      let y : IsOwn f g.1.event b g.1.answer = own_line z g.0 f b g.1.event g.1.answer g.1.step g.1.line in
      ap₂ Own one (x.answer ∙ one_of (Own e a) (Own f b) h g (sym x.event ∙ one ∙ y.event) ∙ sym y.answer)
  same_line (Own e a) (Gift f d) one h g =
      let x : IsOwn e h.1.event a h.1.answer = own_line z h.0 e a h.1.event h.1.answer h.1.step h.1.line in
      let y : IsGiven f g.1.event d g.1.answer = gift_line z g.0 f d g.1.event g.1.answer g.1.step g.1.line in
      absurd (x.none y.index d (one_of (Own e a) (Gift f d) h g (sym x.event ∙ one ∙ y.event) ∙ y.answer))
  same_line (Own e a) _ one h g = absurd one
  same_line (Gift e c) (Own f b) one h g =
      let x : IsGiven e h.1.event c h.1.answer = gift_line z h.0 e c h.1.event h.1.answer h.1.step h.1.line in
      let y : IsOwn f g.1.event b g.1.answer = own_line z g.0 f b g.1.event g.1.answer g.1.step g.1.line in
      absurd (y.none x.index c (sym (one_of (Gift e c) (Own f b) h g (sym x.event ∙ one ∙ y.event)) ∙ x.answer))
  same_line (Gift e c) (Gift f d) one h g =
      let x : IsGiven e h.1.event c h.1.answer = gift_line z h.0 e c h.1.event h.1.answer h.1.step h.1.line in
      let y : IsGiven f g.1.event d g.1.answer = gift_line z g.0 f d g.1.event g.1.answer g.1.step g.1.line in
      ap₂ Gift one (same_gave x.index y.index c d (sym x.answer ∙ one_of (Gift e c) (Gift f d) h g (sym x.event ∙ one ∙ y.event) ∙ y.answer))
  same_line (Gift e c) _ one h g = absurd one
  same_line (Arrival c a) (Arrival d b) one h g =
      let x : IsArrived z c a h.1.event h.1.answer = arrival_line z h.0 c a h.1.event h.1.answer h.1.step h.1.line in
      let y : IsArrived z d b g.1.event g.1.answer = arrival_line z g.0 d b g.1.event g.1.answer g.1.step g.1.line in
      let first : LoadStep z x.index h.1.answer h.0 = subst (λ f. Step z f h.1.answer h.0) x.event h.1.step in
      let second : LoadStep z y.index g.1.answer g.0 = subst (λ f. Step z f g.1.answer g.0) y.event g.1.step in
      let moved : LoadStep z x.index g.1.answer g.0 =
      load_at z g.0 x.index y.index d (subst (λ w. slice_get z.chunks x.index ≡ Some w) one x.chunk) y.chunk g.1.answer (λ is. g.1.there (subst (λ r. IsNotYet g.1.event r) (sym is) tt)) second in
      ap₂ Arrival one (x.answer ∙ (one_step z h.0 g.0 (Load x.index) h.1.answer g.1.answer first moved).0 ∙ sym y.answer)
  same_line (Arrival c a) _ one h g = absurd one
  same_line (Saying q) k one h g = absurd one
  same_line (Hearing q) k one h g = absurd one

-- ---- in two runs

quiet : (l k : Line) → AreOfOneEvent l k → (q : Queries) → l ≡ Hearing q → ⊥
quiet (Own e a) k one q is = cc
quiet (Gift e x) k one q is = cc
quiet (Arrival x a) k one q is = cc
quiet (Saying r) k one q is = one
quiet (Hearing r) k one q is = one

quiet_too : (l k : Line) → AreOfOneEvent l k → (q : Queries) → k ≡ Hearing q → ⊥
quiet_too (Own e a) (Own f b) one q is = cc
quiet_too (Own e a) (Gift f y) one q is = cc
quiet_too (Own e a) _ one q is = one
quiet_too (Gift e x) (Own f b) one q is = cc
quiet_too (Gift e x) (Gift f y) one q is = cc
quiet_too (Gift e x) _ one q is = one
quiet_too (Arrival x a) (Arrival y b) one q is = cc
quiet_too (Arrival x a) _ one q is = one
quiet_too (Saying r) k one q is = absurd one
quiet_too (Hearing r) k one q is = absurd one

happens : (w : WorldValue) (m : Node) (l : Line) → ((q : Queries) → l ≡ Hearing q → ⊥) → CanCome w m l → Can w m l
happens w m (Own e a) never h = (h.0, h.1.1)
happens w m (Gift e x) never h = (h.0, h.1.1)
happens w m (Arrival x a) never h = (h.0, h.1.1)
happens w m (Saying q) never h = (h.0, h.1.1)
happens w m (Hearing q) never h = absurd (never q refl)

goes : (w z : WorldValue) (m : Node) (l : Line) → Sees w z m → ((q : Queries) → l ≡ Hearing q → ⊥) → Can w m l → Can z m l
goes w z m l d never h = can_happen w z h.0 m l d (λ i q at is. absurd (never q is)) h.1

-- if the worlds are the same to the node, then an event of it has one line in both
one_line : (u v : WorldValue) (m : Node) (l k : Line) → AreSame u v m → AreOfOneEvent l k → Can u m l → Can v m k → l ≡ k
one_line u v Leader l k d one h g =
    same_line (all_left u v) Leader l k one (goes u (all_left u v) Leader l (lead_first u v) (quiet l k one) h) (goes v (all_left u v) Leader k (lead_second u v d) (quiet_too l k one) g)
one_line u v (Part p) l k d one h g =
    same_line (all_there u v) (Part p) l k one (goes u (all_there u v) (Part p) l (part_first u v p) (quiet l k one) h) (goes v (all_there u v) (Part p) k (part_second u v p d) (quiet_too l k one) g)
one_line u v (Router r) l k d one h g =
    same_line (all_there u v) (Router r) l k one (goes u (all_there u v) (Router r) l (router_first u v r) (quiet l k one) h) (goes v (all_there u v) (Router r) k (router_second u v r d) (quiet_too l k one) g)

not_false : (l : Line) → not (is_sent l) ≡ false → is_sent l ≡ true
not_false l e = by (is_sent l) e
  where
    by : (b : _) → not b ≡ false → b ≡ true
    by true h = refl
    by false h = absurd (cc)

view_by : (s u : WorldValue) (logs : Node → List Line) (m : Node) → IsReached s → HasLogs s logs u → view m u ≡ after_lines (logs m) (view m s)
view_by s u logs m reached has =
    (taken_by (λ l. not (is_sent l)) (λ l V e. sent_stays l V (not_false l e)) s u has.run reached has.trace).views m ∙ ap (λ ls. after_lines ls (view m s)) (has.written m)

pub logs_answer : LogsAnswer
logs_answer s u v logs others m l k reached has also same one can could =
    let f : Fixed s u = fixed s u has.run reached has.trace in
    let g : Fixed s v = fixed s v also.run reached also.trace in
    let d : AreSame u v m =
    record {
      seen = view_by s u logs m reached has ∙ ap (λ ls. after_lines ls (view m s)) same ∙ sym (view_by s v others m reached also);
      first = f.first ∙ sym g.first;
      routers = f.routers ∙ sym g.routers;
    } in
    one_line u v m l k d one (happens u m l (quiet l k one) can) (happens v m k (quiet_too l k one) could)
