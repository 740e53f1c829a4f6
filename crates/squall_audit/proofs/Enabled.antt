-- What a node does in one world it can do in each world that is the same to it and has all that is there.
use Rattle.std.proofs.Common.{◌≡◌, ℕ, ◌+◌, ◌<◌, ◌≤◌, ◌==◌, ◌&&◌, not, true, false, List, [], ◌∷◌, ◌++◌, length, refl, sym, ap, ◌∙◌, subst, filter}
use Rattle.std.specs.Prelude.{Some, nat_lt}
use Rattle.std.specs.List.{slice_get, list_any, range_with_len}
use Rattle.std.proofs.lemmas.Bool.{or_left}
use Rattle.std.proofs.lemmas.List.Folds.{list_any-append}
use Rattle.squall_key.specs.Keys.{part_limit}
use Rattle.squall_span.specs.Spans.{interval}
use Rattle.squall_plan.specs.declared.range.PlanRange.{PlanRange}
use Rattle.squall_plan.specs.Ranges.{names, owner_of}
use Rattle.squall_course.specs.Change.{Change}
use Rattle.squall_course.specs.Subplans.{subplan_count}
use Rattle.squall_course.specs.Moves.{is_incoming}
use Rattle.squall_report.specs.declared.report.ReportKind.TheVariants.{Done as DoneReport}
use Rattle.squall_report.specs.Cells.{place_at}
use Rattle.squall_report.specs.Queries.{Queries, done_queries}
use Rattle.squall_board.specs.Boards.{BoardValue}
use Rattle.squall_board.specs.BoardQueries.{queries_of}
use Rattle.squall_board.specs.CourseRoute.{IsCourseBy, IsRoutedBy}
use Rattle.squall_protocol.specs.Chunks.{ChunkValue}
use Rattle.squall_protocol.specs.Firsts.{AreFirst, IsRun}
use Rattle.squall_protocol.specs.Known.{last_number}
use Rattle.squall_protocol.specs.declared.event.Node.{Node}
use Rattle.squall_protocol.specs.declared.event.Node.TheVariants.{Leader, Part, Router}
use Rattle.squall_protocol.specs.declared.event.Event.{Event}
use Rattle.squall_protocol.specs.declared.event.Event.TheVariants.{OpenNext, Begin, BeginFrom, Close, Give, GiveAt, Load, Finish, Send, SendPart, Deliver, Route, Serve}
use Rattle.squall_protocol.specs.declared.answer.Answer.{Answer}
use Rattle.squall_protocol.specs.declared.answer.Answer.TheVariants.{Opened, Begun, Closed, Gave, Loaded, Again, Finished, Sent, Delivered, Routed, Served, Refused}
use Rattle.squall_protocol.specs.declared.answer.Refusal.TheVariants.{NoSuch, NotDone, NoMore, Running, NoNumber, NotOpen, Ended, NothingLeft, ZeroMax, NotOutgoing, Given, NotHeld, Stranger, NotAll, NothingDue, NotKnown}
use Rattle.squall_protocol.specs.Worlds.{WorldValue, first_course, last_course, is_part, is_node}
use Rattle.squall_protocol.specs.Knowledge.{PartQueries, part_in, Knows, IsCurrent, NoneOpen, IsClosed, goes_out, is_left, comes_in, is_missing, Serves}
use Rattle.squall_protocol.specs.Steps.{after_open, after_begin, after_close, after_give, after_load, after_told, IsWanting, IsOver, IsPartOf, LeavesAt, IsWhereLeft, last_count, IsGift, IsArriving, MayLoad, OpenStep, BeginStep, BeginFromStep, CloseStep, GiveStep, GiveAtStep, LoadStep, FinishStep, SendStep, SendPartStep, DeliverStep, RouteStep, ServeStep, Step}
use Rattle.squall_protocol.specs.WorldLaws.{same_as_itself}
use Rattle.squall_protocol.proofs.ProtocolLaws.{course_begun}
use Rattle.squall_protocol.specs.ListLaws.{at_front, at_one}
use Rattle.squall_audit.specs.Apart.{IsAt, Grows, SamePart, SameLead, Undisturbed}
use Rattle.squall_audit.specs.Lines.{Line, Own, Gift, Arrival, Saying, Hearing, IsLine, IsNotYet, Happens}
use Rattle.squall_audit.specs.Merging.{Can, EventsEnable}
use Rattle.squall_audit.proofs.Apart.{nodes_are_apart}
use Rattle.squall_audit.proofs.Views.{one_place}
use Rattle.squall_audit.proofs.Left.{leaves, loaded_step, shut_step}

-- the second world is the same to the node, and has all partitions and chunks of the first. To the leader a course leaves keys
-- where it left them in the first
pub record Sees (w u : WorldValue) (m : Node) : Type 0 where
  pub told : u.facts m ≡ w.facts m
  pub part : (p : ℕ) → m ≡ Part p → SamePart w u p
  pub lead : m ≡ Leader → SameLead w u
  pub left : m ≡ Leader → (k p : ℕ) → LeavesAt w w.last k p → LeavesAt u u.last k p
  pub first : first_course u ≡ first_course w
  pub routers : u.routers ≡ w.routers
  pub parts : (p : ℕ) → is_part w p ≡ true → is_part u p ≡ true
  pub chunks : (i : ℕ) (x : ChunkValue) → slice_get w.chunks i ≡ Some x → (j : ℕ) × (slice_get u.chunks j ≡ Some x)

-- if the line is that of a message that is heard, then that message is there
abbrev pub IsThere : WorldValue → WorldValue → Line → Type 0
IsThere w u l = (i : ℕ) (message : Queries) → slice_get w.messages i ≡ Some message → l ≡ Hearing message → (j : ℕ) × (slice_get u.messages j ≡ Some message)

still_node : (w u : WorldValue) (m n : Node) → Sees w u m → is_node w n ≡ true → is_node u n ≡ true
still_node w u m Leader d is = refl
still_node w u m (Part p) d is = d.parts p is
still_node w u m (Router r) d is = subst (λ n. nat_lt r n ≡ true) (sym d.routers) is

-- the same answer, but for the place of a new chunk or message
abbrev Alike : Event → Answer → Answer → Type 0
Alike (Give p most) (Gave i x) (Gave j y) = x ≡ y
Alike (GiveAt p k) (Gave i x) (Gave j y) = x ≡ y
Alike (Send node) (Sent i) (Sent j) = Unit {0}
Alike (SendPart node said) (Sent i) (Sent j) = Unit {0}
Alike e a b = a ≡ b

-- the event can be made then, with that answer
abbrev Later : WorldValue → Event → Answer → Type 0
Later u e a = (later : WorldValue) × ((same : Answer) × Step u e same later × Alike e a same)

-- ---- a partition

module _ (w u : WorldValue) (p : ℕ) (d : Sees w u (Part p)) where
  same_part : SamePart w u p
  same_part = d.part p refl

  same_view : part_in u p ≡ part_in w p
  same_view = λ i. record { id = p; first = d.first i; told = d.told i; held = λ k. same_part.held k i; closed = λ n. same_part.closed n i; given = λ n k. same_part.given n k i; loaded = λ n k. same_part.loaded n k i }

  there : is_part w p ≡ true → is_part u p ≡ true
  there is = d.parts p is

  -- what holds of the partition, holds of it later
  still : (P : PartQueries → Type 0) → P (part_in w p) → P (part_in u p)
  still P h = subst P (sym same_view) h

  close_later : (r : Answer) (v : WorldValue) → (IsNotYet (Close p) r → ⊥) → CloseStep w p r v → Later u (Close p) r
  close_later (Closed n) v such h = closed (still (λ q. (c : Change) × IsCourseBy q.first q.told c × (n ≡ c.number)) (h.1.0, h.1.1, h.1.2))
    where
      closed : ((c : Change) × IsCourseBy (first_course u) (u.facts (Part p)) c × (n ≡ c.number)) → Later u (Close p) (Closed n)
      closed g = (after_close u g.0.number p, (Closed n, (there h.0, (g.0, g.1, g.2, same_as_itself (after_close u g.0.number p))), refl))
  close_later (Refused NoSuch) v such h = absurd (such tt)
  close_later _ v such h = absurd h

  give_later : (most : ℕ) (r : Answer) (v : WorldValue) → (IsNotYet (Give p most) r → ⊥) → GiveStep w p most r v → Later u (Give p most) r
  give_later most (Gave index x) v such h = (
    after_give u x,
    (
      Gave (length u.chunks) x,
      (there h.0, refl, still (λ q. (c : Change) × (s : ℕ) × IsCurrent q c s × AreFirst (is_left q c s) most x.span × IsGift q c s x) h.2, same_as_itself (after_give u x)),
      refl,
    ),
  )
  give_later most (Refused NoSuch) v such h = absurd (such tt)
  give_later most (Refused NotOpen) v such h = (u, (Refused NotOpen, (there h.0, still NoneOpen h.1, same_as_itself u), refl))
  give_later most (Refused Ended) v such h = (u, (Refused Ended, (there h.0, still IsClosed h.1, same_as_itself u), refl))
  give_later most (Refused NothingLeft) v such h =
      (u, (Refused NothingLeft, (there h.0, still (λ q. (c : Change) × (s : ℕ) × IsCurrent q c s × ((k : ℕ) → is_left q c s k ≡ false)) h.1, same_as_itself u), refl))
  give_later most (Refused ZeroMax) v such h =
      (u, (Refused ZeroMax, (there h.0, still (λ q. (c : Change) × (s : ℕ) × IsCurrent q c s × ((k : ℕ) × (is_left q c s k ≡ true))) h.1, h.2, same_as_itself u), refl))
  give_later most _ v such h = absurd h

  give_at_later : (k : ℕ) (r : Answer) (v : WorldValue) → (IsNotYet (GiveAt p k) r → ⊥) → GiveAtStep w p k r v → Later u (GiveAt p k) r
  give_at_later k (Gave index x) v such h = (
    after_give u x,
    (
      Gave (length u.chunks) x,
      (
        there h.0,
        refl,
        still (λ q. (c : Change) × (s : ℕ) × IsCurrent q c s × (goes_out q c s k ≡ true) × (q.given c.number k ≡ false) × (q.held k ≡ true) × (x.span ≡ interval k (k + 1)) × IsGift q c s x) h.2,
        same_as_itself (after_give u x),
      ),
      refl,
    ),
  )
  give_at_later k (Refused NoSuch) v such h = absurd (such tt)
  give_at_later k (Refused NotOpen) v such h = (u, (Refused NotOpen, (there h.0, still NoneOpen h.1, same_as_itself u), refl))
  give_at_later k (Refused Ended) v such h = (u, (Refused Ended, (there h.0, still IsClosed h.1, same_as_itself u), refl))
  give_at_later k (Refused NotOutgoing) v such h =
      (u, (Refused NotOutgoing, (there h.0, still (λ q. (c : Change) × (s : ℕ) × IsCurrent q c s × (goes_out q c s k ≡ false)) h.1, same_as_itself u), refl))
  give_at_later k (Refused Given) v such h =
      (u, (Refused Given, (there h.0, still (λ q. (c : Change) × (s : ℕ) × IsCurrent q c s × (goes_out q c s k ≡ true) × (q.given c.number k ≡ true)) h.1, same_as_itself u), refl))
  give_at_later k (Refused NotHeld) v such h = (
    u,
    (
      Refused NotHeld,
      (there h.0, still (λ q. (c : Change) × (s : ℕ) × IsCurrent q c s × (goes_out q c s k ≡ true) × (q.given c.number k ≡ false) × (q.held k ≡ false)) h.1, same_as_itself u),
      refl,
    ),
  )
  give_at_later k _ v such h = absurd h

  finish_later : (s : ℕ) (r : Answer) (v : WorldValue) → (IsNotYet (Finish p s) r → ⊥) → FinishStep w p s r v → Later u (Finish p s) r
  finish_later s (Finished report) v such h =
      let more : Later u (Finish p s) (Finished report) =
      finished (still (λ q. (c : Change) × (IsCourseBy q.first q.told c × (s < q.told.opened c.number)) × ((k : ℕ) → is_missing q c s k ≡ false) × ((k : ℕ) × (comes_in q c s k ≡ true)) × (report ≡ DoneReport c.number s p))
      (h.1.0, h.1.1, h.1.2, h.1.3, h.1.4)) in
      more
    where
      finished : ((c : Change) × (IsCourseBy (first_course u) (u.facts (Part p)) c × (s < (u.facts (Part p)).opened c.number)) × ((k : ℕ) → is_missing (part_in u p) c s k ≡ false)
          × ((k : ℕ) × (comes_in (part_in u p) c s k ≡ true)) × (report ≡ DoneReport c.number s p)) → Later u (Finish p s) (Finished report)
      finished g =
          let then : WorldValue = after_told u (Part p) (done_queries (place_at g.0.number s p)) in
          (then, (Finished report, (there h.0, (g.0, g.1, g.2, g.3, g.4, same_as_itself then)), refl))
  finish_later s (Refused NoSuch) v such h = absurd (such tt)
  finish_later s (Refused NotOpen) v such h =
      (u, (Refused NotOpen, (there h.0, still (λ q. (c : Change) × IsCourseBy q.first q.told c × (q.told.opened c.number ≤ s)) h.1, same_as_itself u), refl))
  finish_later s (Refused (NotAll span)) v such h = (
    u,
    (
      Refused (NotAll span),
      (there h.0, still (λ q. (c : Change) × (IsCourseBy q.first q.told c × (s < q.told.opened c.number)) × IsRun (is_missing q c s) span) h.1, same_as_itself u),
      refl,
    ),
  )
  finish_later s (Refused NothingDue) v such h = (
    u,
    (
      Refused NothingDue,
      (there h.0, still (λ q. (c : Change) × (IsCourseBy q.first q.told c × (s < q.told.opened c.number)) × ((k : ℕ) → comes_in q c s k ≡ false)) h.1, same_as_itself u),
      refl,
    ),
  )
  finish_later s _ v such h = absurd h

  serve_later : (k after : ℕ) (r : Answer) (v : WorldValue) → (IsNotYet (Serve p k after) r → ⊥) → ServeStep w p k after r v → Later u (Serve p k after) r
  serve_later k after (Served reply) v such h = (u, (Served reply, (there h.0, still (λ q. Serves q k after reply) h.1, same_as_itself u), refl))
  serve_later k after (Refused NoSuch) v such h = absurd (such tt)
  serve_later k after _ v such h = absurd h

-- ---- loads

module _ (w u : WorldValue) (i : ℕ) (dis : (x : ChunkValue) → slice_get w.chunks i ≡ Some x → Sees w u (Part x.dest)) where
  arrives : (x : ChunkValue) (j : ℕ) → slice_get u.chunks j ≡ Some x → IsArriving w i x → IsArriving u j x
  arrives x j at h = let d = dis x h.chunk in record { chunk = at; dest = d.parts x.dest h.dest }

  -- the chunk has a place there too, from which the same comes of it
  abbrev Arrives : Answer → Type 0
  Arrives r = (j : ℕ) × (x : ChunkValue) × (slice_get w.chunks i ≡ Some x) × (slice_get u.chunks j ≡ Some x) × Later u (Load j) r

  may : (x : ChunkValue) → Sees w u (Part x.dest) → MayLoad w x → MayLoad u x
  may x d h =
      let g : (course : Change) × Knows (part_in u x.dest) x.number course × (x.sub < (part_in u x.dest).told.opened x.number) =
      still w u x.dest d (λ q. (course : Change) × Knows q x.number course × (x.sub < q.told.opened x.number)) (h.course, h.known, h.opened) in
      record { course = h.course; known = subst (λ q. Knows q x.number h.course) (sym (same_view w u x.dest d)) h.known; opened = g.2; fits = h.fits }

  might : (x : ChunkValue) → Sees w u (Part x.dest) → MayLoad u x → MayLoad w x
  might x d h =
      record {
        course = h.course;
        known = subst (λ q. Knows q x.number h.course) (same_view w u x.dest d) h.known;
        opened = subst (λ (q : PartQueries). x.sub < q.told.opened x.number) (same_view w u x.dest d) h.opened;
        fits = h.fits;
      }

  load_later : (r : Answer) (v : WorldValue) → (IsNotYet (Load i) r → ⊥) → LoadStep w i r v → Arrives r
  load_later (Loaded report) v such h =
      let x : ChunkValue = h.0 in
      let d : Sees w u (Part x.dest) = dis x h.1.chunk in
      let at = d.chunks i x h.1.chunk in
      (at.0, x, h.1.chunk, at.1, (after_load u x, (Loaded report, (x, arrives x at.0 at.1 h.1, may x d h.2, (h.3.0, h.3.1, (same_part w u x.dest d).loaded x.number h.3.0 ∙ h.3.2), h.4, same_as_itself (after_load u x)), refl)))
  load_later Again v such h =
      let x : ChunkValue = h.0.0 in
      let d : Sees w u (Part x.dest) = dis x h.0.1.chunk in
      let at = d.chunks i x h.0.1.chunk in
      (at.0, x, h.0.1.chunk, at.1, (u, (Again, ((x, arrives x at.0 at.1 h.0.1, may x d h.0.2, (λ k inside. (same_part w u x.dest d).loaded x.number k ∙ h.0.3 k inside)), same_as_itself u), refl)))
  load_later (Refused NoSuch) v such h = absurd (such tt)
  load_later (Refused NotOpen) v such h =
      let x : ChunkValue = h.0.0 in
      let d : Sees w u (Part x.dest) = dis x h.0.1.chunk in
      let at = d.chunks i x h.0.1.chunk in (
        at.0,
        x,
        h.0.1.chunk,
        at.1,
        (u, (Refused NotOpen, ((x, arrives x at.0 at.1 h.0.1, still w u x.dest d (λ q. (c : Change) × Knows q x.number c) h.0.2, still w u x.dest d (λ q. q.told.opened x.number ≤ x.sub) h.0.3), same_as_itself u), refl)),
      )
  load_later (Refused Stranger) v such h =
      let x : ChunkValue = h.0.0 in
      let d : Sees w u (Part x.dest) = dis x h.0.1.chunk in
      let at = d.chunks i x h.0.1.chunk in (
        at.0,
        x,
        h.0.1.chunk,
        at.1,
        (
          u,
          (
            Refused Stranger,
            ((x, arrives x at.0 at.1 h.0.1, (λ g. h.0.2 (might x d g)), still w u x.dest d (λ q. (c : Change) → Knows q x.number c → x.sub < q.told.opened x.number) h.0.3), same_as_itself u),
            refl,
          ),
        ),
      )
  load_later _ v such h = absurd h

-- ---- messages and routes

module _ (w u : WorldValue) (m : Node) (d : Sees w u m) where
  send_later : (r : Answer) (v : WorldValue) → (IsNotYet (Send m) r → ⊥) → SendStep w m r v → Later u (Send m) r
  send_later (Sent index) v such h =
      let then : WorldValue = record u { messages = u.messages ++ u.facts m ∷ [] } in
      (then, (Sent (length u.messages), (still_node w u m m d h.0, refl, same_as_itself then), tt))
  send_later (Refused NoSuch) v such h = absurd (such tt)
  send_later _ v such h = absurd h

  send_part_later : (said : BoardValue) (r : Answer) (v : WorldValue) → (IsNotYet (SendPart m said) r → ⊥) → SendPartStep w m said r v → Later u (SendPart m said) r
  send_part_later said (Sent index) v such h =
      let then : WorldValue = record u { messages = u.messages ++ queries_of said ∷ [] } in
      (then, (Sent (length u.messages), (still_node w u m m d h.0, subst (IsPartOf (queries_of said)) (sym d.told) h.1, refl, same_as_itself then), tt))
  send_part_later said (Refused NoSuch) v such h = absurd (such tt)
  send_part_later said (Refused NotKnown) v such h = (u, (Refused NotKnown, (still_node w u m m d h.0, (λ part. h.1 (subst (IsPartOf (queries_of said)) d.told part)), same_as_itself u), refl))
  send_part_later said _ v such h = absurd h

  abbrev Comes : ℕ → Answer → Type 0
  Comes i r = (j : ℕ) × (message : Queries) × (slice_get w.messages i ≡ Some message) × (slice_get u.messages j ≡ Some message) × Later u (Deliver j m) r

  deliver_later : (i : ℕ) (r : Answer) (v : WorldValue) → ((message : Queries) → slice_get w.messages i ≡ Some message → (j : ℕ) × (slice_get u.messages j ≡ Some message))
      → (IsNotYet (Deliver i m) r → ⊥) → DeliverStep w i m r v → Comes i r
  deliver_later i Delivered v there such h =
      let then : WorldValue = after_told u m h.1.0 in
      let at = there h.1.0 h.1.1 in
      (at.0, h.1.0, h.1.1, at.1, (then, (Delivered, (still_node w u m m d h.0, (h.1.0, at.1, same_as_itself then)), refl)))
  deliver_later i (Refused NoSuch) v there such h = absurd (such tt)
  deliver_later i _ v there such h = absurd h

route_later : (w u : WorldValue) (x k : ℕ) (r : Answer) (v : WorldValue) → Sees w u (Router x) → (IsNotYet (Route x k) r → ⊥) → RouteStep w x k r v → Later u (Route x k) r
route_later w u x k (Routed p) v d such h = (
  u,
  (
    Routed p,
    (
      still_node w u (Router x) (Router x) d h.0,
      subst (λ f. IsRoutedBy (first_course u) f k p) (sym d.told) (subst (λ c. IsRoutedBy c (w.facts (Router x)) k p) (sym d.first) h.1),
      same_as_itself u,
    ),
    refl,
  ),
)
route_later w u x k (Refused NoSuch) v d such h = absurd (such tt)
route_later w u x k _ v d such h = absurd h

-- ---- the leader

module _ (w u : WorldValue) (d : Sees w u Leader) where
  same_lead : SameLead w u
  same_lead = d.lead refl

  same_course : last_course u ≡ last_course w
  same_course = λ i. record { number = same_lead.last i; old = (same_lead.old u.last ∙ ap w.old same_lead.last) i; new = (same_lead.new u.last ∙ ap w.new same_lead.last) i }

  same_opened : u.opened u.last ≡ w.opened w.last
  same_opened = same_lead.opened u.last ∙ ap w.opened same_lead.last

  wanting : (s q : ℕ) → IsWanting w s q → IsWanting u s q
  wanting s q h =
      record {
        last = h.last ∙ sym same_opened;
        due = subst (λ (c : Change). (k : ℕ) × (is_incoming c.old c.new s q k ≡ true)) (sym same_course) h.due;
        waiting = subst (λ (f : Queries). f.done (place_at u.last s q) ≡ false) (sym d.told) (subst (λ n. (w.facts Leader).done (place_at n s q) ≡ false) (sym same_lead.last) h.waiting);
      }

  wanted : (s q : ℕ) → IsWanting u s q → IsWanting w s q
  wanted s q h =
      record {
        last = h.last ∙ same_opened;
        due = subst (λ (c : Change). (k : ℕ) × (is_incoming c.old c.new s q k ≡ true)) same_course h.due;
        waiting = subst (λ (f : Queries). f.done (place_at w.last s q) ≡ false) d.told (subst (λ n. (u.facts Leader).done (place_at n s q) ≡ false) same_lead.last h.waiting);
      }

  same_count : last_count u ≡ last_count w
  same_count = ap (λ (c : Change). subplan_count c.old c.new) same_course

  over : IsOver w → IsOver u
  over h = (same_opened ∙ h.0 ∙ sym same_count, (λ s q x. h.1 s q (wanted s q x)))

  was_over : IsOver u → IsOver w
  was_over h = (sym same_opened ∙ h.0 ∙ same_count, (λ s q x. h.1 s q (wanting s q x)))

  open_later : (r : Answer) (v : WorldValue) → OpenStep w r v → Later u OpenNext r
  open_later (Opened s) v h =
      (after_open u, (Opened s, (h.0 ∙ sym same_opened, (λ t q x. h.1 t q (wanted t q x)), (λ e. h.2 (sym same_opened ∙ e ∙ same_count)), same_as_itself (after_open u)), refl))
  open_later (Refused (NotDone s q)) v h = (u, (Refused (NotDone s q), (wanting s q h.0, (λ p low x. h.1 p low (wanted s p x)), same_as_itself u), refl))
  open_later (Refused NoMore) v h = (u, (Refused NoMore, (over h.0, same_as_itself u), refl))
  open_later _ v h = absurd h

  -- as many partitions are there once the course has begun
  same_parts : (old new : List PlanRange) (parts : ℕ) (from : List PlanRange) → parts ≡ length (after_begin w from new).parts → parts ≡ length (after_begin u old new).parts
  same_parts old new parts from h = h ∙ ap (λ ps. length (ps ++ filter (λ p. names new p && not (list_any (λ q. q == p) ps)) (range_with_len 0 part_limit))) (sym same_lead.parts)

  begin_later : (plan : List PlanRange) (r : Answer) (v : WorldValue) → BeginStep w plan r v → Later u (Begin plan) r
  begin_later plan (Begun n parts) v h =
      let then : WorldValue = after_begin u (u.new u.last) plan in (
        then,
        (
          Begun n parts,
          (
            over h.0,
            subst (λ l. l < last_number) (sym same_lead.last) h.1,
            h.2,
            h.3 ∙ ap (λ l. l + 1) (sym same_lead.last),
            same_parts (u.new u.last) plan parts (w.new w.last) h.4,
            same_as_itself then,
          ),
          refl,
        ),
      )
  begin_later plan (Refused Running) v h = (u, (Refused Running, ((λ o. h.0 (was_over o)), same_as_itself u), refl))
  begin_later plan (Refused NoNumber) v h = (u, (Refused NoNumber, (over h.0, same_lead.last ∙ h.1, same_as_itself u), refl))
  begin_later plan _ v h = absurd h

  begin_from_later : (old new : List PlanRange) (r : Answer) (v : WorldValue) → (IsNotYet (BeginFrom old new) r → ⊥) → BeginFromStep w old new r v → Later u (BeginFrom old new) r
  begin_from_later old new (Begun n parts) v such h =
      let then : WorldValue = after_begin u old new in (
        then,
        (
          Begun n parts,
          (
            left h.0,
            subst (λ l. l < last_number) (sym same_lead.last) h.1,
            h.2,
            h.3,
            h.4 ∙ ap (λ l. l + 1) (sym same_lead.last),
            same_parts old new parts old h.5,
            same_as_itself then,
          ),
          refl,
        ),
      )
    where
      left : IsWhereLeft w old → IsWhereLeft u old
      left is k low = d.left refl k (owner_of old k) (is k low)
  begin_from_later old new (Refused Running) v such h = absurd (such tt)
  begin_from_later old new (Refused NoNumber) v such h = (u, (Refused NoNumber, ((λ k low. d.left refl k (owner_of old k) (h.0 k low)), same_lead.last ∙ h.1, same_as_itself u), refl))
  begin_from_later old new _ v such h = absurd h

-- ---- each event

keeps_there : (e : Event) (a b : Answer) → Alike e a b → (IsNotYet e a → ⊥) → IsNotYet e b → ⊥
keeps_there (Give p most) (Gave i x) (Gave j y) alike such is = is
keeps_there (GiveAt p k) (Gave i x) (Gave j y) alike such is = is
keeps_there (Send node) (Sent i) (Sent j) alike such is = is
keeps_there (SendPart node said) (Sent i) (Sent j) alike such is = is
keeps_there e a b alike such is = such (subst (λ c. IsNotYet e c) (sym alike) is)

give_line : (w u : WorldValue) (p most : ℕ) (a b : Answer) (l : Line) → Alike (Give p most) a b → IsLine w (Give p most) a l → IsLine u (Give p most) b l
give_line w u p most (Gave i x) (Gave j y) l alike line = line ∙ ap (Gift (Give p most)) alike
give_line w u p most (Gave i x) b l alike line = absurd (cc)
give_line w u p most a b l alike line = subst (λ y. IsLine u (Give p most) y l) alike line

give_at_line : (w u : WorldValue) (p k : ℕ) (a b : Answer) (l : Line) → Alike (GiveAt p k) a b → IsLine w (GiveAt p k) a l → IsLine u (GiveAt p k) b l
give_at_line w u p k (Gave i x) (Gave j y) l alike line = line ∙ ap (Gift (GiveAt p k)) alike
give_at_line w u p k (Gave i x) b l alike line = absurd (cc)
give_at_line w u p k a b l alike line = subst (λ y. IsLine u (GiveAt p k) y l) alike line

send_part_line : (w u : WorldValue) (node : Node) (said : BoardValue) (a b : Answer) (l : Line) → Alike (SendPart node said) a b → IsLine w (SendPart node said) a l → IsLine u (SendPart node said) b l
send_part_line w u node said (Sent i) (Sent j) l alike line = line
send_part_line w u node said (Sent i) b l alike line = absurd (cc)
send_part_line w u node said a b l alike line = subst (λ y. IsLine u (SendPart node said) y l) alike line

can : (u : WorldValue) (m : Node) (l : Line) (e : Event) (a : Answer) (g : Later u e a) → (IsNotYet e a → ⊥) → IsAt u e m → IsLine u e g.1.0 l → Can u m l
can u m l e a g such here line = (g.0, record { event = e; answer = g.1.0; step = g.1.1; there = keeps_there e a g.1.0 g.1.2 such; here = here; line = line })

at_part : (w u : WorldValue) (m n : Node) → m ≡ n → Sees w u m → Sees w u n
at_part w u m n same d = subst (λ x. Sees w u x) same d

enabled : (w u v : WorldValue) (m : Node) (e : Event) (a : Answer) (l : Line) → Sees w u m → IsThere w u l → Step w e a v → (IsNotYet e a → ⊥) → IsAt w e m → IsLine w e a l → Can u m l
enabled w u v m OpenNext a l d told h such here line = let g : Later u OpenNext a = open_later w u (at_part w u m Leader here d) a v h in can u m l OpenNext a g such here (line ∙ ap (Own OpenNext) g.1.2)
enabled w u v m (Begin plan) a l d told h such here line = let g : Later u (Begin plan) a = begin_later w u (at_part w u m Leader here d) plan a v h in can u m l (Begin plan) a g such here (line ∙ ap (Own (Begin plan)) g.1.2)
enabled w u v m (BeginFrom old new) a l d told h such here line = let g : Later u (BeginFrom old new) a = begin_from_later w u (at_part w u m Leader here d) old new a v such h in can u m l (BeginFrom old new) a g such here (line ∙ ap (Own (BeginFrom old new)) g.1.2)
enabled w u v m (Close p) a l d told h such here line = let g : Later u (Close p) a = close_later w u p (at_part w u m (Part p) here d) a v such h in can u m l (Close p) a g such here (line ∙ ap (Own (Close p)) g.1.2)
enabled w u v m (Give p most) a l d told h such here line = let g : Later u (Give p most) a = give_later w u p (at_part w u m (Part p) here d) most a v such h in can u m l (Give p most) a g such here (give_line w u p most a g.1.0 l g.1.2 line)
enabled w u v m (GiveAt p k) a l d told h such here line = let g : Later u (GiveAt p k) a = give_at_later w u p (at_part w u m (Part p) here d) k a v such h in can u m l (GiveAt p k) a g such here (give_at_line w u p k a g.1.0 l g.1.2 line)
enabled w u v m (Load i) a l d told h such here line =
    let g : Arrives w u i dis a = load_later w u i dis a v such h in
    let mine : here.0 ≡ g.1 = at_one w.chunks i here.0 g.1 here.1 g.2 in
    let same : line.0 ≡ g.1 = at_one w.chunks i line.0 g.1 line.1 g.2 in
    can u m l (Load g.0) a g.4 such (g.1, g.3, here.2 ∙ ap (λ (y : ChunkValue). Part y.dest) mine) (g.1, g.3, line.2 ∙ ap (λ (y : ChunkValue). Arrival y a) same ∙ ap (Arrival g.1) g.4.1.2)
  where
    dis : (x : ChunkValue) → slice_get w.chunks i ≡ Some x → Sees w u (Part x.dest)
    dis x there = at_part w u m (Part x.dest) (here.2 ∙ ap (λ (y : ChunkValue). Part y.dest) (at_one w.chunks i here.0 x here.1 there)) d
enabled w u v m (Finish p s) a l d told h such here line = let g : Later u (Finish p s) a = finish_later w u p (at_part w u m (Part p) here d) s a v such h in can u m l (Finish p s) a g such here (line ∙ ap (Own (Finish p s)) g.1.2)
enabled w u v m (Send node) a l d told h such here line =
    let e : Sees w u node = at_part w u m node here d in
    let g : Later u (Send node) a = send_later w u node e a v such h in
    can u m l (Send node) a g such here (line ∙ ap Saying (sym e.told))
enabled w u v m (SendPart node said) a l d told h such here line =
    let g : Later u (SendPart node said) a = send_part_later w u node (at_part w u m node here d) said a v such h in
    can u m l (SendPart node said) a g such here (send_part_line w u node said a g.1.0 l g.1.2 line)
enabled w u v m (Deliver i node) a l d told h such here line =
    let g : Comes w u node (at_part w u m node here d) i a = deliver_later w u node (at_part w u m node here d) i a v there such h in
    can u m l (Deliver g.0 node) a g.4 such here (g.1, g.3, line.2 ∙ ap Hearing (at_one w.messages i line.0 g.1 line.1 g.2))
  where
    there : (message : Queries) → slice_get w.messages i ≡ Some message → (j : ℕ) × (slice_get u.messages j ≡ Some message)
    there message at = told i message at (line.2 ∙ ap Hearing (at_one w.messages i line.0 message line.1 at))
enabled w u v m (Route x k) a l d told h such here line = let g : Later u (Route x k) a = route_later w u x k a v (at_part w u m (Router x) here d) such h in can u m l (Route x k) a g such here (line ∙ ap (Own (Route x k)) g.1.2)
enabled w u v m (Serve p k after) a l d told h such here line = let g : Later u (Serve p k after) a = serve_later w u p (at_part w u m (Part p) here d) k after a v such h in can u m l (Serve p k after) a g such here (line ∙ ap (Own (Serve p k after)) g.1.2)

pub can_happen : (w u v : WorldValue) (m : Node) (l : Line) → Sees w u m → IsThere w u l → Happens w m l v → Can u m l
can_happen w u v m l d there h = enabled w u v m h.event h.answer l d there h.step h.there h.here h.line

-- ---- after what another node did

there_still : {A : Type 0} (xs ys : List A) (k : ℕ) (p : A) → Grows xs ys → slice_get xs k ≡ Some p → slice_get ys k ≡ Some p
there_still xs ys k p g e = subst (λ zs. slice_get zs k ≡ Some p) (sym g.1) (at_front xs g.0 k p e)

pub events_enable : EventsEnable
events_enable w v u m n l k reached mine other apart = can_happen w u v m l sees (λ i q at line. (i, there_still w.messages u.messages i q d.messages at)) mine
  where
    first : 1 ≤ w.last
    first = course_begun w reached

    d : Undisturbed w u m
    d = nodes_are_apart w u other.event other.answer m first other.step (λ at. apart (one_place w other.event m n at other.here))

    sees : Sees w u m
    sees =
        record {
          told = d.told;
          part = d.part;
          lead = d.lead;
          left = λ is. leaves w u (d.lead is) (λ c p j h. loaded_step w u n k p c j first other h) (λ c p j h. shut_step w u n k p c j first other h);
          first = d.first;
          routers = d.routers;
          parts = λ p is. subst (λ ps. list_any (λ q. q == p) ps ≡ true) (sym d.parts.1) (list_any-append (λ q. q == p) w.parts d.parts.0 ∙ or_left (is_part w p) (list_any (λ q. q == p) d.parts.0) is);
          chunks = λ i x at. (i, there_still w.chunks u.chunks i x d.chunks at);
        }
