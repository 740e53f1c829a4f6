-- What a line makes: a chunk, a message, or neither. So the chunks and messages of a world follow from the lines of its run.
use Rattle.std.proofs.Common.{◌≡◌, ◌⊎◌, ℕ, true, false, List, [], ◌∷◌, ◌++◌, length, refl, sym, ap, ◌∙◌, subst, inl, inr, ⊎_elim}
use Rattle.std.specs.Prelude.{Some}
use Rattle.std.specs.List.{slice_get}
use Rattle.std.proofs.lemmas.Bool.{cases_Bool, cond-true, cond-false}
use Rattle.squall_plan.specs.declared.range.PlanRange.{PlanRange}
use Rattle.squall_report.specs.Queries.{Queries}
use Rattle.squall_board.specs.Boards.{BoardValue}
use Rattle.squall_board.specs.BoardQueries.{queries_of}
use Rattle.squall_protocol.specs.Chunks.{ChunkValue}
use Rattle.squall_protocol.specs.declared.event.Node.{Node}
use Rattle.squall_protocol.specs.declared.event.Node.TheVariants.{Part}
use Rattle.squall_protocol.specs.declared.event.Event.{Event}
use Rattle.squall_protocol.specs.declared.event.Event.TheVariants.{OpenNext, Begin, BeginFrom, Close, Give, GiveAt, Load, Finish, Send, SendPart, Deliver, Route, Serve}
use Rattle.squall_protocol.specs.declared.answer.Answer.{Answer}
use Rattle.squall_protocol.specs.declared.answer.Answer.TheVariants.{Opened, Begun, Closed, Gave, Loaded, Again, Finished, Sent, Delivered, Routed, Served, Refused}
use Rattle.squall_protocol.specs.declared.answer.Refusal.TheVariants.{NoSuch, NotDone, NoMore, Running, NoNumber, NotOpen, Ended, NothingLeft, ZeroMax, NotOutgoing, Given, NotHeld, Stranger, NotAll, NothingDue, NotKnown}
use Rattle.squall_protocol.specs.Worlds.{WorldValue, same_node}
use Rattle.squall_protocol.specs.Steps.{OpenStep, BeginStep, BeginFromStep, CloseStep, GiveStep, GiveAtStep, LoadStep, FinishStep, SendStep, SendPartStep, DeliverStep, RouteStep, ServeStep, Step}
use Rattle.squall_protocol.specs.ListLaws.{at_front, at_end, at_either}
use Rattle.squall_audit.specs.Apart.{IsAt}
use Rattle.squall_audit.specs.Lines.{Line, Own, Gift, Saying, IsLine, IsNotYet, Happens, Trace, lines_at}
use Rattle.squall_audit.proofs.Views.{same_self}

abbrev IsPlain : Line → Type 0
IsPlain (Gift e x) = ⊥
IsPlain (Saying q) = ⊥
IsPlain l = Unit {0}

pub data Fate (w v : WorldValue) (m : Node) (l : Line) : Type 0 where
  Still : (chunks : v.chunks ≡ w.chunks) (messages : v.messages ≡ w.messages) (plain : IsPlain l) → Fate w v m l
  Chunk : (e : Event) (x : ChunkValue) (line : l ≡ Gift e x) (at : m ≡ Part x.source) (chunks : v.chunks ≡ w.chunks ++ x ∷ []) (messages : v.messages ≡ w.messages) → Fate w v m l
  Message : (q : Queries) (line : l ≡ Saying q) (chunks : v.chunks ≡ w.chunks) (messages : v.messages ≡ w.messages ++ q ∷ []) → Fate w v m l

own : (l : Line) (e : Event) (a : Answer) → l ≡ Own e a → IsPlain l
own l e a line = subst IsPlain (sym line) tt

module _ (w v : WorldValue) (m : Node) (l : Line) where
  open_fate : (a : Answer) → l ≡ Own OpenNext a → OpenStep w a v → Fate w v m l
  open_fate (Opened s) line h = Still h.3.chunks h.3.messages (own l OpenNext (Opened s) line)
  open_fate (Refused (NotDone s q)) line h = Still h.2.chunks h.2.messages (own l OpenNext (Refused (NotDone s q)) line)
  open_fate (Refused NoMore) line h = Still h.1.chunks h.1.messages (own l OpenNext (Refused NoMore) line)
  open_fate _ line h = absurd h

  begin_fate : (plan : List PlanRange) (a : Answer) → l ≡ Own (Begin plan) a → BeginStep w plan a v → Fate w v m l
  begin_fate plan (Begun n parts) line h = Still h.5.chunks h.5.messages (own l (Begin plan) (Begun n parts) line)
  begin_fate plan (Refused Running) line h = Still h.1.chunks h.1.messages (own l (Begin plan) (Refused Running) line)
  begin_fate plan (Refused NoNumber) line h = Still h.2.chunks h.2.messages (own l (Begin plan) (Refused NoNumber) line)
  begin_fate plan _ line h = absurd h

  begin_from_fate : (old new : List PlanRange) (a : Answer) → l ≡ Own (BeginFrom old new) a → BeginFromStep w old new a v → Fate w v m l
  begin_from_fate old new (Begun n parts) line h = Still h.6.chunks h.6.messages (own l (BeginFrom old new) (Begun n parts) line)
  begin_from_fate old new (Refused Running) line h = Still h.1.chunks h.1.messages (own l (BeginFrom old new) (Refused Running) line)
  begin_from_fate old new (Refused NoNumber) line h = Still h.2.chunks h.2.messages (own l (BeginFrom old new) (Refused NoNumber) line)
  begin_from_fate old new _ line h = absurd h

  close_fate : (p : ℕ) (a : Answer) → l ≡ Own (Close p) a → CloseStep w p a v → Fate w v m l
  close_fate p (Closed n) line h = Still h.1.3.chunks h.1.3.messages (own l (Close p) (Closed n) line)
  close_fate p (Refused NoSuch) line h = Still h.1.chunks h.1.messages (own l (Close p) (Refused NoSuch) line)
  close_fate p _ line h = absurd h

  give_fate : (p most : ℕ) (a : Answer) → m ≡ Part p → IsLine w (Give p most) a l → GiveStep w p most a v → Fate w v m l
  give_fate p most (Gave i x) at line h = Chunk (Give p most) x line (at ∙ ap Part (sym h.2.4.source)) h.3.chunks h.3.messages
  give_fate p most (Refused NoSuch) at line h = Still h.1.chunks h.1.messages (own l (Give p most) (Refused NoSuch) line)
  give_fate p most (Refused NotOpen) at line h = Still h.2.chunks h.2.messages (own l (Give p most) (Refused NotOpen) line)
  give_fate p most (Refused Ended) at line h = Still h.2.chunks h.2.messages (own l (Give p most) (Refused Ended) line)
  give_fate p most (Refused NothingLeft) at line h = Still h.2.chunks h.2.messages (own l (Give p most) (Refused NothingLeft) line)
  give_fate p most (Refused ZeroMax) at line h = Still h.3.chunks h.3.messages (own l (Give p most) (Refused ZeroMax) line)
  give_fate p most _ at line h = absurd h

  give_at_fate : (p k : ℕ) (a : Answer) → m ≡ Part p → IsLine w (GiveAt p k) a l → GiveAtStep w p k a v → Fate w v m l
  give_at_fate p k (Gave i x) at line h = Chunk (GiveAt p k) x line (at ∙ ap Part (sym h.2.7.source)) h.3.chunks h.3.messages
  give_at_fate p k (Refused NoSuch) at line h = Still h.1.chunks h.1.messages (own l (GiveAt p k) (Refused NoSuch) line)
  give_at_fate p k (Refused NotOpen) at line h = Still h.2.chunks h.2.messages (own l (GiveAt p k) (Refused NotOpen) line)
  give_at_fate p k (Refused Ended) at line h = Still h.2.chunks h.2.messages (own l (GiveAt p k) (Refused Ended) line)
  give_at_fate p k (Refused NotOutgoing) at line h = Still h.2.chunks h.2.messages (own l (GiveAt p k) (Refused NotOutgoing) line)
  give_at_fate p k (Refused Given) at line h = Still h.2.chunks h.2.messages (own l (GiveAt p k) (Refused Given) line)
  give_at_fate p k (Refused NotHeld) at line h = Still h.2.chunks h.2.messages (own l (GiveAt p k) (Refused NotHeld) line)
  give_at_fate p k _ at line h = absurd h

  load_fate : (i : ℕ) (a : Answer) → IsPlain l → LoadStep w i a v → Fate w v m l
  load_fate i (Loaded report) plain h = Still h.5.chunks h.5.messages plain
  load_fate i Again plain h = Still h.1.chunks h.1.messages plain
  load_fate i (Refused NoSuch) plain h = Still h.1.chunks h.1.messages plain
  load_fate i (Refused NotOpen) plain h = Still h.1.chunks h.1.messages plain
  load_fate i (Refused Stranger) plain h = Still h.1.chunks h.1.messages plain
  load_fate i _ plain h = absurd h

  finish_fate : (p s : ℕ) (a : Answer) → l ≡ Own (Finish p s) a → FinishStep w p s a v → Fate w v m l
  finish_fate p s (Finished report) line h = Still h.1.5.chunks h.1.5.messages (own l (Finish p s) (Finished report) line)
  finish_fate p s (Refused NoSuch) line h = Still h.1.chunks h.1.messages (own l (Finish p s) (Refused NoSuch) line)
  finish_fate p s (Refused NotOpen) line h = Still h.2.chunks h.2.messages (own l (Finish p s) (Refused NotOpen) line)
  finish_fate p s (Refused (NotAll span)) line h = Still h.2.chunks h.2.messages (own l (Finish p s) (Refused (NotAll span)) line)
  finish_fate p s (Refused NothingDue) line h = Still h.2.chunks h.2.messages (own l (Finish p s) (Refused NothingDue) line)
  finish_fate p s _ line h = absurd h

  send_fate : (node : Node) (a : Answer) → (IsNotYet (Send node) a → ⊥) → l ≡ Saying (w.facts node) → SendStep w node a v → Fate w v m l
  send_fate node (Sent index) such line h = Message (w.facts node) line h.2.chunks h.2.messages
  send_fate node (Refused NoSuch) such line h = absurd (such tt)
  send_fate node _ such line h = absurd h

  send_part_fate : (node : Node) (said : BoardValue) (a : Answer) → (IsNotYet (SendPart node said) a → ⊥) → IsLine w (SendPart node said) a l → SendPartStep w node said a v → Fate w v m l
  send_part_fate node said (Sent index) such line h = Message (queries_of said) line h.3.chunks h.3.messages
  send_part_fate node said (Refused NoSuch) such line h = absurd (such tt)
  send_part_fate node said (Refused NotKnown) such line h = Still h.2.chunks h.2.messages (own l (SendPart node said) (Refused NotKnown) line)
  send_part_fate node said _ such line h = absurd h

  deliver_fate : (i : ℕ) (node : Node) (a : Answer) → IsPlain l → DeliverStep w i node a v → Fate w v m l
  deliver_fate i node Delivered plain h = Still h.1.2.chunks h.1.2.messages plain
  deliver_fate i node (Refused NoSuch) plain h = Still h.1.chunks h.1.messages plain
  deliver_fate i node _ plain h = absurd h

  route_fate : (r k : ℕ) (a : Answer) → l ≡ Own (Route r k) a → RouteStep w r k a v → Fate w v m l
  route_fate r k (Routed p) line h = Still h.2.chunks h.2.messages (own l (Route r k) (Routed p) line)
  route_fate r k (Refused NoSuch) line h = Still h.1.chunks h.1.messages (own l (Route r k) (Refused NoSuch) line)
  route_fate r k _ line h = absurd h

  serve_fate : (p k after : ℕ) (a : Answer) → l ≡ Own (Serve p k after) a → ServeStep w p k after a v → Fate w v m l
  serve_fate p k after (Served reply) line h = Still h.2.chunks h.2.messages (own l (Serve p k after) (Served reply) line)
  serve_fate p k after (Refused NoSuch) line h = Still h.1.chunks h.1.messages (own l (Serve p k after) (Refused NoSuch) line)
  serve_fate p k after _ line h = absurd h

  fate_of : (e : Event) (a : Answer) → Step w e a v → (IsNotYet e a → ⊥) → IsAt w e m → IsLine w e a l → Fate w v m l
  fate_of OpenNext a h such at line = open_fate a line h
  fate_of (Begin plan) a h such at line = begin_fate plan a line h
  fate_of (BeginFrom old new) a h such at line = begin_from_fate old new a line h
  fate_of (Close p) a h such at line = close_fate p a line h
  fate_of (Give p most) a h such at line = give_fate p most a at line h
  fate_of (GiveAt p k) a h such at line = give_at_fate p k a at line h
  fate_of (Load i) a h such at line = load_fate i a (subst IsPlain (sym line.2) tt) h
  fate_of (Finish p s) a h such at line = finish_fate p s a line h
  fate_of (Send node) a h such at line = send_fate node a such line h
  fate_of (SendPart node said) a h such at line = send_part_fate node said a such line h
  fate_of (Deliver i node) a h such at line = deliver_fate i node a (subst IsPlain (sym line.2) tt) h
  fate_of (Route r k) a h such at line = route_fate r k a line h
  fate_of (Serve p k after) a h such at line = serve_fate p k after a line h

pub fate : (w v : WorldValue) (m : Node) (l : Line) → Happens w m l v → Fate w v m l
fate w v m l h = fate_of w v m l h.event h.answer h.step h.there h.here h.line

-- ---- lines of a node

abbrev pub Has : List Line → Line → Type 0
Has [] k = ⊥
Has (l ∷ ls) k = (l ≡ k) ⊎ Has ls k

pub has_front : (xs ys : List Line) (k : Line) → Has xs k → Has (xs ++ ys) k
has_front [] ys k h = absurd h
has_front (x ∷ xs) ys k h = ⊎_elim (λ (e : x ≡ k). inl e) (λ (g : Has xs k). inr (has_front xs ys k g)) h

pub has_back : (xs ys : List Line) (k : Line) → Has ys k → Has (xs ++ ys) k
has_back [] ys k h = h
has_back (x ∷ xs) ys k h = inr (has_back xs ys k h)

has_first : (m n : Node) (l k : Line) (ts : List (Node × Line)) → n ≡ m → l ≡ k → Has (lines_at m ((n, l) ∷ ts)) k
has_first m n l k ts same line =
    subst (λ xs. Has xs k) (sym (cond-true (same_node m n) (l ∷ lines_at m ts) (lines_at m ts) (subst (λ x. same_node m x ≡ true) (sym same) (same_self m)))) (inl line)

has_more : (m n : Node) (l k : Line) (ts : List (Node × Line)) → Has (lines_at m ts) k → Has (lines_at m ((n, l) ∷ ts)) k
has_more m n l k ts h = ⊎_elim
    (λ (e : same_node m n ≡ true). subst (λ xs. Has xs k) (sym (cond-true (same_node m n) (l ∷ lines_at m ts) (lines_at m ts) e)) (inr h))
    (λ (e : same_node m n ≡ false). subst (λ xs. Has xs k) (sym (cond-false (same_node m n) (l ∷ lines_at m ts) (lines_at m ts) e)) h)
    (cases_Bool (same_node m n))

has_split : (m n : Node) (l k : Line) (ts : List (Node × Line)) → Has (lines_at m ((n, l) ∷ ts)) k → (l ≡ k) ⊎ Has (lines_at m ts) k
has_split m n l k ts h = ⊎_elim
    (λ (e : same_node m n ≡ true). subst (λ xs. Has xs k) (cond-true (same_node m n) (l ∷ lines_at m ts) (lines_at m ts) e) h)
    (λ (e : same_node m n ≡ false). inr (subst (λ xs. Has xs k) (cond-false (same_node m n) (l ∷ lines_at m ts) (lines_at m ts) e) h))
    (cases_Bool (same_node m n))

-- ---- chunks

chunk_stays : (w v : WorldValue) (n : Node) (l : Line) (i : ℕ) (x : ChunkValue) → Fate w v n l → slice_get w.chunks i ≡ Some x → slice_get v.chunks i ≡ Some x
chunk_stays w v n l i x (Still cs ms plain) at = subst (λ xs. slice_get xs i ≡ Some x) (sym cs) at
chunk_stays w v n l i x (Chunk e y line here cs ms) at = subst (λ xs. slice_get xs i ≡ Some x) (sym cs) (at_front w.chunks (y ∷ []) i x at)
chunk_stays w v n l i x (Message q line cs ms) at = subst (λ xs. slice_get xs i ≡ Some x) (sym cs) at

pub chunks_stay : (s u : WorldValue) (ts : List (Node × Line)) (i : ℕ) (x : ChunkValue) → Trace s ts u → slice_get s.chunks i ≡ Some x → slice_get u.chunks i ≡ Some x
chunks_stay s u [] i x trace at = subst (λ (w : WorldValue). slice_get w.chunks i ≡ Some x) (sym trace) at
chunks_stay s u ((n, l) ∷ ts) i x trace at = chunks_stay trace.0 u ts i x trace.2 (chunk_stays s trace.0 n l i x (fate s trace.0 n l trace.1) at)

-- a chunk was there, or a line of its source has it
pub chunk_told : (s v : WorldValue) (ts : List (Node × Line)) (i : ℕ) (x : ChunkValue) → Trace s ts v → slice_get v.chunks i ≡ Some x
    → ((j : ℕ) × (slice_get s.chunks j ≡ Some x)) ⊎ ((e : Event) × Has (lines_at (Part x.source) ts) (Gift e x))
chunk_told s v [] i x trace at = inl (i, subst (λ (w : WorldValue). slice_get w.chunks i ≡ Some x) trace at)
chunk_told s v ((n, l) ∷ ts) i x trace at = ⊎_elim
    (λ (old : (j : ℕ) × (slice_get trace.0.chunks j ≡ Some x)). before old.0 old.1 (fate s trace.0 n l trace.1))
    (λ (new : (e : Event) × Has (lines_at (Part x.source) ts) (Gift e x)). inr (new.0, has_more (Part x.source) n l (Gift new.0 x) ts new.1))
    (chunk_told trace.0 v ts i x trace.2 at)
  where
    before : (j : ℕ) → slice_get trace.0.chunks j ≡ Some x → Fate s trace.0 n l → ((j : ℕ) × (slice_get s.chunks j ≡ Some x)) ⊎ ((e : Event) × Has (lines_at (Part x.source) ((n, l) ∷ ts)) (Gift e x))
    before j here (Still cs ms plain) = inl (j, subst (λ xs. slice_get xs j ≡ Some x) cs here)
    before j here (Message q line cs ms) = inl (j, subst (λ xs. slice_get xs j ≡ Some x) cs here)
    before j here (Chunk e y line at_y cs ms) = ⊎_elim
        (λ (old : slice_get s.chunks j ≡ Some x). inl (j, old))
        (λ (new : (j ≡ length s.chunks) × (y ≡ x)). inr (e, has_first (Part x.source) n l (Gift e x) ts (at_y ∙ ap (λ (z : ChunkValue). Part z.source) new.1) (line ∙ ap (Gift e) new.1)))
        (at_either s.chunks y j x (subst (λ xs. slice_get xs j ≡ Some x) cs here))

-- and what a line gave is there
pub gift_there : (s u : WorldValue) (ts : List (Node × Line)) (m : Node) (e : Event) (x : ChunkValue) → Trace s ts u → Has (lines_at m ts) (Gift e x) → (j : ℕ) × (slice_get u.chunks j ≡ Some x)
gift_there s u [] m e x trace h = absurd h
gift_there s u ((n, l) ∷ ts) m e x trace h = ⊎_elim
    (λ (line : l ≡ Gift e x). now line (fate s trace.0 n l trace.1))
    (λ (later : Has (lines_at m ts) (Gift e x)). gift_there trace.0 u ts m e x trace.2 later)
    (has_split m n l (Gift e x) ts h)
  where
    same : (f : Event) (y : ChunkValue) → Gift f y ≡ Gift e x → y ≡ x
    same f y g = cc

    apart : (q : Queries) → Saying q ≡ Gift e x → ⊥
    apart q g = cc

    now : l ≡ Gift e x → Fate s trace.0 n l → (j : ℕ) × (slice_get u.chunks j ≡ Some x)
    now line (Still cs ms plain) = absurd (subst IsPlain line plain)
    now line (Message q said cs ms) = absurd (apart q (sym said ∙ line))
    now line (Chunk f y gave at_y cs ms) = (
      length s.chunks,
      chunks_stay trace.0 u ts (length s.chunks) x trace.2
          (subst (λ xs. slice_get xs (length s.chunks) ≡ Some x) (sym cs) (subst (λ z. slice_get (s.chunks ++ y ∷ []) (length s.chunks) ≡ Some z) (same f y (sym gave ∙ line)) (at_end s.chunks y))),
    )

-- ---- messages

message_stays : (w v : WorldValue) (n : Node) (l : Line) (i : ℕ) (q : Queries) → Fate w v n l → slice_get w.messages i ≡ Some q → slice_get v.messages i ≡ Some q
message_stays w v n l i q (Still cs ms plain) at = subst (λ xs. slice_get xs i ≡ Some q) (sym ms) at
message_stays w v n l i q (Chunk e y line here cs ms) at = subst (λ xs. slice_get xs i ≡ Some q) (sym ms) at
message_stays w v n l i q (Message r line cs ms) at = subst (λ xs. slice_get xs i ≡ Some q) (sym ms) (at_front w.messages (r ∷ []) i q at)

pub messages_stay : (s u : WorldValue) (ts : List (Node × Line)) (i : ℕ) (q : Queries) → Trace s ts u → slice_get s.messages i ≡ Some q → slice_get u.messages i ≡ Some q
messages_stay s u [] i q trace at = subst (λ (w : WorldValue). slice_get w.messages i ≡ Some q) (sym trace) at
messages_stay s u ((n, l) ∷ ts) i q trace at = messages_stay trace.0 u ts i q trace.2 (message_stays s trace.0 n l i q (fate s trace.0 n l trace.1) at)

pub message_told : (s v : WorldValue) (ts : List (Node × Line)) (i : ℕ) (q : Queries) → Trace s ts v → slice_get v.messages i ≡ Some q
    → ((j : ℕ) × (slice_get s.messages j ≡ Some q)) ⊎ ((m : Node) × Has (lines_at m ts) (Saying q))
message_told s v [] i q trace at = inl (i, subst (λ (w : WorldValue). slice_get w.messages i ≡ Some q) trace at)
message_told s v ((n, l) ∷ ts) i q trace at = ⊎_elim
    (λ (old : (j : ℕ) × (slice_get trace.0.messages j ≡ Some q)). before old.0 old.1 (fate s trace.0 n l trace.1))
    (λ (new : (m : Node) × Has (lines_at m ts) (Saying q)). inr (new.0, has_more new.0 n l (Saying q) ts new.1))
    (message_told trace.0 v ts i q trace.2 at)
  where
    before : (j : ℕ) → slice_get trace.0.messages j ≡ Some q → Fate s trace.0 n l → ((j : ℕ) × (slice_get s.messages j ≡ Some q)) ⊎ ((m : Node) × Has (lines_at m ((n, l) ∷ ts)) (Saying q))
    before j here (Still cs ms plain) = inl (j, subst (λ xs. slice_get xs j ≡ Some q) ms here)
    before j here (Chunk e y line at_y cs ms) = inl (j, subst (λ xs. slice_get xs j ≡ Some q) ms here)
    before j here (Message r line cs ms) = ⊎_elim
        (λ (old : slice_get s.messages j ≡ Some q). inl (j, old))
        (λ (new : (j ≡ length s.messages) × (r ≡ q)). inr (n, has_first n n l (Saying q) ts refl (line ∙ ap Saying new.1)))
        (at_either s.messages r j q (subst (λ xs. slice_get xs j ≡ Some q) ms here))

pub saying_there : (s u : WorldValue) (ts : List (Node × Line)) (m : Node) (q : Queries) → Trace s ts u → Has (lines_at m ts) (Saying q) → (j : ℕ) × (slice_get u.messages j ≡ Some q)
saying_there s u [] m q trace h = absurd h
saying_there s u ((n, l) ∷ ts) m q trace h = ⊎_elim
    (λ (line : l ≡ Saying q). now line (fate s trace.0 n l trace.1))
    (λ (later : Has (lines_at m ts) (Saying q)). saying_there trace.0 u ts m q trace.2 later)
    (has_split m n l (Saying q) ts h)
  where
    same : (r : Queries) → Saying r ≡ Saying q → r ≡ q
    same r g = cc

    apart : (f : Event) (y : ChunkValue) → Gift f y ≡ Saying q → ⊥
    apart f y g = cc

    now : l ≡ Saying q → Fate s trace.0 n l → (j : ℕ) × (slice_get u.messages j ≡ Some q)
    now line (Still cs ms plain) = absurd (subst IsPlain line plain)
    now line (Chunk f y gave at_y cs ms) = absurd (apart f y (sym gave ∙ line))
    now line (Message r said cs ms) = (
      length s.messages,
      messages_stay trace.0 u ts (length s.messages) q trace.2
          (subst (λ xs. slice_get xs (length s.messages) ≡ Some q) (sym ms) (subst (λ z. slice_get (s.messages ++ r ∷ []) (length s.messages) ≡ Some z) (same r (sym said ∙ line)) (at_end s.messages r))),
    )
