-- What was loaded stays loaded, and a partition that gives no more in a course gives none of its keys. So where a course leaves a key is
-- found out once and for all.
use Rattle.std.proofs.Common.{◌≡◌, ◌≢◌, ◌⊎◌, ℕ, ◌≤◌, ◌==◌, ◌&&◌, ◌||◌, Bool, true, false, List, [], ◌∷◌, refl, sym, ap, ◌∙◌, subst, inl, inr, ⊎_elim}
use Rattle.std.proofs.lemmas.Bool.{cases_Bool, both_ways, or_left, eqb-true}
use Rattle.squall_span.specs.Spans.{span_has}
use Rattle.squall_plan.specs.Ranges.{owner_of}
use Rattle.squall_report.specs.declared.report.ReportKind.TheVariants.{Done}
use Rattle.squall_protocol.specs.Chunks.{ChunkValue}
use Rattle.squall_protocol.specs.declared.event.Node.{Node}
use Rattle.squall_protocol.specs.declared.event.Node.TheVariants.{Part}
use Rattle.squall_protocol.specs.declared.event.Event.{Event}
use Rattle.squall_protocol.specs.declared.event.Event.TheVariants.{OpenNext, Begin, BeginFrom, Close, Give, GiveAt, Load, Finish, Send, SendPart, Deliver, Route, Serve}
use Rattle.squall_protocol.specs.declared.answer.Answer.{Answer}
use Rattle.squall_protocol.specs.declared.answer.Answer.TheVariants.{Opened, Begun, Closed, Gave, Loaded, Finished, Sent, Refused}
use Rattle.squall_protocol.specs.Worlds.{WorldValue, same_node}
use Rattle.squall_protocol.specs.Steps.{LeavesAt, Step}
use Rattle.squall_audit.specs.Apart.{IsAt, SameLead}
use Rattle.squall_audit.specs.Lines.{Line, Own, Gift, Arrival, Saying, Hearing, IsLine, Happens, View, view, after_line, after_lines}
use Rattle.squall_audit.proofs.Views.{own_view, other_view, same_nodes, other_nodes}

-- ---- a gift is of a course in which the partition still gives

same_gift : (e f : Event) (x y : ChunkValue) → Gift e x ≡ Gift f y → x ≡ y
same_gift e f x y h = cc

same_part : (p q : ℕ) → Part p ≡ Part q → p ≡ q
same_part p q h = cc

no_own : (e f : Event) (x : ChunkValue) (a : Answer) → Gift e x ≡ Own f a → ⊥
no_own e f x a h = cc

gift_by : (w v : WorldValue) (p : ℕ) (d e : Event) (a : Answer) (x : ChunkValue) → Step w d a v → IsAt w d (Part p) → IsLine w d a (Gift e x) → w.closed x.number p ≡ false
gift_by w v p (Give q most) e (Gave i y) x h at line =
    subst (λ (z : ChunkValue). w.closed z.number p ≡ false) (sym (same_gift e (Give q most) x y line))
    (subst (λ n. w.closed n p ≡ false) (sym h.2.4.number) (subst (λ r. w.closed h.2.0.number r ≡ false) (sym (same_part p q at)) h.2.2.2))
gift_by w v p (Give q most) e (Refused r) x h at line = absurd (no_own e (Give q most) x (Refused r) line)
gift_by w v p (Give q most) e _ x h at line = absurd h
gift_by w v p (GiveAt q k) e (Gave i y) x h at line =
    subst (λ (z : ChunkValue). w.closed z.number p ≡ false) (sym (same_gift e (GiveAt q k) x y line))
    (subst (λ n. w.closed n p ≡ false) (sym h.2.7.number) (subst (λ r. w.closed h.2.0.number r ≡ false) (sym (same_part p q at)) h.2.2.2))
gift_by w v p (GiveAt q k) e (Refused r) x h at line = absurd (no_own e (GiveAt q k) x (Refused r) line)
gift_by w v p (GiveAt q k) e _ x h at line = absurd h
gift_by w v p OpenNext e a x h at line = absurd (no_own e OpenNext x a line)
gift_by w v p (Begin plan) e a x h at line = absurd (no_own e (Begin plan) x a line)
gift_by w v p (BeginFrom old new) e a x h at line = absurd (no_own e (BeginFrom old new) x a line)
gift_by w v p (Close q) e a x h at line = absurd (no_own e (Close q) x a line)
gift_by w v p (Load i) e a x h at line = absurd (no line.0 line.2)
  where
    no : (y : ChunkValue) → Gift e x ≡ Arrival y a → ⊥
    no y g = cc
gift_by w v p (Finish q s) e a x h at line = absurd (no_own e (Finish q s) x a line)
gift_by w v p (Send node) e a x h at line = absurd (no line)
  where
    no : Gift e x ≡ Saying (w.facts node) → ⊥
    no g = cc
gift_by w v p (SendPart node said) e (Sent i) x h at line = absurd (cc)
gift_by w v p (SendPart node said) e (Refused r) x h at line = absurd (no_own e (SendPart node said) x (Refused r) line)
gift_by w v p (SendPart node said) e _ x h at line = absurd h
gift_by w v p (Deliver i node) e a x h at line = absurd (no line.0 line.2)
  where
    no : (q : _) → Gift e x ≡ Hearing q → ⊥
    no q g = cc
gift_by w v p (Route r k) e a x h at line = absurd (no_own e (Route r k) x a line)
gift_by w v p (Serve q k after) e a x h at line = absurd (no_own e (Serve q k after) x a line)

-- ---- what lines leave as it was

-- the partition gives no more in the course, and has not given the key
pub record IsShut (V : View) (c k : ℕ) : Type 0 where
  pub closed : V.closed c ≡ true
  pub given : V.given c k ≡ false

still_not : (a n b : Bool) → a ≡ false → n ≡ false → (a || (n && b)) ≡ false
still_not false false b e f = refl
still_not true n b e f = e
still_not false true b e f = absurd (cc)

shut_line : (l : Line) (V : View) (c k : ℕ) → ((e : Event) (x : ChunkValue) → l ≡ Gift e x → V.closed x.number ≡ false) → IsShut V c k → IsShut (after_line l V) c k
shut_line (Own OpenNext (Opened s)) V c k gives h = record { closed = h.closed; given = h.given }
shut_line (Own (Begin plan) (Begun n parts)) V c k gives h = record { closed = h.closed; given = h.given }
shut_line (Own (BeginFrom old new) (Begun n parts)) V c k gives h = record { closed = h.closed; given = h.given }
shut_line (Own (Close p) (Closed n)) V c k gives h = record { closed = or_left (V.closed c) (c == n) h.closed; given = h.given }
shut_line (Own (Finish p s) (Finished (Done n t q))) V c k gives h = record { closed = h.closed; given = h.given }
shut_line (Gift e x) V c k gives h = record { closed = h.closed; given = still_not (V.given c k) (c == x.number) (span_has x.span k) h.given other }
  where
    other : (c == x.number) ≡ false
    other = ⊎_elim
        (λ (same : (c == x.number) ≡ true). absurd (both_ways (V.closed x.number) (gives e x refl) (subst (λ n. V.closed n ≡ true) (eqb-true c x.number same) h.closed)))
        (λ (apart : (c == x.number) ≡ false). apart)
        (cases_Bool (c == x.number))
shut_line (Arrival x (Loaded report)) V c k gives h = record { closed = h.closed; given = h.given }
shut_line (Hearing message) V c k gives h = record { closed = h.closed; given = h.given }
shut_line l V c k gives h = h

loaded_line : (l : Line) (V : View) (c k : ℕ) → V.loaded c k ≡ true → (after_line l V).loaded c k ≡ true
loaded_line (Own OpenNext (Opened s)) V c k h = h
loaded_line (Own (Begin plan) (Begun n parts)) V c k h = h
loaded_line (Own (BeginFrom old new) (Begun n parts)) V c k h = h
loaded_line (Own (Close p) (Closed n)) V c k h = h
loaded_line (Own (Finish p s) (Finished (Done n t q))) V c k h = h
loaded_line (Gift e x) V c k h = h
loaded_line (Arrival x (Loaded report)) V c k h = or_left (V.loaded c k) ((c == x.number) && span_has x.span k) h
loaded_line (Hearing message) V c k h = h
loaded_line l V c k h = h

pub loaded_lines : (ls : List Line) (V : View) (c k : ℕ) → V.loaded c k ≡ true → (after_lines ls V).loaded c k ≡ true
loaded_lines [] V c k h = h
loaded_lines (l ∷ ls) V c k h = loaded_lines ls (after_line l V) c k (loaded_line l V c k h)

-- ---- over a step

pub view_step : (w v : WorldValue) (m n : Node) (l : Line) → 1 ≤ w.last → Happens w n l v → ((m ≡ n) × (view m v ≡ after_line l (view m w))) ⊎ ((same_node m n ≡ false) × (view m v ≡ view m w))
view_step w v m n l first h = ⊎_elim
    (λ (same : same_node m n ≡ true). inl (same_nodes m n same, subst (λ x. view x v ≡ after_line l (view x w)) (sym (same_nodes m n same)) (own_view w v n l h)))
    (λ (other : same_node m n ≡ false). inr (other, other_view w v n m l first h (other_nodes m n other)))
    (cases_Bool (same_node m n))

pub shut_step : (w v : WorldValue) (n : Node) (l : Line) (p c k : ℕ) → 1 ≤ w.last → Happens w n l v → IsShut (view (Part p) w) c k → IsShut (view (Part p) v) c k
shut_step w v n l p c k first h is = ⊎_elim
    (λ (own : (Part p ≡ n) × (view (Part p) v ≡ after_line l (view (Part p) w))).
    subst (λ V. IsShut V c k) (sym own.1)
    (shut_line l (view (Part p) w) c k (λ e x line. gift_by w v p h.event e h.answer x h.step (subst (IsAt w h.event) (sym own.0) h.here) (subst (IsLine w h.event h.answer) line h.line)) is))
    (λ (other : (same_node (Part p) n ≡ false) × (view (Part p) v ≡ view (Part p) w)). subst (λ V. IsShut V c k) (sym other.1) is)
    (view_step w v (Part p) n l first h)

pub loaded_step : (w v : WorldValue) (n : Node) (l : Line) (p c k : ℕ) → 1 ≤ w.last → Happens w n l v → w.loaded c p k ≡ true → v.loaded c p k ≡ true
loaded_step w v n l p c k first h is = ⊎_elim
    (λ (own : (Part p ≡ n) × (view (Part p) v ≡ after_line l (view (Part p) w))). subst (λ (V : View). V.loaded c k ≡ true) (sym own.1) (loaded_line l (view (Part p) w) c k is))
    (λ (other : (same_node (Part p) n ≡ false) × (view (Part p) v ≡ view (Part p) w)). subst (λ (V : View). V.loaded c k ≡ true) (sym other.1) is)
    (view_step w v (Part p) n l first h)

-- ---- where the course begun last leaves a key

pub leaves : (w v : WorldValue) → SameLead w v → ((c p k : ℕ) → w.loaded c p k ≡ true → v.loaded c p k ≡ true)
    → ((c p k : ℕ) → IsShut (view (Part p) w) c k → IsShut (view (Part p) v) c k) → (k p : ℕ) → LeavesAt w w.last k p → LeavesAt v v.last k p
leaves w v lead loaded shut k p h = subst (λ n. LeavesAt v n k p) (sym lead.last) (⊎_elim
    (λ (x : (p ≡ owner_of (w.new w.last) k) × (owner_of (w.old w.last) k ≢ owner_of (w.new w.last) k → w.loaded w.last p k ≡ true)).
    inl (x.0 ∙ sym same_new, λ m. loaded w.last p k (x.1 (λ e. m (same_old ∙ e ∙ sym same_new)))))
    (λ (x : (p ≡ owner_of (w.old w.last) k) × (owner_of (w.old w.last) k ≢ owner_of (w.new w.last) k) × (w.given w.last p k ≡ false) × (w.closed w.last p ≡ true)).
    let s : IsShut (view (Part p) v) w.last k = shut w.last p k (record { closed = x.3; given = x.2 }) in
    inr (x.0 ∙ sym same_old, (λ e. x.1 (sym same_old ∙ e ∙ same_new)), s.given, s.closed))
    h)
  where
    same_new : owner_of (v.new w.last) k ≡ owner_of (w.new w.last) k
    same_new = ap (λ rs. owner_of rs k) (lead.new w.last)

    same_old : owner_of (v.old w.last) k ≡ owner_of (w.old w.last) k
    same_old = ap (λ rs. owner_of rs k) (lead.old w.last)
