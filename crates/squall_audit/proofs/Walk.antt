-- Two runs of lines of the same logs: the first has all that the second has, or can go on. Of each line is said how it may be written.
use Rattle.std.proofs.Common.{◌≡◌, ◌⊎◌, ℕ, ◌==◌, ◌&&◌, not, true, false, List, [], ◌∷◌, ◌++◌, refl, sym, ap, ap₂, ◌∙◌, subst, inl, inr, ⊎_elim, append-nil, append_assoc}
use Rattle.std.specs.Prelude.{Some, if◌then◌else◌}
use Rattle.std.specs.List.{slice_get, filter, list_any, range_with_len}
use Rattle.std.proofs.lemmas.Bool.{cases_Bool, cond-true, cond-false, or_left}
use Rattle.std.proofs.lemmas.List.Folds.{list_any-append}
use Rattle.squall_key.specs.Keys.{part_limit}
use Rattle.squall_plan.specs.Ranges.{names}
use Rattle.squall_report.specs.declared.report.ReportKind.TheVariants.{Done}
use Rattle.squall_protocol.specs.Chunks.{ChunkValue}
use Rattle.squall_protocol.specs.declared.event.Node.{Node}
use Rattle.squall_protocol.specs.declared.event.Node.TheVariants.{Leader, Part, Router}
use Rattle.squall_protocol.specs.declared.event.Event.{Event}
use Rattle.squall_protocol.specs.declared.event.Event.TheVariants.{OpenNext, Begin, BeginFrom, Close, Give, GiveAt, Load, Finish, Send, SendPart, Deliver, Route, Serve}
use Rattle.squall_protocol.specs.declared.answer.Answer.TheVariants.{Opened, Begun, Closed, Loaded, Finished}
use Rattle.squall_protocol.specs.Worlds.{WorldValue, first_course, is_part, same_node}
use Rattle.squall_protocol.specs.Promises.{IsReached}
use Rattle.squall_protocol.specs.WorldLaws.{reached_step}
use Rattle.squall_protocol.proofs.ProtocolLaws.{course_begun}
use Rattle.squall_audit.specs.Apart.{IsAt, Grows, SamePart, SameLead, Undisturbed}
use Rattle.squall_audit.specs.Lines.{Line, Own, Gift, Arrival, Hearing, Happens, Trace, lines_at, View, view, after_line, after_lines}
use Rattle.squall_audit.specs.Logs.{AreWritten}
use Rattle.squall_audit.proofs.Apart.{nodes_are_apart, stay}
use Rattle.squall_audit.proofs.Views.{logs_tell, same_self, same_nodes}
use Rattle.squall_audit.proofs.Left.{IsShut, leaves, loaded_lines}
use Rattle.squall_audit.proofs.Enabled.{Sees}
use Rattle.squall_audit.proofs.Fates.{Has, has_front, has_back, chunks_stay, chunk_told, gift_there}

-- ---- what never changes

away : (w : WorldValue) (e : Event) → (m : Node) × (IsAt w e m → ⊥)
away w OpenNext = (Router 0, λ h. cc)
away w (Begin plan) = (Router 0, λ h. cc)
away w (BeginFrom old new) = (Router 0, λ h. cc)
away w (Close p) = (Leader, λ h. cc)
away w (Give p most) = (Leader, λ h. cc)
away w (GiveAt p k) = (Leader, λ h. cc)
away w (Load i) = (Leader, λ h. no h.0 h.2)
  where
    no : (x : ChunkValue) → Leader ≡ Part x.dest → ⊥
    no x e = cc
away w (Finish p s) = (Leader, λ h. cc)
away w (Send Leader) = (Router 0, λ h. cc)
away w (Send (Part p)) = (Leader, λ h. cc)
away w (Send (Router r)) = (Leader, λ h. cc)
away w (SendPart Leader said) = (Router 0, λ h. cc)
away w (SendPart (Part p) said) = (Leader, λ h. cc)
away w (SendPart (Router r) said) = (Leader, λ h. cc)
away w (Deliver i Leader) = (Router 0, λ h. cc)
away w (Deliver i (Part p)) = (Leader, λ h. cc)
away w (Deliver i (Router r)) = (Leader, λ h. cc)
away w (Route r k) = (Leader, λ h. cc)
away w (Serve p k after) = (Leader, λ h. cc)

pub record Fixed (w u : WorldValue) : Type 0 where
  pub first : first_course u ≡ first_course w
  pub routers : u.routers ≡ w.routers

fixed_step : (w v : WorldValue) (m : Node) (l : Line) → IsReached w → Happens w m l v → Fixed w v
fixed_step w v m l reached h =
    let a = away w h.event in
    let d : Undisturbed w v a.0 = nodes_are_apart w v h.event h.answer a.0 (course_begun w reached) h.step a.1 in
    record { first = d.first; routers = d.routers }

pub next : (w v : WorldValue) (m : Node) (l : Line) → IsReached w → Happens w m l v → IsReached v
next w v m l reached h = reached_step w v h.event h.answer reached h.step

pub reached_by : (s u : WorldValue) (ts : List (Node × Line)) → IsReached s → Trace s ts u → IsReached u
reached_by s u [] reached trace = subst IsReached (sym trace) reached
reached_by s u ((n, l) ∷ ts) reached trace = reached_by trace.0 u ts (next s trace.0 n l reached trace.1) trace.2

pub fixed : (s u : WorldValue) (ts : List (Node × Line)) → IsReached s → Trace s ts u → Fixed s u
fixed s u [] reached trace = record { first = ap (λ w. first_course w) trace; routers = ap (λ (w : WorldValue). w.routers) trace }
fixed s u ((n, l) ∷ ts) reached trace =
    let one : Fixed s trace.0 = fixed_step s trace.0 n l reached trace.1 in
    let rest : Fixed trace.0 u = fixed trace.0 u ts (next s trace.0 n l reached trace.1) trace.2 in
    record { first = rest.first ∙ one.first; routers = rest.routers ∙ one.routers }

-- ---- partitions

line_grows : (l : Line) (V : View) → Grows V.parts (after_line l V).parts
line_grows (Own OpenNext (Opened s)) V = stay V.parts
line_grows (Own (Begin plan) (Begun n k)) V = (filter (λ p. names plan p && not (list_any (λ q. q == p) V.parts)) (range_with_len 0 part_limit), refl)
line_grows (Own (BeginFrom old new) (Begun n k)) V = (filter (λ p. names new p && not (list_any (λ q. q == p) V.parts)) (range_with_len 0 part_limit), refl)
line_grows (Own (Close p) (Closed n)) V = stay V.parts
line_grows (Own (Finish p s) (Finished (Done n t q))) V = stay V.parts
line_grows (Gift e x) V = stay V.parts
line_grows (Arrival x (Loaded report)) V = stay V.parts
line_grows (Hearing message) V = stay V.parts
line_grows l V = stay V.parts

lines_grow : (ls : List Line) (V : View) → Grows V.parts (after_lines ls V).parts
lines_grow [] V = stay V.parts
lines_grow (l ∷ ls) V =
    let one = line_grows l V in
    let rest = lines_grow ls (after_line l V) in
    (one.0 ++ rest.0, rest.1 ∙ ap (λ xs. xs ++ rest.0) one.1 ∙ append_assoc V.parts one.0 rest.0)

pub after_both : (xs ys : List Line) (V : View) → after_lines (xs ++ ys) V ≡ after_lines ys (after_lines xs V)
after_both [] ys V = refl
after_both (x ∷ xs) ys V = after_both xs ys (after_line x V)

-- ---- lists of lines

cond_append : (m n : Node) (l : Line) (xs ys : List Line) → (if same_node m n then l ∷ (xs ++ ys) else xs ++ ys) ≡ (if same_node m n then l ∷ xs else xs) ++ ys
cond_append m n l xs ys = ⊎_elim
    (λ (e : same_node m n ≡ true). cond-true (same_node m n) (l ∷ (xs ++ ys)) (xs ++ ys) e ∙ ap (λ zs. zs ++ ys) (sym (cond-true (same_node m n) (l ∷ xs) xs e)))
    (λ (e : same_node m n ≡ false). cond-false (same_node m n) (l ∷ (xs ++ ys)) (xs ++ ys) e ∙ ap (λ zs. zs ++ ys) (sym (cond-false (same_node m n) (l ∷ xs) xs e)))
    (cases_Bool (same_node m n))

pub lines_both : (m : Node) (a b : List (Node × Line)) → lines_at m (a ++ b) ≡ lines_at m a ++ lines_at m b
lines_both m [] b = refl
lines_both m ((n, l) ∷ ts) b =
    ap (λ xs. if same_node m n then l ∷ xs else xs) (lines_both m ts b) ∙ cond_append m n l (lines_at m ts) (lines_at m b)

pub line_here : (n : Node) (l : Line) (ts : List (Node × Line)) → lines_at n ((n, l) ∷ ts) ≡ l ∷ lines_at n ts
line_here n l ts = cond-true (same_node n n) (l ∷ lines_at n ts) (lines_at n ts) (same_self n)

pub line_elsewhere : (m n : Node) (l : Line) (ts : List (Node × Line)) → same_node m n ≡ false → lines_at m ((n, l) ∷ ts) ≡ lines_at m ts
line_elsewhere m n l ts e = cond-false (same_node m n) (l ∷ lines_at m ts) (lines_at m ts) e

pub trace_both : (s v z : WorldValue) (p q : List (Node × Line)) → Trace s p v → Trace v q z → Trace s (p ++ q) z
trace_both s v z [] q few more = subst (λ w. Trace w q z) few more
trace_both s v z ((m, k) ∷ ts) q few more = (few.0, few.1, trace_both few.0 v z ts q few.2 more)

pub trace_one : (v z : WorldValue) (n : Node) (l : Line) → Happens v n l z → Trace v ((n, l) ∷ []) z
trace_one v z n l h = (z, h, refl)

cancel : (ks xs ys : List Line) → ks ++ xs ≡ ks ++ ys → xs ≡ ys
cancel [] xs ys e = e
cancel (k ∷ ks) xs ys e = cancel ks xs ys (tail (ks ++ xs) (ks ++ ys) e)
  where
    tail : (ms ns : List Line) → k ∷ ms ≡ k ∷ ns → ms ≡ ns
    tail ms ns g = cc

-- of two lists with which one begins, the second goes on, or the first has all of it
compare : (r x xs ys : List Line) → r ++ x ≡ xs ++ ys → ((more : List Line) × (r ≡ xs ++ more)) ⊎ ((l : Line) × (more : List Line) × (xs ≡ r ++ l ∷ more))
compare r x [] ys e = inl (r, refl)
compare [] x (y ∷ xs) ys e = inr (y, xs, refl)
compare (k ∷ r) x (y ∷ xs) ys e = ⊎_elim
    (λ (all : (more : List Line) × (r ≡ xs ++ more)). inl (all.0, ap₂ ◌∷◌ (head (r ++ x) (xs ++ ys) e) all.1))
    (λ (on : (l : Line) × (more : List Line) × (xs ≡ r ++ l ∷ more)). inr (on.0, on.1, ap₂ ◌∷◌ (sym (head (r ++ x) (xs ++ ys) e)) on.2))
    (compare r x xs ys (tail (r ++ x) (xs ++ ys) e))
  where
    head : (ms ns : List Line) → k ∷ ms ≡ y ∷ ns → k ≡ y
    head ms ns g = cc

    tail : (ms ns : List Line) → k ∷ ms ≡ y ∷ ns → ms ≡ ns
    tail ms ns g = cc

-- what holds at one node, and at each other one, holds at each
pub at_each : (n : Node) (P : Node → Type 0) → P n → ((m : Node) → same_node m n ≡ false → P m) → (m : Node) → P m
at_each n P here others m = ⊎_elim (λ (e : same_node m n ≡ true). subst P (sym (same_nodes m n e)) here) (λ (e : same_node m n ≡ false). others m e) (cases_Bool (same_node m n))

-- lines more, of one node
abbrev add : (Node → List Line) → Node → List Line → Node → List Line
add K n xs m = if same_node m n then K m ++ xs else K m

add_here : (K : Node → List Line) (n : Node) (xs : List Line) → add K n xs n ≡ K n ++ xs
add_here K n xs = cond-true (same_node n n) (K n ++ xs) (K n) (same_self n)

add_there : (K : Node → List Line) (n : Node) (xs : List Line) (m : Node) → same_node m n ≡ false → add K n xs m ≡ K m
add_there K n xs m e = cond-false (same_node m n) (K m ++ xs) (K m) e

shift : (a r : List Line) (y : Line) (b c d : List Line) → (a ++ ((r ++ y ∷ b) ++ c)) ++ d ≡ ((a ++ r) ++ y ∷ []) ++ (b ++ (c ++ d))
shift [] [] y b c d = ap (λ ys. y ∷ ys) (append_assoc b c d)
shift [] (x ∷ r) y b c d = ap (λ ys. x ∷ ys) (shift [] r y b c d)
shift (x ∷ a) r y b c d = ap (λ ys. x ∷ ys) (shift a r y b c d)

-- ---- two runs

-- what may be written of a line: what is written makes of its node what the line makes, and a gift is written as it is
pub record Writing (Is : Line → List Line → Type 0) : Type 0 where
  pub view : (l : Line) (xs : List Line) (V : View) → Is l xs → after_lines xs V ≡ after_line l V
  pub gift : (e : Event) (x : ChunkValue) (xs : List Line) → Is (Gift e x) xs → xs ≡ Gift e x ∷ []

-- A run from s to u, and what of its lines is taken at each node: that makes of the node what the run made, and has only gifts of the run.
-- A partition that gives no more after the first of its lines gives no more at the end.
pub record Taken (s u : WorldValue) (t : List (Node × Line)) (T : Node → List Line) : Type 0 where
  pub trace : Trace s t u
  pub views : (m : Node) → view m u ≡ after_lines (T m) (view m s)
  pub gift : (m : Node) (e : Event) (x : ChunkValue) → Has (T m) (Gift e x) → Has (lines_at m t) (Gift e x)
  pub shut : (p : ℕ) (ks more : List Line) (c k : ℕ) → T (Part p) ≡ ks ++ more → IsShut (after_lines ks (view (Part p) s)) c k → IsShut (view (Part p) u) c k

-- the next line of some log
pub record NextLine (Goes : Node → Line → Type 0) (logs T : Node → List Line) : Type 0 where
  pub node : Node
  pub line : Line
  pub next_line : Grows (T node ++ line ∷ []) (logs node)
  pub goes : Goes node line

-- a run to v, of lines that were taken
pub record Few (Is : Line → List Line → Type 0) (s : WorldValue) (T : Node → List Line) (p : List (Node × Line)) (K : Node → List Line) (v : WorldValue) : Type 0 where
  pub trace : Trace s p v
  pub written : (m : Node) → AreWritten Is (lines_at m p) (K m)
  pub begins : (m : Node) → Grows (K m) (T m)

module _ (Is : Line → List Line → Type 0) (writing : Writing Is) where
  written_view : (ls ks : List Line) (V : View) → AreWritten Is ls ks → after_lines ks V ≡ after_lines ls V
  written_view [] ks V h = ap (λ xs. after_lines xs V) h
  written_view (l ∷ ls) ks V h =
      ap (λ xs. after_lines xs V) h.3 ∙ after_both h.0 h.1 V ∙ ap (after_lines h.1) (writing.view l h.0 V h.2) ∙ written_view ls h.1 (after_line l V) h.4

  written_gift : (ls ks : List Line) (e : Event) (x : ChunkValue) → AreWritten Is ls ks → Has ls (Gift e x) → Has ks (Gift e x)
  written_gift [] ks e x h has = absurd has
  written_gift (l ∷ ls) ks e x h has = subst (λ xs. Has xs (Gift e x)) (sym h.3) (⊎_elim
      (λ (now : l ≡ Gift e x).
      let is : h.0 ≡ Gift e x ∷ [] = writing.gift e x h.0 (subst (λ k. Is k h.0) now h.2) in
      has_front h.0 h.1 (Gift e x) (subst (λ xs. Has xs (Gift e x)) (sym is) (inl refl)))
      (λ (later : Has ls (Gift e x)). has_back h.0 h.1 (Gift e x) (written_gift ls h.1 e x h.4 later))
      has)

  written_more : (ls ks : List Line) (l : Line) (xs : List Line) → AreWritten Is ls ks → Is l xs → AreWritten Is (ls ++ l ∷ []) (ks ++ xs)
  written_more [] ks l xs h is = (xs, [], is, ap (λ zs. zs ++ xs) h ∙ sym (append-nil xs), refl)
  written_more (k ∷ ls) ks l xs h is = (h.0, h.1 ++ xs, h.2, ap (λ zs. zs ++ xs) h.3 ∙ append_assoc h.0 h.1 xs, written_more ls h.1 l xs h.4 is)

  module _ (s u : WorldValue) (t : List (Node × Line)) (T : Node → List Line) (reached : IsReached s) (taken : Taken s u t T) where
    module _ (p : List (Node × Line)) (K : Node → List Line) (v : WorldValue) (few : Few Is s T p K v) where
      few_view : (m : Node) → view m v ≡ after_lines (K m) (view m s)
      few_view m = logs_tell s v p m reached few.trace ∙ sym (written_view (lines_at m p) (K m) (view m s) (few.written m))

      -- what the lines that are left make of a node
      pub view_more : (m : Node) → view m u ≡ after_lines (few.begins m).0 (view m v)
      view_more m =
          let b = few.begins m in
          taken.views m ∙ ap (λ ls. after_lines ls (view m s)) b.1 ∙ after_both (K m) b.0 (view m s) ∙ ap (after_lines b.0) (sym (few_view m))

      unchanged_view : (m : Node) → T m ≡ K m → view m u ≡ view m v
      unchanged_view m same = taken.views m ∙ ap (λ ls. after_lines ls (view m s)) same ∙ sym (few_view m)

      pub parts_there : (q : ℕ) → is_part v q ≡ true → is_part u q ≡ true
      parts_there q is =
          let g = lines_grow (few.begins Leader).0 (view Leader v) in
          let all : u.parts ≡ v.parts ++ g.0 = ap (λ (V : View). V.parts) (view_more Leader) ∙ g.1 in
          subst (λ xs. list_any (λ r. r == q) xs ≡ true) (sym all) (list_any-append (λ r. r == q) v.parts g.0 ∙ or_left (is_part v q) (list_any (λ r. r == q) g.0) is)

      chunks_there : (i : ℕ) (x : ChunkValue) → slice_get v.chunks i ≡ Some x → (j : ℕ) × (slice_get u.chunks j ≡ Some x)
      chunks_there i x at = ⊎_elim
          (λ (old : (j : ℕ) × (slice_get s.chunks j ≡ Some x)). (old.0, chunks_stay s u t old.0 x taken.trace old.1))
          (λ (new : (e : Event) × Has (lines_at (Part x.source) p) (Gift e x)).
          let m : Node = Part x.source in
          let b = few.begins m in
          let here : Has (T m) (Gift new.0 x) =
          subst (λ xs. Has xs (Gift new.0 x)) (sym b.1) (has_front (K m) b.0 (Gift new.0 x) (written_gift (lines_at m p) (K m) new.0 x (few.written m) new.1)) in
          gift_there s u t m new.0 x taken.trace (taken.gift m new.0 x here))
          (chunk_told s v p i x few.trace at)

      still_loaded : (c q k : ℕ) → v.loaded c q k ≡ true → u.loaded c q k ≡ true
      still_loaded c q k is = subst (λ (V : View). V.loaded c k ≡ true) (sym (view_more (Part q))) (loaded_lines (few.begins (Part q)).0 (view (Part q) v) c k is)

      still_shut : (c q k : ℕ) → IsShut (view (Part q) v) c k → IsShut (view (Part q) u) c k
      still_shut c q k is = let b = few.begins (Part q) in taken.shut q (K (Part q)) b.0 c k b.1 (subst (λ V. IsShut V c k) (few_view (Part q)) is)

      told_of : (n : Node) (w : WorldValue) → (view n w).told ≡ w.facts n
      told_of Leader w = refl
      told_of (Part q) w = refl
      told_of (Router r) w = refl

      part_of : (q : ℕ) → view (Part q) u ≡ view (Part q) v → SamePart v u q
      part_of q e =
          record {
            held = λ k. ap (λ (V : View). V.held k) e;
            closed = λ n. ap (λ (V : View). V.closed n) e;
            given = λ n k. ap (λ (V : View). V.given n k) e;
            loaded = λ n k. ap (λ (V : View). V.loaded n k) e;
          }

      lead_of : view Leader u ≡ view Leader v → SameLead v u
      lead_of e =
          record {
            old = λ n. ap (λ (V : View). V.old n) e;
            new = λ n. ap (λ (V : View). V.new n) e;
            last = ap (λ (V : View). V.last) e;
            opened = λ n. ap (λ (V : View). V.opened n) e;
            parts = ap (λ (V : View). V.parts) e;
          }

      same_start : Fixed v u
      same_start =
          let f : Fixed s u = fixed s u t reached taken.trace in
          let g : Fixed s v = fixed s v p reached few.trace in
          record { first = f.first ∙ sym g.first; routers = f.routers ∙ sym g.routers }

      pub same_routers : u.routers ≡ v.routers
      same_routers = same_start.routers

      -- to a node all of whose lines so far are in both runs, the longer one is as good
      pub sees : (n : Node) → T n ≡ K n → Sees v u n
      sees n same =
          let e : view n u ≡ view n v = unchanged_view n same in
          record {
            told = sym (told_of n u) ∙ ap (λ (V : View). V.told) e ∙ told_of n v;
            part = λ q is. part_of q (subst (λ m. view m u ≡ view m v) is e);
            lead = λ is. lead_of (subst (λ m. view m u ≡ view m v) is e);
            left = λ is. leaves v u (lead_of (subst (λ m. view m u ≡ view m v) is e)) still_loaded still_shut;
            first = same_start.first;
            routers = same_start.routers;
            parts = parts_there;
            chunks = chunks_there;
          }

    -- one line more
    next_few : (p : List (Node × Line)) (K : Node → List Line) (v z : WorldValue) (n : Node) (l : Line) (xs more : List Line) → Few Is s T p K v → Happens v n l z → Is l xs → T n ≡ (K n ++ xs) ++ more
        → Few Is s T (p ++ (n, l) ∷ []) (add K n xs) z
    next_few p K v z n l xs more few h is has =
        record {
          trace = trace_both s v z p ((n, l) ∷ []) few.trace (trace_one v z n l h);
          written = at_each n (λ m. AreWritten Is (lines_at m (p ++ (n, l) ∷ [])) (add K n xs m))
              (subst (λ ks. AreWritten Is (lines_at n (p ++ (n, l) ∷ [])) ks) (sym (add_here K n xs))
              (subst (λ ls. AreWritten Is ls (K n ++ xs)) (sym (lines_both n p ((n, l) ∷ []) ∙ ap (λ ls. lines_at n p ++ ls) (line_here n l []))) (written_more (lines_at n p) (K n) l xs (few.written n) is)))
              (λ m e. subst (λ ks. AreWritten Is (lines_at m (p ++ (n, l) ∷ [])) ks) (sym (add_there K n xs m e))
              (subst (λ ls. AreWritten Is ls (K m)) (sym (lines_both m p ((n, l) ∷ []) ∙ ap (λ ls. lines_at m p ++ ls) (line_elsewhere m n l [] e) ∙ append-nil (lines_at m p))) (few.written m)));
          begins = at_each n (λ m. Grows (add K n xs m) (T m)) (more, has ∙ ap (λ ks. ks ++ more) (sym (add_here K n xs))) (λ m e. subst (λ ks. Grows ks (T m)) (sym (add_there K n xs m e)) (few.begins m));
        }

    module _ (logs other : Node → List Line) (of_logs : (m : Node) → Grows (T m) (logs m)) (in_logs : (m : Node) → Grows (other m) (logs m)) (Goes : Node → Line → Type 0)
        (goes : (p : List (Node × Line)) (K : Node → List Line) (v z : WorldValue) (n : Node) (l : Line) (xs r : List Line) (k : Line) (more : List Line)
        → Few Is s T p K v → Happens v n l z → Is l xs → T n ≡ K n ++ r → xs ≡ r ++ k ∷ more → Goes n k) where
      abbrev Left : List (Node × Line) → (Node → List Line) → Node → Type 0
      Left q K m = (ks : List Line) × AreWritten Is (lines_at m q) ks × (other m ≡ K m ++ ks)

      abbrev Merged : Type 0
      Merged = ((m : Node) → Grows (other m) (T m)) ⊎ NextLine Goes logs T

      pub walk : (q p : List (Node × Line)) (K : Node → List Line) (v z : WorldValue) → Few Is s T p K v → Trace v q z → ((m : Node) → Left q K m) → Merged
      walk [] p K v z few rest left = inl (λ m. subst (λ ks. Grows ks (T m)) (sym ((left m).2 ∙ ap (λ ks. K m ++ ks) (left m).1 ∙ append-nil (K m))) (few.begins m))
      walk ((n, l) ∷ qs) p K v z few rest left = at_node (λ p_more K_more few_more left_more. walk qs p_more K_more rest.0 z few_more rest.2 left_more) (subst (λ ls. (ks : List Line) × AreWritten Is ls ks × (other n ≡ K n ++ ks)) (line_here n l qs) (left n))
        where
          Again : Type 0
          Again = (p_more : List (Node × Line)) (K_more : Node → List Line) → Few Is s T p_more K_more rest.0 → ((m : Node) → Left qs K_more m) → Merged

          on : Again → (xs ks : List Line) → Is l xs → AreWritten Is (lines_at n qs) ks → other n ≡ K n ++ (xs ++ ks)
              → ((more : List Line) × ((few.begins n).0 ≡ xs ++ more)) ⊎ ((k : Line) × (more : List Line) × (xs ≡ (few.begins n).0 ++ k ∷ more)) → Merged
          on again xs ks is written has (inl (more, all)) = again (p ++ (n, l) ∷ []) (add K n xs)
              (next_few p K v rest.0 n l xs more few rest.1 is ((few.begins n).1 ∙ ap (λ ys. K n ++ ys) all ∙ sym (append_assoc (K n) xs more)))
              (at_each n (Left qs (add K n xs)) (ks, written, has ∙ sym (append_assoc (K n) xs ks) ∙ ap (λ ys. ys ++ ks) (sym (add_here K n xs)))
              (λ m e. ((left m).0, subst (λ ls. AreWritten Is ls (left m).0) (line_elsewhere m n l qs e) (left m).1, (left m).2 ∙ ap (λ ys. ys ++ (left m).0) (sym (add_there K n xs m e)))))
          on again xs ks is written has (inr (k, more, goes_on)) =
              inr (record {
                node = n;
                line = k;
                next_line = (
                  more ++ (ks ++ (in_logs n).0),
                  (in_logs n).1 ∙ ap (λ ys. ys ++ (in_logs n).0) (has ∙ ap (λ ys. K n ++ (ys ++ ks)) goes_on) ∙ shift (K n) (few.begins n).0 k more ks (in_logs n).0
                      ∙ ap (λ ys. (ys ++ k ∷ []) ++ (more ++ (ks ++ (in_logs n).0))) (sym (few.begins n).1),
                );
                goes = goes p K v rest.0 n l xs (few.begins n).0 k more few rest.1 is (few.begins n).1 goes_on;
              })

          at_node : Again → ((ks : List Line) × AreWritten Is (l ∷ lines_at n qs) ks × (other n ≡ K n ++ ks)) → Merged
          at_node again (ks, (xs, rest_ks, is, split, written), has) =
              let all : other n ≡ K n ++ (xs ++ rest_ks) = has ∙ ap (λ ys. K n ++ ys) split in
              on again xs rest_ks is written all
              (compare (few.begins n).0 (of_logs n).0 xs (rest_ks ++ (in_logs n).0)
              (cancel (K n) ((few.begins n).0 ++ (of_logs n).0) (xs ++ (rest_ks ++ (in_logs n).0))
              (sym (append_assoc (K n) (few.begins n).0 (of_logs n).0) ∙ ap (λ ys. ys ++ (of_logs n).0) (sym (few.begins n).1) ∙ sym (of_logs n).1 ∙ (in_logs n).1
              ∙ ap (λ ys. ys ++ (in_logs n).0) all ∙ append_assoc (K n) (xs ++ rest_ks) (in_logs n).0 ∙ ap (λ ys. K n ++ ys) (append_assoc xs rest_ks (in_logs n).0))))
