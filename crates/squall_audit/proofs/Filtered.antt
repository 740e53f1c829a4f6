-- Runs of whose lines some are passed over, which make nothing of their node.
use Rattle.std.proofs.Common.{◌≡◌, ℕ, Bool, true, false, List, [], ◌∷◌, ◌++◌, refl, sym, ap, ◌∙◌, subst, inl, inr, ⊎_elim}
use Rattle.std.specs.List.{filter}
use Rattle.std.proofs.lemmas.Bool.{cases_Bool, cond-true, cond-false}
use Rattle.squall_protocol.specs.declared.event.Node.{Node}
use Rattle.squall_protocol.specs.declared.event.Node.TheVariants.{Part}
use Rattle.squall_protocol.specs.Worlds.{WorldValue, same_node}
use Rattle.squall_protocol.specs.Promises.{IsReached}
use Rattle.squall_protocol.proofs.ProtocolLaws.{course_begun}
use Rattle.squall_audit.specs.Lines.{Line, Gift, Trace, lines_at, View, view, after_line, after_lines}
use Rattle.squall_audit.proofs.Views.{logs_tell, same_self}
use Rattle.squall_audit.proofs.Left.{IsShut, shut_step, view_step}
use Rattle.squall_audit.proofs.Fates.{Has}
use Rattle.squall_audit.proofs.Walk.{Taken, next, line_elsewhere}

-- a partition that gives no more in a course gives none of its keys, however a run goes on
shut_trace : (s u : WorldValue) (t : List (Node × Line)) (p c k : ℕ) → IsReached s → Trace s t u → IsShut (view (Part p) s) c k → IsShut (view (Part p) u) c k
shut_trace s u [] p c k reached trace h = subst (λ w. IsShut (view (Part p) w) c k) (sym trace) h
shut_trace s u ((n, l) ∷ ts) p c k reached trace h =
    shut_trace trace.0 u ts p c k (next s trace.0 n l reached trace.1) trace.2 (shut_step s trace.0 n l p c k (course_begun s reached) trace.1 h)

module _ (keep : Line → Bool) (passed : (l : Line) (V : View) → keep l ≡ false → after_line l V ≡ V) where
  kept_lines : (ls : List Line) (V : View) → after_lines (filter keep ls) V ≡ after_lines ls V
  kept_lines [] V = refl
  kept_lines (l ∷ ls) V = ⊎_elim
      (λ (e : keep l ≡ true). ap (λ xs. after_lines xs V) (cond-true (keep l) (l ∷ filter keep ls) (filter keep ls) e) ∙ kept_lines ls (after_line l V))
      (λ (e : keep l ≡ false).
      ap (λ xs. after_lines xs V) (cond-false (keep l) (l ∷ filter keep ls) (filter keep ls) e) ∙ kept_lines ls V ∙ ap (after_lines ls) (sym (passed l V e)))
      (cases_Bool (keep l))

  kept_gift : (ls : List Line) (k : Line) → Has (filter keep ls) k → Has ls k
  kept_gift [] k h = h
  kept_gift (l ∷ ls) k h = ⊎_elim
      (λ (e : keep l ≡ true). ⊎_elim
      (λ (now : l ≡ k). inl now)
      (λ (later : Has (filter keep ls) k). inr (kept_gift ls k later))
      (subst (λ xs. Has xs k) (cond-true (keep l) (l ∷ filter keep ls) (filter keep ls) e) h))
      (λ (e : keep l ≡ false). inr (kept_gift ls k (subst (λ xs. Has xs k) (cond-false (keep l) (l ∷ filter keep ls) (filter keep ls) e) h)))
      (cases_Bool (keep l))

  same_head : (x y : Line) (xs ys : List Line) → x ∷ xs ≡ y ∷ ys → x ≡ y
  same_head x y xs ys e = cc

  same_tail : (x y : Line) (xs ys : List Line) → x ∷ xs ≡ y ∷ ys → xs ≡ ys
  same_tail x y xs ys e = cc

  -- so after the first lines of its own, too
  shut_later : (s u : WorldValue) (t : List (Node × Line)) (p : ℕ) (ks more : List Line) (c k : ℕ) → IsReached s → Trace s t u → filter keep (lines_at (Part p) t) ≡ ks ++ more
      → IsShut (after_lines ks (view (Part p) s)) c k → IsShut (view (Part p) u) c k
  shut_later s u t p [] more c k reached trace has h = shut_trace s u t p c k reached trace h
  shut_later s u [] p (x ∷ ks) more c k reached trace has h = absurd (cc)
  shut_later s u ((n, l) ∷ ts) p (x ∷ ks) more c k reached trace has h = ⊎_elim
      (λ (own : (Part p ≡ n) × (view (Part p) v ≡ after_line l (view (Part p) s))).
      let here : lines_at (Part p) ((n, l) ∷ ts) ≡ l ∷ lines_at (Part p) ts = cond-true (same_node (Part p) n) (l ∷ lines_at (Part p) ts) (lines_at (Part p) ts) (subst (λ m. same_node (Part p) m ≡ true) own.0 (same_self (Part p))) in
      ⊎_elim
      (λ (e : keep l ≡ true).
      let split : l ∷ filter keep (lines_at (Part p) ts) ≡ x ∷ (ks ++ more) = sym (ap (filter keep) here ∙ cond-true (keep l) (l ∷ filter keep (lines_at (Part p) ts)) (filter keep (lines_at (Part p) ts)) e) ∙ has in
      shut_later v u ts p ks more c k reached_then trace.2 (same_tail l x (filter keep (lines_at (Part p) ts)) (ks ++ more) split)
      (subst (λ V. IsShut (after_lines ks V) c k) (ap (λ y. after_line y (view (Part p) s)) (sym (same_head l x (filter keep (lines_at (Part p) ts)) (ks ++ more) split)) ∙ sym own.1) h))
      (λ (e : keep l ≡ false).
      let split : filter keep (lines_at (Part p) ts) ≡ x ∷ (ks ++ more) = sym (ap (filter keep) here ∙ cond-false (keep l) (l ∷ filter keep (lines_at (Part p) ts)) (filter keep (lines_at (Part p) ts)) e) ∙ has in
      shut_later v u ts p (x ∷ ks) more c k reached_then trace.2 split (subst (λ V. IsShut (after_lines (x ∷ ks) V) c k) (sym (own.1 ∙ passed l (view (Part p) s) e)) h))
      (cases_Bool (keep l)))
      (λ (other : (same_node (Part p) n ≡ false) × (view (Part p) v ≡ view (Part p) s)).
      shut_later v u ts p (x ∷ ks) more c k reached_then trace.2 (sym (ap (filter keep) (line_elsewhere (Part p) n l ts other.0)) ∙ has) (subst (λ V. IsShut (after_lines (x ∷ ks) V) c k) (sym other.1) h))
      (view_step s v (Part p) n l (course_begun s reached) trace.1)
    where
      v : WorldValue
      v = trace.0

      reached_then : IsReached v
      reached_then = next s v n l reached trace.1

  pub taken_by : (s u : WorldValue) (t : List (Node × Line)) → IsReached s → Trace s t u → Taken s u t (λ m. filter keep (lines_at m t))
  taken_by s u t reached trace =
      record {
        trace = trace;
        views = λ m. logs_tell s u t m reached trace ∙ sym (kept_lines (lines_at m t) (view m s));
        gift = λ m e x h. kept_gift (lines_at m t) (Gift e x) h;
        shut = λ p ks more c k has h. shut_later s u t p ks more c k reached trace has h;
      }
