-- A run of lines of some logs has no more lines than another, or some log of the other can go on: no choice has to be taken back.
use Rattle.std.proofs.Common.{◌≡◌, ℕ, true, false, List, [], ◌∷◌, ◌++◌, refl, sym, ap, ap₂, ◌∙◌, subst, inl, inr, ⊎_elim, append-nil}
use Rattle.std.specs.Prelude.{Some}
use Rattle.std.specs.List.{slice_get, filter}
use Rattle.squall_protocol.specs.declared.event.Node.{Node}
use Rattle.squall_protocol.specs.Worlds.{WorldValue}
use Rattle.squall_protocol.specs.Promises.{IsReached}
use Rattle.squall_audit.specs.Apart.{Grows}
use Rattle.squall_audit.specs.Lines.{Line, Saying, Happens, Trace, lines_at, after_lines}
use Rattle.squall_audit.specs.Merging.{Can, MergingIsComplete}
use Rattle.squall_audit.specs.Logs.{AreWritten}
use Rattle.squall_audit.proofs.Enabled.{IsThere, can_happen}
use Rattle.squall_audit.proofs.Fates.{Has, has_front, messages_stay, message_told, saying_there}
use Rattle.squall_audit.proofs.Walk.{Writing, Taken, NextLine, Few, sees, walk}
use Rattle.squall_audit.proofs.Filtered.{taken_by}

-- each line is written as it is
abbrev pub Itself : Line → List Line → Type 0
Itself l xs = xs ≡ l ∷ []

itself : Writing Itself
itself = record { view = λ l xs V is. ap (λ ys. after_lines ys V) is; gift = λ e x xs is. is }

all_written : (ls : List Line) → AreWritten Itself ls ls
all_written [] = refl
all_written (l ∷ ls) = (l ∷ [], ls, refl, refl, all_written ls)

written_all : (ls ks : List Line) → AreWritten Itself ls ks → ks ≡ ls
written_all [] ks h = h
written_all (l ∷ ls) ks h = h.3 ∙ ap₂ ◌++◌ h.2 (written_all ls h.1 h.4)

pub single : (l : Line) (r : List Line) (k : Line) (more : List Line) → l ∷ [] ≡ r ++ k ∷ more → (r ≡ []) × (k ≡ l)
single l [] k more e = (refl, cc)
single l (x ∷ []) k more e = absurd (cc)
single l (x ∷ y ∷ r) k more e = absurd (cc)

filter_all : (ls : List Line) → filter (λ l. true) ls ≡ ls
filter_all [] = refl
filter_all (l ∷ ls) = ap (λ xs. l ∷ xs) (filter_all ls)

module _ (s u : WorldValue) (t : List (Node × Line)) (reached : IsReached s) (trace : Trace s t u) where
  abbrev T : Node → List Line
  T m = lines_at m t

  taken : Taken s u t T
  taken = subst (Taken s u t) (λ i m. filter_all (lines_at m t) i) (taken_by (λ l. true) (λ l V e. absurd (no e)) s u t reached trace)
    where
      no : true ≡ false → ⊥
      no e = cc

  there : (p : List (Node × Line)) (K : Node → List Line) (v : WorldValue) (l : Line) → Few Itself s T p K v → IsThere v u l
  there p K v l few i q at line = ⊎_elim
      (λ (old : (j : ℕ) × (slice_get s.messages j ≡ Some q)). (old.0, messages_stay s u t old.0 q trace old.1))
      (λ (new : (m : Node) × Has (lines_at m p) (Saying q)).
      let b = few.begins new.0 in
      let here : Has (K new.0) (Saying q) = subst (λ xs. Has xs (Saying q)) (sym (written_all (lines_at new.0 p) (K new.0) (few.written new.0))) new.1 in
      saying_there s u t new.0 q trace (subst (λ xs. Has xs (Saying q)) (sym b.1) (has_front (K new.0) b.0 (Saying q) here)))
      (message_told s v p i q few.trace at)

  goes : (p : List (Node × Line)) (K : Node → List Line) (v z : WorldValue) (n : Node) (l : Line) (xs r : List Line) (k : Line) (more : List Line)
      → Few Itself s T p K v → Happens v n l z → Itself l xs → T n ≡ K n ++ r → xs ≡ r ++ k ∷ more → Can u n k
  goes p K v z n l xs r k more few h is has on =
      let one = single l r k more (sym is ∙ on) in
      subst (Can u n) (sym one.1)
      (can_happen v u z n l (sees Itself itself s u t T reached taken p K v few n (has ∙ ap (λ ys. K n ++ ys) one.0 ∙ append-nil (K n))) (there p K v l few) h)

pub merging_is_complete : MergingIsComplete
merging_is_complete s u v logs merged run reached trace of_logs all in_logs = ⊎_elim
    (λ (none : (m : Node) → Grows (lines_at m run) (lines_at m merged)). inl none)
    (λ (next : NextLine (Can u) logs (λ m. lines_at m merged)). inr (record { node = next.node; line = next.line; next_line = next.next_line; goes = next.goes }))
    (walk Itself itself s u merged (λ m. lines_at m merged) reached (taken s u merged reached trace) logs (λ m. lines_at m run) of_logs in_logs (Can u) (goes s u merged reached trace) run [] (λ m. []) s v
    (record { trace = refl; written = λ m. refl; begins = λ m. (lines_at m merged, refl) }) all (λ m. (lines_at m run, all_written (lines_at m run), refl)))
